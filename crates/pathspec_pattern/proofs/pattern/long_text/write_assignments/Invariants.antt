use Rattle.std.proofs.Common.{◌≡◌, ◌++◌, take, map}
use Rattle.pathspec_parts.specs.AttributeStates.{assignment_view}
use Rattle.pathspec_pattern.specs.LongText.{list_text}
use Rattle.pathspec_pattern.proofs.pattern.long_text.write_assignments.Given as goal

abbrev pub invariant-loop-index : goal.invariant-loop-index
invariant-loop-index l = l.text.items ≡ l.fn.text.items ++ list_text (take l.index (map assignment_view l.assignments))
