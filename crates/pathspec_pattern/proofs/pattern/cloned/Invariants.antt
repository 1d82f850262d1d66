use Rattle.std.proofs.Common.{◌≡◌, map, take}
use Rattle.pathspec_parts.specs.AttributeStates.{assignment_view}
use Rattle.pathspec_pattern.proofs.pattern.cloned.Given as goal

abbrev pub invariant-loop-assignment : goal.invariant-loop-assignment
invariant-loop-assignment l = map assignment_view l.copy.items ≡ map assignment_view (take l.assignment-index l.assignments)
