use Rattle.std.proofs.Common.{◌≡◌, take}
use Rattle.pathspec_parts.specs.Paths.{join_names}
use Rattle.pathspec_pattern.proofs.pattern.normalize.write_names.Given as goal

abbrev pub invariant-loop-index : goal.invariant-loop-index
invariant-loop-index l = l.path.items ≡ join_names (take l.index l.stack.names)
