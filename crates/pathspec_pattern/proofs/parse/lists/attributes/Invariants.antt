use Rattle.std.proofs.Common.{◌≡◌, map, length}
use Rattle.pathspec_parts.specs.AttributeStates.{assignment_view}
use Rattle.pathspec_pattern.proofs.ListProofs.{in_front, list_from}
use Rattle.pathspec_pattern.proofs.parse.lists.attributes.Given as goal

abbrev pub invariant-loop-rest : goal.invariant-loop-rest
invariant-loop-rest l = list_from l.fn.list ≡ in_front (map assignment_view l.assignments.items) (list_from l.rest)

abbrev pub decreases-loop-rest : goal.decreases-loop-rest
decreases-loop-rest l = length l.rest
