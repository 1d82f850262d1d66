use Rattle.std.proofs.Common.{◌≡◌, map, length}
use Rattle.pathspec_parts.specs.AttributeStates.{assignment_view}
use Rattle.pathspec_attributes.specs.Readings.{assignments_of}
use Rattle.pathspec_attributes.proofs.WordProofs.{in_front}
use Rattle.pathspec_attributes.proofs.assignments.assignments.Given as goal

abbrev pub invariant-loop-rest : goal.invariant-loop-rest
invariant-loop-rest l = assignments_of l.fn.text ≡ in_front (map assignment_view l.assignments.items) (assignments_of l.rest)

abbrev pub decreases-loop-rest : goal.decreases-loop-rest
decreases-loop-rest l = length l.rest
