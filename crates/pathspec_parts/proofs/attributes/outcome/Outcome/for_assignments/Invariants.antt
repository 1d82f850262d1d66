use Rattle.std.proofs.Common.{◌≡◌, map, take}
use Rattle.pathspec_parts.specs.AttributeStates.{assignment_view}
use Rattle.pathspec_parts.specs.Outcomes.{reset_states}
use Rattle.pathspec_parts.proofs.attributes.outcome.Outcome.for_assignments.Given as goal

abbrev pub invariant-loop-assignment : goal.invariant-loop-assignment
invariant-loop-assignment l = map assignment_view l.places.items ≡ reset_states (map assignment_view (take l.assignment-index l.assignments))
