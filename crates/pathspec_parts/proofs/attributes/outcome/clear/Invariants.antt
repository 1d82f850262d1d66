use Rattle.std.proofs.Common.{◌≡◌, ◌++◌, map, take, drop}
use Rattle.pathspec_parts.specs.AttributeStates.{assignment_view}
use Rattle.pathspec_parts.specs.Outcomes.{reset_states}
use Rattle.pathspec_parts.proofs.attributes.outcome.clear.Given as goal

abbrev pub invariant-loop-place : goal.invariant-loop-place
invariant-loop-place l =
    map assignment_view l.places ≡ reset_states (take l.place-index (map assignment_view l.fn.places)) ++ drop l.place-index (map assignment_view l.fn.places)
