-- The places so far have the states that are listed there.
use Rattle.std.proofs.Common.{◌≡◌, true, map, take}
use Rattle.pathspec_parts.specs.AttributeStates.{assignment_view}
use Rattle.pathspec_parts.specs.Outcomes.{states_of}
use Rattle.gix_pathspec.specs.Matching.{have_states}
use Rattle.pathspec_explain.proofs.states.first_other.Given as goal

abbrev pub invariant-loop-place : goal.invariant-loop-place
invariant-loop-place l = have_states (take l.place (states_of l.outcome)) (take l.place (map assignment_view l.assignments)) ≡ true
