-- The places so far have the states that are listed there, so what is left decides.
use Rattle.std.proofs.Common.{◌≡◌, drop, map}
use Rattle.gix_pathspec.specs.AttributeStates.{assignment_view}
use Rattle.gix_pathspec.specs.Outcomes.{states_of}
use Rattle.gix_pathspec.specs.Matching.{have_states}
use Rattle.gix_pathspec.proofs.search.spec_matching.have_states.Given as goal

abbrev pub invariant-loop-place : goal.invariant-loop-place
invariant-loop-place l = have_states (drop l.place (states_of l.outcome)) (drop l.place (map assignment_view l.assignments)) ≡ have_states (states_of l.outcome) (map assignment_view l.assignments)
