-- One more place is as listed, or it is the first that isn't.
use Rattle.std.proofs.Common.{◌≡◌, false, true, map, sym, ◌∙◌}
use Rattle.pathspec_parts.specs.AttributeStates.{state_view, state_ref_view, assignment_view}
use Rattle.pathspec_parts.specs.Outcomes.{states_of}
use Rattle.gix_pathspec.specs.Matching.{same_state}
use Rattle.pathspec_explain.proofs.StateProofs.{have_states-more, listed-at}
use Rattle.pathspec_explain.proofs.states.first_other.Goals as goal

pub returns-then-not-is_same_state : goal.returns-then-not-is_same_state
returns-then-not-is_same_state c =
    let other : same_state (state_ref_view c.state.result) (state_view c.index-assignments-place.result.state) ≡ false = cc in
    record {
      before = c.loop-place.invariant;
      wanted = assignment_view c.index-assignments-place.result;
      state = state_ref_view c.state.result;
      is_listed = listed-at c.args.assignments.now c.loop-place.place c.index-assignments-place.result c.loop-place-test.true c.index-assignments-place.is;
      is_state = sym c.state.ensures;
      other = other;
    }

pub loop-place-preserved : goal.loop-place-preserved
loop-place-preserved c =
    let same : same_state (state_ref_view c.state.result) (state_view c.index-assignments-place.result.state) ≡ true = cc in
    have_states-more (states_of c.args.outcome.now) (map assignment_view c.args.assignments.now) c.loop-place.place (state_ref_view c.state.result) (assignment_view c.index-assignments-place.result) (sym c.state.ensures) (listed-at c.args.assignments.now c.loop-place.place c.index-assignments-place.result c.loop-place-test.true c.index-assignments-place.is) c.loop-place.invariant ∙ same
