-- One more place decides, or the rest does.
use Rattle.std.proofs.Common.{◌≡◌, false, true, refl, sym, ◌∙◌}
use Rattle.std.proofs.lemmas.List.{length-map}
use Rattle.gix_pathspec.specs.AttributeStates.{state_view, state_ref_view}
use Rattle.gix_pathspec.specs.Outcomes.{states_of}
use Rattle.gix_pathspec.specs.Matching.{same_state}
use Rattle.gix_pathspec.proofs.FoundProofs.{have_states-more}
use Rattle.gix_pathspec.proofs.search.spec_matching.have_states.Goals as goal

pub returns-then-not-is_same_state : goal.returns-then-not-is_same_state
returns-then-not-is_same_state c =
    let other : same_state (state_ref_view c.state.result) (state_view c.index-assignments-place.result.state) ≡ false = cc in
    let more = have_states-more (states_of c.args.outcome.now) c.args.assignments.now c.loop-place.place (state_ref_view c.state.result) c.index-assignments-place.result (length-map _ _ ∙ c.requires) c.loop-place-test.true c.state.ensures c.index-assignments-place.is in
    sym (sym c.loop-place.invariant ∙ more ∙ (rw other refl))

pub loop-place-preserved : goal.loop-place-preserved
loop-place-preserved c =
    let same : same_state (state_ref_view c.state.result) (state_view c.index-assignments-place.result.state) ≡ true = cc in
    let more = have_states-more (states_of c.args.outcome.now) c.args.assignments.now c.loop-place.place (state_ref_view c.state.result) c.index-assignments-place.result (length-map _ _ ∙ c.requires) c.loop-place-test.true c.state.ensures c.index-assignments-place.is in
    sym (rw same at more) ∙ c.loop-place.invariant
