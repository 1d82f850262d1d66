use Rattle.pathspec_parts.proofs.OutcomeProofs.{state_read}
use Rattle.pathspec_parts.proofs.attributes.outcome.Outcome.state.Goals as goal

pub returns : goal.returns
returns c = state_read c.self.inside.places.items _ _ c.index.result.now _ c.self.view_is c.requires c.index.ensures c.as_ref.ensures
