-- A reset outcome has no state.
use Rattle.std.proofs.Common.{ap, false}
use Rattle.pathspec_parts.specs.Outcomes.{reply_of}
use Rattle.pathspec_parts.proofs.OutcomeProofs.{reset_places}
use Rattle.pathspec_parts.proofs.attributes.no_attributes.NoAttributesLookUp.look_up.Goals as goal

pub returns-clause-answer : goal.returns-clause-answer
returns-clause-answer c = λ reset. ap (reply_of false) (reset_places _ reset)
