-- A reset outcome has no state, and no row gives it one.
use Rattle.std.proofs.Common.{ap, true}
use Rattle.pathspec_parts.specs.Outcomes.{reply_of}
use Rattle.pathspec_parts.proofs.OutcomeProofs.{reset_places}
use Rattle.pathspec_c.proofs.empty_rows.EmptyRowsLookUp.look_up.Goals as goal

pub returns-clause-answer : goal.returns-clause-answer
returns-clause-answer c = λ reset. ap (reply_of true) (reset_places _ reset)
