-- What the view becomes, and from it the other two.
use Rattle.std.proofs.Common.{arith, rules}
use Rattle.std.proofs.lemmas.Grind.{common_steps}
use Rattle.pathspec_parts.proofs.OutcomeProofs.{is_reset, same_names}
use Rattle.pathspec_parts.proofs.attributes.outcome.Outcome.reset.Goals as goal

pub returns-clause-reset_states : goal.returns-clause-reset_states
returns-clause-reset_states c = first_of (search rules, grind (arith, common_steps))

pub returns-clause-is_reset : goal.returns-clause-is_reset
returns-clause-is_reset c = is_reset _ _ (returns-clause-reset_states c)

pub returns-clause-names : goal.returns-clause-names
returns-clause-names c = same_names _ _ (returns-clause-reset_states c)
