-- Setting keeps the names.
use Rattle.std.proofs.Common.{◌∙◌, ap, arith, rules}
use Rattle.std.proofs.lemmas.Grind.{common_steps}
use Rattle.pathspec_parts.specs.Outcomes.{names_of}
use Rattle.pathspec_parts.proofs.OutcomeProofs.{names_of-set_state}
use Rattle.pathspec_parts.proofs.attributes.outcome.Outcome.set.Goals as goal

pub returns-clause-ok : goal.returns-clause-ok
returns-clause-ok c = first_of (search rules, grind (arith, common_steps))

pub returns-clause-names : goal.returns-clause-names
returns-clause-names c = ap names_of (returns-clause-ok c) ∙ names_of-set_state _ _ _
