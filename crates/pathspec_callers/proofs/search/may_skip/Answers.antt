-- What is skipped is not chosen.
use Rattle.std.proofs.Common.{sym, ◌∙◌}
use Rattle.pathspec_callers.proofs.search.may_skip.Goals as goal

pub returns-clause-skipped : goal.returns-clause-skipped
returns-clause-skipped c = λ h table path is_dir below. c.may_skip.ensures.safe table _ (sym c.may_skip.ensures.answer ∙ h) path is_dir below
