-- One variable after the other.
use Rattle.std.proofs.lemmas.Result.{err_from_is_err_and}
use Rattle.pathspec_pattern.proofs.EnvironmentProofs.{literal_fails, icase_fails, literal_said, mode_fails, all_said, table_said}
use Rattle.pathspec_pattern.proofs.defaults.Defaults.from_environment.Goals as goal

pub returns-in_err-literal-clause-asked : goal.returns-in_err-literal-clause-asked
returns-in_err-literal-clause-asked g c =
    let p = err_from_is_err_and c.from_residual.result c.from_residual.ensures.1 in
    rw (p.1, p.2) (literal_fails g.F.FnMut _ _ _ c.in_err-literal.ensures.asked)

pub returns-in_err-ignore_case-clause-asked : goal.returns-in_err-ignore_case-clause-asked
returns-in_err-ignore_case-clause-asked g c =
    let p = err_from_is_err_and c.from_residual-in_err-ignore_case.result c.from_residual-in_err-ignore_case.ensures.1 in
    rw (p.1, p.2) (icase_fails g.F.FnMut _ _ _ _ _ c.in_ok-literal.ensures.asked c.in_err-ignore_case.ensures.asked)

pub returns-then-literal-clause-asked : goal.returns-then-literal-clause-asked
returns-then-literal-clause-asked g c =
    let first = rw c.if-literal.true at c.in_ok-literal.ensures.asked in
    rw c.case_signature-signature.ensures (literal_said g.F.FnMut _ _ _ _ first c.in_ok-ignore_case.ensures.asked)

pub returns-in_err-search_mode-clause-asked : goal.returns-in_err-search_mode-clause-asked
returns-in_err-search_mode-clause-asked g c =
    let p = err_from_is_err_and c.from_residual-in_err-search_mode.result c.from_residual-in_err-search_mode.ensures.1 in
    let first = rw c.if-literal.false at c.in_ok-literal.ensures.asked in
    rw (p.1, p.2) (mode_fails g.F.FnMut _ _ _ _ _ _ first c.in_ok-ignore_case.ensures.asked c.in_err-search_mode.ensures.asked)

pub returns-clause-asked : goal.returns-clause-asked
returns-clause-asked g c =
    let first = rw c.if-literal.false at c.in_ok-literal.ensures.asked in
    rw c.case_signature-signature.ensures (all_said g.F.FnMut _ _ _ _ _ _ first c.in_ok-ignore_case.ensures.asked c.in_ok-search_mode.ensures.asked)

pub returns-in_err-literal-clause-table : goal.returns-in_err-literal-clause-table
returns-in_err-literal-clause-table g c = table_said g.F.FnMut _ _ _ (returns-in_err-literal-clause-asked g c)

pub returns-in_err-ignore_case-clause-table : goal.returns-in_err-ignore_case-clause-table
returns-in_err-ignore_case-clause-table g c = table_said g.F.FnMut _ _ _ (returns-in_err-ignore_case-clause-asked g c)

pub returns-then-literal-clause-table : goal.returns-then-literal-clause-table
returns-then-literal-clause-table g c = table_said g.F.FnMut _ _ _ (returns-then-literal-clause-asked g c)

pub returns-in_err-search_mode-clause-table : goal.returns-in_err-search_mode-clause-table
returns-in_err-search_mode-clause-table g c = table_said g.F.FnMut _ _ _ (returns-in_err-search_mode-clause-asked g c)

pub returns-clause-table : goal.returns-clause-table
returns-clause-table g c = table_said g.F.FnMut _ _ _ (returns-clause-asked g c)
