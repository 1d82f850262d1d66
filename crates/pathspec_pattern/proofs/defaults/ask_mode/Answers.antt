-- One variable after the other.
use Rattle.std.proofs.lemmas.Result.{err_from_is_err_and}
use Rattle.pathspec_pattern.proofs.EnvironmentProofs.{glob_fails, noglob_fails, mode_said}
use Rattle.pathspec_pattern.proofs.defaults.ask_mode.Goals as goal

pub returns-in_err-glob-clause-asked : goal.returns-in_err-glob-clause-asked
returns-in_err-glob-clause-asked g c =
    let p = err_from_is_err_and c.from_residual.result c.from_residual.ensures.1 in
    rw (p.1, p.2) (glob_fails g.F.FnMut _ _ _ c.in_err-glob.ensures.asked)

pub returns-in_err-noglob-clause-asked : goal.returns-in_err-noglob-clause-asked
returns-in_err-noglob-clause-asked g c =
    let p = err_from_is_err_and c.from_residual-in_err-noglob.result c.from_residual-in_err-noglob.ensures.1 in
    rw (p.1, p.2) (noglob_fails g.F.FnMut _ _ _ _ _ c.in_ok-glob.ensures.asked c.in_err-noglob.ensures.asked)

pub returns-clause-asked : goal.returns-clause-asked
returns-clause-asked g c = mode_said g.F.FnMut _ _ _ _ _ _ c.in_ok-glob.ensures.asked c.in_ok-noglob.ensures.asked c.mode_of.ensures
