-- Without sets, specs are looked for by their own heads.
use Rattle.std.proofs.Common.{sym, ap, subst, true}
use Rattle.std.specs.Prelude.{is_some}
use Rattle.gix_pathspec.specs.Beside.{ArePlacesBeside}
use Rattle.gix_pathspec.proofs.by_head.heads_beside.Goals as goal

pub returns-in-None : goal.returns-in-None
returns-in-None c specs grouped are = subst (λ b. ArePlacesBeside b specs c.args.heads.now) (sym (ap is_some c.in-None.is)) grouped

pub returns-in-Some : goal.returns-in-Some
returns-in-Some c specs grouped are =
    let own = are c.in-Some.members c.in-Some.is in
    subst (λ b. ArePlacesBeside b specs c.others.result.now) (sym (ap is_some c.in-Some.is)) (subst (ArePlacesBeside true specs) (sym c.others.ensures) own.beside)
