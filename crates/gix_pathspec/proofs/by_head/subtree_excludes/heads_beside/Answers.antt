-- Without a set, excludes are looked for by their own heads.
use Rattle.std.proofs.Common.{sym, ap, subst}
use Rattle.std.specs.Prelude.{is_some}
use Rattle.gix_pathspec.specs.ExcludeSets.{AreExcludePlacesBeside}
use Rattle.gix_pathspec.proofs.by_head.subtree_excludes.heads_beside.Goals as goal

pub returns-in-None : goal.returns-in-None
returns-in-None c excludes grouped are = subst (λ b. AreExcludePlacesBeside b excludes c.args.heads.now) (sym (ap is_some c.in-None.is)) grouped
