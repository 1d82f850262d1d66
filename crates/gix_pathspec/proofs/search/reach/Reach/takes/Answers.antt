use Rattle.std.proofs.Common.{sym, subst}
use Rattle.gix_pathspec.specs.Tables.{IsTableOf}
use Rattle.gix_pathspec.specs.Reach.{taken_paths}
use Rattle.gix_pathspec.proofs.search.reach.Reach.takes.Goals as goal

pub returns : goal.returns
returns c = λ specs h. c.takes.ensures (taken_paths specs) (subst (IsTableOf (taken_paths specs)) (sym c.deref.ensures) h.taken)
