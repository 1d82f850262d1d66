-- An include always matches, or the stem of one that isn't shadowed reaches the path.
use Rattle.std.proofs.Common.{sym, subst, false}
use Rattle.gix_pathspec.specs.Tables.{IsTableOf}
use Rattle.gix_pathspec.specs.Reach.{stems_of}
use Rattle.gix_pathspec.proofs.ReachProofs.{first-holds, second-holds}
use Rattle.gix_pathspec.proofs.search.reach.Reach.reaches_unshadowed.Goals as goal

pub returns-then-self : goal.returns-then-self
returns-then-self c = λ specs h. first-holds _ _ _ c.if-self.true h.includes_all

pub returns-else-self : goal.returns-else-self
returns-else-self c = λ specs h.
    let stems = c.reaches_with.ensures (stems_of false specs specs) (subst (IsTableOf (stems_of false specs specs)) (sym c.deref.ensures) h.reachable) in
    second-holds _ _ _ _ c.if-self.false h.includes_all stems
