-- An include that isn't shadowed reaches the path, or one that is does.
use Rattle.std.proofs.Common.{◌∙◌, sym, subst, true}
use Rattle.gix_pathspec.specs.Tables.{IsTableOf}
use Rattle.gix_pathspec.specs.Reach.{stems_of}
use Rattle.gix_pathspec.proofs.ReachProofs.{reached-by-stems, first-holds, second-holds}
use Rattle.gix_pathspec.proofs.search.reach.Reach.reaches.Goals as goal

pub returns-then-reaches_unshadowed : goal.returns-then-reaches_unshadowed
returns-then-reaches_unshadowed c = λ specs h. first-holds _ _ _ c.if-reaches_unshadowed.true (c.reaches_unshadowed.ensures specs h) ∙ sym (reached-by-stems c.args.path.now c.args.is_dir specs)

pub returns-else-reaches_unshadowed : goal.returns-else-reaches_unshadowed
returns-else-reaches_unshadowed c = λ specs h.
    let stems = c.reaches.ensures (stems_of true specs specs) (subst (IsTableOf (stems_of true specs specs)) (sym c.deref.ensures) h.shadowed) in
    second-holds _ _ _ _ c.if-reaches_unshadowed.false (c.reaches_unshadowed.ensures specs h) stems ∙ sym (reached-by-stems c.args.path.now c.args.is_dir specs)
