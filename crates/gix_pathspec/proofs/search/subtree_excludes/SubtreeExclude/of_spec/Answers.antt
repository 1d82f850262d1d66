-- The spec is such an exclude: it has a glob to be asked by, or a prefix directory before a path without case.
use Rattle.std.proofs.Common.{◌∙◌, sym, inl, inr}
use Rattle.gix_pathspec.proofs.SubtreeExcludeProofs.{is-exclude, as_subtree_exclude-one, has-rest}
use Rattle.gix_pathspec.proofs.search.subtree_excludes.SubtreeExclude.of_spec.Goals as goal
use Rattle.gix_pathspec.proofs.search.subtree_excludes.SubtreeExclude.of_spec.Goals.{else-is_none-via-then-is_none+else-has_one_case, else-is_none-via-else-is_none}

pub returns-in-Ok : goal.returns-in-Ok
returns-in-Ok c =
    let s = c.args.spec.now.spec in
    as_subtree_exclude-one s _ (is-exclude s (sym c.takes_by_path.ensures ∙ c.if-not-takes_by_path.false) (elim c.else-is_none.branch [
      | else-is_none-via-then-is_none+else-has_one_case w ↦ inr (sym w.has_one_case.ensures ∙ w.if-has_one_case.false)
      | else-is_none-via-else-is_none w ↦ inl (has-rest s _ c.in_ok-glob.ensures c.is_none.ensures w.if-is_none.false)
    ])) (c.in-Ok.ensures.ok ∙ c.pattern.ensures)
