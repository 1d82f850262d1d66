use Rattle.std.proofs.Common.{List, arith, sym, ap, subst, ◌∙◌}
use Rattle.std.specs.Prelude.{slice_get}
use Rattle.pathspec_parts.specs.Entries.{Entry}
use Rattle.pathspec_parts.specs.Cursors.{CursorContents, IsNearPath, path_at}
use Rattle.pathspec_parts.proofs.CursorProofs.{entry_there, path_after}
use Rattle.pathspec_parts.proofs.tree.cursor.CursorWalk.next.Goals as goal

pub write_path-requires-clause-near : goal.write_path-requires-clause-near
write_path-requires-clause-near c =
    let n = c.in-Some.number in
    subst (IsNearPath c.entries-tree.result.now.entries n) (sym c.self.invariant.0)
    (subst (λ (es : List Entry). IsNearPath es n (path_at c.self.inside.steps)) (sym c.entries-tree.ensures) c.in-Some.ensures.near)

pub invariant_of-self-2 : goal.invariant_of-self-2
invariant_of-self-2 c =
    let steps = c.self.inside.steps in
    let n = c.in-Some.number in
    let e = entry_there steps.entries n c.in-Some.ensures.within in
    let there = ap (λ (es : List Entry). slice_get es n) c.entries-tree.ensures ∙ e.1 in (
      c.write_path.ensures.path e.0 there ∙ (sym (path_after steps n e.0 e.1) ∙ sym (ap path_at c.in-Some.ensures.place)),
      λ i x t. let p = c.self.invariant.1 i x (sym (ap (λ (z : CursorContents). slice_get z.entries i) c.in-Some.ensures.place) ∙ t) in omega (arith, p, c.write_path.ensures.room),
    )
