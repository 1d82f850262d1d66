use Rattle.std.proofs.Common.{◌≡◌, ℕ, ◌≤◌, length, List, ◌++◌, true, cond, sym, ap, subst, ◌∙◌, arith}
use Rattle.std.specs.Prelude.{is_ok}
use Rattle.std.proofs.lemmas.Option.{slice_get_read}
use Rattle.pathspec_parts.specs.TreeLayout.{name_start_at, name_end_at, name_at}
use Rattle.pathspec_parts.specs.declared.tree.Node.{Node}
use Rattle.pathspec_parts.proofs.NodeProofs.{entries_count, is_written, cut_path, entry_at}
use Rattle.pathspec_parts.proofs.tree.Tree.write_path.Goals as goal

pub index-requires : goal.index-requires
index-requires c =
    let s = c.self.inside in
    let count = entries_count s.names.items s.nodes.items s.nested s.longest c.self.invariant c.args.self.now c.self.view_is in
    omega (arith, count, c.requires.place, s.nodes.ok.0)

pub cut_back-requires : goal.cut_back-requires
cut_back-requires c =
    let s = c.self.inside in
    let count = entries_count s.names.items s.nodes.items s.nested s.longest c.self.invariant c.args.self.now c.self.view_is in
    let at = slice_get_read s.nodes.items (length s.nodes.items) c.args.place c.index.result.now (omega arith) (omega (arith, count, c.requires.place)) c.index.ensures in
    let e = entry_at s.names.items s.nodes.items s.nested s.longest c.self.invariant c.args.self.now c.self.view_is c.args.place (omega (arith, count, c.requires.place)) in
    (is_written s.names.items s.nodes.items s.nested s.longest c.self.invariant c.args.self.now c.self.view_is c.args.place c.index.result.now at e.0 e.1 c.args.path.now.items c.requires.near _ c.requires.room).fits

pub name-requires-clause-place : goal.name-requires-clause-place
name-requires-clause-place c =
    let s = c.self.inside in
    let count = entries_count s.names.items s.nodes.items s.nested s.longest c.self.invariant c.args.self.now c.self.view_is in
    let same = ap length c.deref-2.ensures.value in
    omega (arith, count, c.requires.place, same)

pub name-requires-clause-start : goal.name-requires-clause-start
name-requires-clause-start c =
    let s = c.self.inside in
    let count = entries_count s.names.items s.nodes.items s.nested s.longest c.self.invariant c.args.self.now c.self.view_is in
    let P : List Node → Type 0 = λ x. name_start_at x c.args.place ≤ name_end_at x c.args.place in
    subst P (sym c.deref-2.ensures.value) (c.self.invariant.named.names_rise c.args.place (omega (arith, count, c.requires.place))).0

pub name-requires-clause-end : goal.name-requires-clause-end
name-requires-clause-end c =
    let s = c.self.inside in
    let count = entries_count s.names.items s.nodes.items s.nested s.longest c.self.invariant c.args.self.now c.self.view_is in
    let P : List Node → List ℕ → Type 0 = λ x y. name_end_at x c.args.place ≤ length y in
    subst (λ y. P c.deref-2.result.now y) (sym c.deref.ensures.value) (subst (λ x. P x s.names.items) (sym c.deref-2.ensures.value) (c.self.invariant.named.names_rise c.args.place (omega (arith, count, c.requires.place))).1)

pub returns-clause-path : goal.returns-clause-path
returns-clause-path c = λ e there.
    let s = c.self.inside in
    let count = entries_count s.names.items s.nodes.items s.nested s.longest c.self.invariant c.args.self.now c.self.view_is in
    let at = slice_get_read s.nodes.items (length s.nodes.items) c.args.place c.index.result.now (omega arith) (omega (arith, count, c.requires.place)) c.index.ensures in
    let w = is_written s.names.items s.nodes.items s.nested s.longest c.self.invariant c.args.self.now c.self.view_is c.args.place c.index.result.now at e there c.args.path.now.items c.requires.near _ c.requires.room in
    let name : c.name.result.now ≡ name_at s.names.items s.nodes.items c.args.place = c.name.ensures ∙ (ap (λ x. name_at x c.deref-2.result.now c.args.place) c.deref.ensures.value ∙ ap (λ x. name_at s.names.items x c.args.place) c.deref-2.ensures.value) in
    let cut : c.cut_back.new.path.items ≡ cut_path c.index.result.now.above c.args.path.now.items = c.cut_back.ensures.items in
    let name_long = ap length name in
    let cut_long = ap length cut in
    let ok : is_ok c.extend_from_slice.result ≡ true = c.extend_from_slice.ensures.succeeds (omega (arith, name_long, cut_long, c.cut_back.new.path.ok.0, w.path_fits, c.cut_back.ensures.room)) in
    c.extend_from_slice.ensures.items ∙ (ap (λ b. cond b (c.cut_back.new.path.items ++ c.name.result.now) c.cut_back.new.path.items) ok ∙ (ap (λ t. t ++ c.name.result.now) cut ∙ (ap (λ t. cut_path c.index.result.now.above c.args.path.now.items ++ t) name ∙ w.written)))
