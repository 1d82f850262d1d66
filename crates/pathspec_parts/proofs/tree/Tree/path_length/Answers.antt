use Rattle.std.proofs.Common.{◌≡◌, ℕ, ◌≤◌, ◌+◌, length, List, sym, ap, subst, ◌∙◌, arith}
use Rattle.std.proofs.lemmas.Option.{slice_get_read}
use Rattle.pathspec_parts.specs.TreeLayout.{name_start_at, name_end_at, name_at}
use Rattle.pathspec_parts.specs.declared.tree.Node.{Node}
use Rattle.pathspec_parts.proofs.NodeProofs.{entries_count, length_is, length_fits}
use Rattle.pathspec_parts.proofs.tree.Tree.path_length.Goals as goal

pub index-requires : goal.index-requires
index-requires c =
    let s = c.self.inside in
    let count = entries_count s.names.items s.nodes.items s.nested s.longest c.self.invariant c.args.self.now c.self.view_is in
    omega (arith, count, c.requires, s.nodes.ok.0)

pub name-requires-clause-place : goal.name-requires-clause-place
name-requires-clause-place c =
    let s = c.self.inside in
    let count = entries_count s.names.items s.nodes.items s.nested s.longest c.self.invariant c.args.self.now c.self.view_is in
    let same = ap length c.deref-2.ensures.value in
    omega (arith, count, c.requires, same)

pub name-requires-clause-start : goal.name-requires-clause-start
name-requires-clause-start c =
    let s = c.self.inside in
    let count = entries_count s.names.items s.nodes.items s.nested s.longest c.self.invariant c.args.self.now c.self.view_is in
    let P : List Node → Type 0 = λ x. name_start_at x c.args.place ≤ name_end_at x c.args.place in
    subst P (sym c.deref-2.ensures.value) (c.self.invariant.named.names_rise c.args.place (omega (arith, count, c.requires))).0

pub name-requires-clause-end : goal.name-requires-clause-end
name-requires-clause-end c =
    let s = c.self.inside in
    let count = entries_count s.names.items s.nodes.items s.nested s.longest c.self.invariant c.args.self.now c.self.view_is in
    let P : List Node → List ℕ → Type 0 = λ x y. name_end_at x c.args.place ≤ length y in
    subst (λ y. P c.deref-2.result.now y) (sym c.deref.ensures.value) (subst (λ x. P x s.names.items) (sym c.deref-2.ensures.value) (c.self.invariant.named.names_rise c.args.place (omega (arith, count, c.requires))).1)

name_is : (c : goal.After-name) → c.name.result.now ≡ name_at c.self.inside.names.items c.self.inside.nodes.items c.args.place
name_is c = c.name.ensures ∙ (ap (λ x. name_at x c.deref-2.result.now c.args.place) c.deref.ensures.value ∙ ap (λ x. name_at c.self.inside.names.items x c.args.place) c.deref-2.ensures.value)

pub overflow_add-result : goal.overflow_add-result
overflow_add-result c =
    let s = c.self.inside in
    let count = entries_count s.names.items s.nodes.items s.nested s.longest c.self.invariant c.args.self.now c.self.view_is in
    let at = slice_get_read s.nodes.items (length s.nodes.items) c.args.place c.index.result.now (omega arith) (omega (arith, count, c.requires)) c.index.ensures in
    let fits = length_fits s.names.items s.nodes.items s.nested s.longest c.self.invariant c.args.self.now c.self.view_is c.args.place c.index.result.now at in
    let long = ap length (name_is c) in
    let l = c.self.invariant.named.longest_fits in
    omega (arith, fits, long, l)

pub returns : goal.returns
returns c = λ e there.
    let s = c.self.inside in
    let count = entries_count s.names.items s.nodes.items s.nested s.longest c.self.invariant c.args.self.now c.self.view_is in
    let at = slice_get_read s.nodes.items (length s.nodes.items) c.args.place c.index.result.now (omega arith) (omega (arith, count, c.requires)) c.index.ensures in
    ap (λ x. c.index.result.now.above + length x) (name_is c)
    ∙ length_is s.names.items s.nodes.items s.nested s.longest c.self.invariant c.args.self.now c.self.view_is c.args.place c.index.result.now at e there
