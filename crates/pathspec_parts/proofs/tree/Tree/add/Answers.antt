use Rattle.std.proofs.Common.{◌≡◌, ℕ, ◌<◌, ◌+◌, ◌++◌, ◌∷◌, [], List, length, not, cond, nat_eq, sym, subst, ap, ◌∙◌, arith}
use Rattle.std.proofs.lemmas.Bool.{both_ways}
use Rattle.std.proofs.lemmas.List.Elements.{All-from_get_or}
use Rattle.std.proofs.lemmas.List.Sums.{count_by-le-length}
use Rattle.pathspec_parts.specs.Entries.{Entry, own_call}
use Rattle.pathspec_parts.specs.Trees.{TreeContents, tree_after}
use Rattle.pathspec_parts.specs.Cursors.{append_if}
use Rattle.pathspec_parts.specs.TreeLayout.{tree_of_nodes, path_above, IsLayout}
use Rattle.pathspec_parts.specs.declared.tree.Node.{Node}
use Rattle.pathspec_parts.proofs.LayoutProofs.{IsNext, pushes}
use Rattle.pathspec_parts.proofs.NodeProofs.{entries_count}
use Rattle.pathspec_parts.proofs.tree.Tree.add.Goals as goal

pub add-requires-clause-few : goal.add-requires-clause-few
add-requires-clause-few c =
    let s = c.self.inside in
    let count = entries_count s.names.items s.nodes.items s.nested s.longest c.self.invariant c.args.self.now c.self.view_is in
    let less = count_by-le-length (λ (e : Entry). e.is_dir) (tree_of_nodes s.names.items s.nodes.items).entries in
    let same = ap (λ (x : TreeContents). length x.entries) c.self.view_is in
    omega (arith, less, same, count, c.self.invariant.nesting.directories_are, c.reserve.ensures.same.directories, s.nodes.ok.0)

-- the node of the new entry
abbrev new_node : goal.After-self-1 → Node
new_node c = record { name_end = c.len.result + length c.args.name.now; above = c.in-Some.above; end = c.first_end.result }

next : (c : goal.After-self-1) → IsNext c.self.inside.names.items c.self.inside.nodes.items c.self.inside.longest c.args.name.now c.args.is_dir (new_node c) c.max-self-inside.result
next c =
    let s = c.self.inside in
    record {
      named = (λ e. both_ways c.is_empty.result c.if-is_empty.false (c.is_empty.ensures ∙ ap (λ (t : List ℕ). nat_eq (length t) 0) e), All-from_get_or (λ b. b < 256) c.args.name.now 0 (λ i l. let fits = c.type_inv.name i in omega (arith, fits)));
      name_end = omega (arith, c.len.ensures, s.names.ok.0);
      above = c.in-Some.ensures.above ∙ ap (λ (x : TreeContents). length (path_above x.open_directories)) (sym c.self.view_is);
      end = c.first_end.ensures;
      room = omega (arith, s.nodes.ok.0);
      longer = omega (arith, c.max-self-inside.ensures);
      long = omega (arith, c.max-self-inside.ensures, c.in-Some.ensures.length);
      fits = omega (arith, c.max-self-inside.type_inv);
    }

both : (c : goal.After-self-1) → IsLayout c.append.new.names.items c.append.new.nodes.items c.add.new.self c.max-self-inside.result
    × (tree_of_nodes c.append.new.names.items c.append.new.nodes.items ≡ tree_after c.args.self.now (own_call c.args.is_dir c.args.name.now))
both c =
    let s = c.self.inside in
    let ok = c.is_err-2.ensures.negation ∙ ap not c.if-is_err-2.false in
    let names = c.append.ensures.names ∙ ap (λ b. cond b (s.names.items ++ c.args.name.now) s.names.items) ok in
    let nodes = c.append.ensures.nodes ∙ ap (λ b. cond b (s.nodes.items ++ new_node c ∷ []) s.nodes.items) ok in
    let number : c.len-number.result ≡ length s.nodes.items = omega (arith, c.len-number.ensures, s.nodes.ok.0) in
    let stack = c.add.ensures.stack ∙ (ap (append_if c.args.is_dir c.len-number.result) c.reserve.ensures.same.stack ∙ ap (λ n. append_if c.args.is_dir n s.nested.stack) number) in
    let directories = c.add.ensures.directories ∙ ap (λ k. k + cond c.args.is_dir 1 0) c.reserve.ensures.same.directories in
    let r = pushes s.names.items s.nodes.items s.nested s.longest c.self.invariant c.args.name.now c.args.is_dir (new_node c) c.max-self-inside.result (next c) c.add.new.self stack directories in
    let P : List ℕ → List Node → Type 0 = λ x y. IsLayout x y c.add.new.self c.max-self-inside.result × (tree_of_nodes x y ≡ tree_after c.args.self.now (own_call c.args.is_dir c.args.name.now)) in
    subst (λ x. P x c.append.new.nodes.items) (sym names) (subst (P (s.names.items ++ c.args.name.now)) (sym nodes) (r.0, r.1 ∙ ap (λ t. tree_after t (own_call c.args.is_dir c.args.name.now)) c.self.view_is))

pub invariant_of-self-2 : goal.invariant_of-self-2
invariant_of-self-2 c = (both c).0

pub returns-clause-ok : goal.returns-clause-ok
returns-clause-ok c = (both c).1
