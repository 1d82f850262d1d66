-- What the numbers of a tree say of one entry.
use Rattle.std.proofs.Common.{◌≡◌, ℕ, ◌+◌, ◌-◌, ◌<◌, ◌≤◌, cond, refl, sym, ◌∙◌, ap, subst, List, [], ◌∷◌, ◌++◌, length, take, arith, inl, inr, Some, None, append_assoc, length-append}
use Rattle.std.proofs.lemmas.Bool.{lt-ltb, le-ltb}
use Rattle.std.proofs.lemmas.List.{take_at, length_push}
use Rattle.std.proofs.lemmas.Option.{slice_get_within, same_Some, slice_get-get_or}
use Rattle.std.specs.Prelude.{slice_get, nat_lt}
use Rattle.pathspec_glob.specs.Bytes.{slash}
use Rattle.pathspec_parts.specs.Entries.{Entry}
use Rattle.pathspec_parts.specs.Trees.{TreeContents}
use Rattle.pathspec_parts.specs.Cursors.{IsNearPath, HoldsPaths}
use Rattle.pathspec_parts.specs.Nesting.{Nesting}
use Rattle.pathspec_parts.specs.TreeLayout.{name_at, end_at, tree_of_nodes, IsPathOfEntry, IsLayout}
use Rattle.pathspec_parts.proofs.ListProofs.{snoc_cases}
use Rattle.pathspec_parts.proofs.TreeProofs.{get-last}
use Rattle.pathspec_parts.proofs.NestingProofs.{entries_count as nested_count, entry_at as nested_at}
use Rattle.pathspec_parts.specs.declared.tree.Node.{Node}

-- what is left of a path of which so many bytes stay, or a slash more where it is shorter
abbrev pub cut_path : ℕ → List ℕ → List ℕ
cut_path above path = cond (nat_lt (length path) above) (path ++ slash ∷ []) (take above path)

-- what is put together is the path of the entry
pub record IsWritten (e : Entry) (above : ℕ) (name path : List ℕ) (room : ℕ) : Type 0 where
  pub fits : above ≤ room
  pub written : cut_path above path ++ name ≡ e.path
  pub path_fits : length (cut_path above path) + length name ≤ room

-- the element in the last place is the last one
pub last_is : {X : Type 0} (xs : List X) (x : X) → slice_get xs (length xs - 1) ≡ Some x → (front : List X) × (xs ≡ front ++ x ∷ [])
last_is {X} xs x e = elim (snoc_cases xs) [
  | inl n ↦ let off : slice_get {X = X} [] 0 ≡ Some x = subst (λ (t : List X). slice_get t (length t - 1) ≡ Some x) n e in cc
  | inr r ↦
      let at : length (r.0 ++ r.1 ∷ []) - 1 ≡ length r.0 = omega (arith, length_push r.0 r.1) in
      let moved : slice_get (r.0 ++ r.1 ∷ []) (length (r.0 ++ r.1 ∷ []) - 1) ≡ Some x = subst (λ (t : List X). slice_get t (length t - 1) ≡ Some x) r.2 e in
      let same : r.1 ≡ x = same_Some r.1 x (sym (ap (slice_get (r.0 ++ r.1 ∷ [])) at ∙ get-last r.0 r.1) ∙ moved) in
      (r.0, r.2 ∙ ap (λ y. r.0 ++ y ∷ []) same)
]

-- where there is no last one, there is none
pub last_none : {X : Type 0} (xs : List X) → slice_get xs (length xs - 1) ≡ None → xs ≡ []
last_none [] e = refl
last_none (x ∷ xs) e = let last = slice_get-get_or (x ∷ xs) (length (x ∷ xs) - 1) x (omega arith) in cc

module _ (names : List ℕ) (nodes : List Node) (nested : Nesting) (longest : ℕ) (h : IsLayout names nodes nested longest) (t : TreeContents) (view : tree_of_nodes names nodes ≡ t) where
  pub entries_count : length t.entries ≡ length nodes
  entries_count = nested_count (name_at names nodes) (end_at nodes) (length nodes) nested.stack nested.directories h.nesting t view

  pub entry_at : (i : ℕ) → i < length nodes → (e : Entry) × (slice_get t.entries i ≡ Some e)
  entry_at = nested_at (name_at names nodes) (end_at nodes) (length nodes) nested.stack nested.directories h.nesting t view

  module _ (i : ℕ) (node : Node) (at : slice_get nodes i ≡ Some node) where
    lies_under : (e : Entry) → slice_get t.entries i ≡ Some e → IsPathOfEntry t.entries e (name_at names nodes i) node.above
    lies_under e s = subst (λ (x : TreeContents). IsPathOfEntry x.entries e (name_at names nodes i) node.above) view (h.named.paths i node e at (subst (λ (x : TreeContents). slice_get x.entries i ≡ Some e) (sym view) s))

    pub length_is : (e : Entry) → slice_get t.entries i ≡ Some e → node.above + length (name_at names nodes i) ≡ length e.path
    length_is e s = let u = lies_under e s in sym (ap length u.path_is ∙ (length-append u.front (name_at names nodes i) ∙ ap (λ k. k + length (name_at names nodes i)) u.long))

    pub length_fits : node.above + length (name_at names nodes i) ≤ longest
    length_fits =
        let e = entry_at i (slice_get_within nodes i node at) in
        let l = length_is e.0 e.1 in
        let k = h.named.longest_is i e.0 (ap (λ (x : TreeContents). slice_get x.entries i) view ∙ e.1) in
        omega (arith, l, k)

    -- a path near the entry is cut to what stands above its name
    cut-near : (e : Entry) → slice_get t.entries i ≡ Some e → (path : List ℕ) → IsNearPath t.entries i path → (u : IsPathOfEntry t.entries e (name_at names nodes i) node.above) → cut_path node.above path ≡ u.front
    cut-near e s path near u = elim u.lies [
      | inl z ↦
          let none : node.above ≡ 0 = sym u.long ∙ ap length z in
          ap (λ k. cut_path k path) none ∙ (ap (λ b. cond b (path ++ slash ∷ []) []) (le-ltb (length path) 0 (omega arith)) ∙ sym z)
      | inr r ↦
          let long : length r.1.path + 1 ≡ node.above = sym (length_push r.1.path slash) ∙ (ap length (sym r.4) ∙ u.long) in
          elim (near e r.1 r.0 s r.2 r.3) [
            | inl p ↦
                let k = ap length p in
                ap (λ b. cond b (path ++ slash ∷ []) (take node.above path)) (lt-ltb (length path) node.above (omega (arith, k, long))) ∙ (ap (λ x. x ++ slash ∷ []) p ∙ sym r.4)
            | inr p ↦
                let whole : path ≡ (r.1.path ++ slash ∷ []) ++ p.0 = p.1 ∙ sym (append_assoc r.1.path (slash ∷ []) p.0) in
                let k = ap length whole ∙ length-append (r.1.path ++ slash ∷ []) p.0 in
                ap (λ b. cond b (path ++ slash ∷ []) (take node.above path)) (le-ltb (length path) node.above (omega (arith, k, long, length_push r.1.path slash)))
                ∙ (ap (take node.above) whole ∙ (take_at (r.1.path ++ slash ∷ []) p.0 node.above (length_push r.1.path slash ∙ long) ∙ sym r.4))
          ]
    ]

    pub is_written : (e : Entry) → slice_get t.entries i ≡ Some e → (path : List ℕ) → IsNearPath t.entries i path → (room : ℕ) → HoldsPaths t.entries room → IsWritten e node.above (name_at names nodes i) path room
    is_written e s path near room fits =
        let u = lies_under e s in
        let cut = cut-near e s path near u in
        let long = length_is e s in
        let f = fits i e s in
        record {
          fits = omega (arith, long, f);
          written = ap (λ x. x ++ name_at names nodes i) cut ∙ sym u.path_is;
          path_fits = let k = ap length cut in omega (arith, k, u.long, long, f);
        }
