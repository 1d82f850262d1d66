-- The names of a tree stay those of its entries when it grows and when a directory is closed.
use Rattle.std.proofs.Common.{◌≡◌, ◌≢◌, ℕ, zero, suc, ◌+◌, ◌-◌, ◌<◌, ◌≤◌, Bool, true, false, cond, ◌==◌, refl, sym, ◌∙◌, ap, subst, List, [], ◌∷◌, ◌++◌, length, set, take, drop, arith, inl, inr, Option, Some, append_assoc, length-append, length-set}
use Rattle.std.proofs.lemmas.Bool.{cases_eq, cases_lt, ne_eqb}
use Rattle.std.proofs.lemmas.Grind.{flat_map-append}
use Rattle.std.proofs.lemmas.List.{append-nil, map-append, take_all, take-append-le, drop-append-le, length_push, length-drop}
use Rattle.std.proofs.lemmas.List.Elements.{Contains-push}
use Rattle.std.proofs.lemmas.Option.{slice_get_within, same_Some}
use Rattle.std.proofs.Math.Seq.{drop-append_seam}
use Rattle.std.specs.Prelude.{◌⊎◌, slice_get, slice_range, Contains, unwrap_or, option_map}
use Rattle.pathspec_glob.specs.Bytes.{slash}
use Rattle.pathspec_parts.specs.Paths.{join_names}
use Rattle.pathspec_parts.specs.Entries.{OpenDirectory, Entry, entry_in, names_of, numbers_of, own_call}
use Rattle.pathspec_parts.specs.Entries.Call.{Close}
use Rattle.pathspec_parts.specs.Trees.{TreeContents, empty_tree, tree_after, IsTreeName}
use Rattle.pathspec_parts.specs.Cursors.{HoldsPaths, append_if}
use Rattle.pathspec_parts.specs.Nesting.{Nesting, open_end, AreNested}
use Rattle.pathspec_parts.specs.TreeLayout.{name_end_at, name_start_at, name_at, end_at, tree_of_nodes, path_above, IsPathOfEntry, HasNames, IsLayout}
use Rattle.pathspec_parts.proofs.ListProofs.{snoc_cases, get-front, get-set_same, get-set_other}
use Rattle.pathspec_parts.proofs.TreeProofs.{get-append, get-last, get-cases, AreOpen, IsBuilt}
use Rattle.pathspec_parts.proofs.NestingProofs.{made-built, nested-push, nested-close, nested_of_none, top_is, tops, entries_count}
use Rattle.pathspec_parts.specs.declared.tree.Node.{Node}

-- ---- the numbers of a node

name_start_at-suc : (nodes : List Node) (i : ℕ) → name_start_at nodes (suc i) ≡ name_end_at nodes i
name_start_at-suc nodes i =
    let off : (suc i == 0) ≡ false = ne_eqb (suc i) 0 (λ e. omega (arith, e)) in
    let at : suc i - 1 ≡ i = omega arith in
    ap (λ b. cond b 0 (name_end_at nodes (suc i - 1))) off ∙ ap (name_end_at nodes) at

-- nodes that have one end of each name have one name for each entry
name_start_at-same : (nodes more : List Node) (n : ℕ) → ((i : ℕ) → i < n → name_end_at more i ≡ name_end_at nodes i) → (i : ℕ) → i ≤ n → name_start_at more i ≡ name_start_at nodes i
name_start_at-same nodes more n h zero l = refl
name_start_at-same nodes more n h (suc i) l = name_start_at-suc more i ∙ (h i (omega (arith, l)) ∙ sym (name_start_at-suc nodes i))

-- a range within a list is one of a longer list
range-more : (names more : List ℕ) (a b : ℕ) → a ≤ b → b ≤ length names → slice_range (names ++ more) a b ≡ slice_range names a b
range-more names more a b h l =
    ap (take (b - a)) (drop-append-le a names more (omega (arith, h, l)))
    ∙ take-append-le (b - a) (drop a names) more (omega (arith, length-drop a names, h, l))

range-new : (names name : List ℕ) → slice_range (names ++ name) (length names) (length names + length name) ≡ name
range-new names name = ap (take ((length names + length name) - length names)) (drop-append_seam names name) ∙ take_all ((length names + length name) - length names) name (omega arith)

-- ---- the path of an entry

-- a path is what stands above it and its name
pub path_of_entry : (directories : List OpenDirectory) (name : List ℕ) → join_names (names_of directories ++ name ∷ []) ≡ path_above directories ++ name
path_of_entry [] name = refl
path_of_entry (d ∷ []) name = sym (append_assoc d.name (slash ∷ []) name) ∙ ap (λ t. t ++ name) (sym (append-nil (d.name ++ slash ∷ [])))
path_of_entry (d ∷ e ∷ directories) name =
    ap (λ t. d.name ++ slash ∷ t) (path_of_entry (e ∷ directories) name)
    ∙ (sym (append_assoc d.name (slash ∷ []) (path_above (e ∷ directories) ++ name)) ∙ sym (append_assoc (d.name ++ slash ∷ []) (path_above (e ∷ directories)) name))

-- what stands above an entry of a directory is that directory's path and a slash
path_above-snoc : (front : List OpenDirectory) (d : OpenDirectory) → path_above (front ++ d ∷ []) ≡ join_names (names_of front ++ d.name ∷ []) ++ slash ∷ []
path_above-snoc front d =
    flat_map-append (λ x. x.name ++ slash ∷ []) front (d ∷ [])
    ∙ (ap (λ t. path_above front ++ t) (append-nil (d.name ++ slash ∷ []))
    ∙ (sym (append_assoc (path_above front) d.name (slash ∷ [])) ∙ ap (λ t. t ++ slash ∷ []) (sym (path_of_entry front d.name))))

-- ---- what stands above a new entry

-- the innermost of open directories is an entry
AreOpen-last : (es : List Entry) (front rest : List OpenDirectory) (d : OpenDirectory) → AreOpen IsTreeName es front (rest ++ d ∷ []) → slice_get es d.number ≡ Some (entry_in (front ++ rest) d.name true)
AreOpen-last es front [] d h = subst (λ (t : List OpenDirectory). slice_get es d.number ≡ Some (entry_in t d.name true)) (sym (append-nil front)) h.0
AreOpen-last es front (o ∷ rest) d h = subst (λ (t : List OpenDirectory). slice_get es d.number ≡ Some (entry_in t d.name true)) (append_assoc front (o ∷ []) rest) (AreOpen-last es (front ++ o ∷ []) rest d h.2)

-- what stands above a new entry
lies_in_tree : (t : TreeContents) → IsBuilt IsTreeName t → (path_above t.open_directories ≡ []) ⊎ ((m : ℕ) × (d : Entry) × Contains (numbers_of t.open_directories) m × (slice_get t.entries m ≡ Some d) × (path_above t.open_directories ≡ d.path ++ slash ∷ []))
lies_in_tree t h = elim (snoc_cases t.open_directories) [
  | inl e ↦ inl (ap path_above e)
  | inr r ↦
      let front = r.0 in
      let d = r.1 in
      let numbers : numbers_of t.open_directories ≡ numbers_of front ++ d.number ∷ [] = ap numbers_of r.2 ∙ map-append (λ x. x.number) front (d ∷ []) in
      inr (
        d.number,
        entry_in front d.name true,
        subst (λ (x : List ℕ). Contains x d.number) (sym numbers) (Contains-push (numbers_of front) d.number),
        AreOpen-last t.entries [] front d (subst (AreOpen IsTreeName t.entries []) r.2 h.open_now),
        ap path_above r.2 ∙ path_above-snoc front d,
      )
]

-- one more entry leaves what stands above the others
IsPathOfEntry-more : (es more : List Entry) (e : Entry) (name other : List ℕ) (above : ℕ) → other ≡ name → IsPathOfEntry es e name above → IsPathOfEntry (es ++ more) e other above
IsPathOfEntry-more es more e name other above same h = record {
  front = h.front;
  path_is = h.path_is ∙ ap (λ x. h.front ++ x) (sym same);
  long = h.long;
  lies = elim h.lies [
    | inl n ↦ inl n
    | inr r ↦ inr (r.0, r.1, r.2, get-append es more r.0 r.1 r.3, r.4)
  ];
}

-- ---- one more entry

-- an entry more at the end, as a call adds it
pub entry_after : (t : TreeContents) (is_dir : Bool) (name : List ℕ) → (tree_after t (own_call is_dir name)).entries ≡ t.entries ++ entry_in t.open_directories name is_dir ∷ []
entry_after t true name = refl
entry_after t false name = refl

-- what is said of a new entry
pub record IsNext (names : List ℕ) (nodes : List Node) (longest : ℕ) (name : List ℕ) (is_dir : Bool) (node : Node) (more_longest : ℕ) : Type 0 where
  pub named : IsTreeName name
  pub name_end : node.name_end ≡ length names + length name
  pub above : node.above ≡ length (path_above (tree_of_nodes names nodes).open_directories)
  pub end : node.end ≡ cond is_dir open_end 0
  pub room : length nodes + 1 < open_end
  pub longer : longest ≤ more_longest
  pub long : node.above + length name ≤ more_longest
  pub fits : more_longest ≤ open_end

module _ (names : List ℕ) (nodes : List Node) (nested : Nesting) (longest : ℕ) (h : IsLayout names nodes nested longest) (name : List ℕ) (is_dir : Bool) (node : Node) (more_longest : ℕ) (n : IsNext names nodes longest name is_dir node more_longest) where
  abbrev tree : TreeContents
  tree = tree_of_nodes names nodes

  abbrev count : ℕ
  count = length nodes

  abbrev more : List Node
  more = nodes ++ node ∷ []

  abbrev entry : Entry
  entry = entry_in tree.open_directories name is_dir

  entries_are_count : length tree.entries ≡ count
  entries_are_count = entries_count (name_at names nodes) (end_at nodes) count nested.stack nested.directories h.nesting tree refl

  end-old : (i : ℕ) → i < count → end_at more i ≡ end_at nodes i
  end-old i l = ap (λ (o : Option Node). unwrap_or (option_map (λ x. x.end) o) 0) (get-front nodes (node ∷ []) i l)

  end-new : end_at more count ≡ cond is_dir open_end 0
  end-new = ap (λ (o : Option Node). unwrap_or (option_map (λ x. x.end) o) 0) (get-last nodes node) ∙ n.end

  name_end-old : (i : ℕ) → i < count → name_end_at more i ≡ name_end_at nodes i
  name_end-old i l = ap (λ (o : Option Node). unwrap_or (option_map (λ x. x.name_end) o) 0) (get-front nodes (node ∷ []) i l)

  name_end-new : name_end_at more count ≡ length names + length name
  name_end-new = ap (λ (o : Option Node). unwrap_or (option_map (λ x. x.name_end) o) 0) (get-last nodes node) ∙ n.name_end

  start-old : (i : ℕ) → i ≤ count → name_start_at more i ≡ name_start_at nodes i
  start-old = name_start_at-same nodes more count name_end-old

  name-old : (i : ℕ) → i < count → name_at (names ++ name) more i ≡ name_at names nodes i
  name-old i l =
      let r = h.named.names_rise i l in
      ap (λ a. slice_range (names ++ name) a (name_end_at more i)) (start-old i (omega (arith, l)))
      ∙ (ap (λ b. slice_range (names ++ name) (name_start_at nodes i) b) (name_end-old i l) ∙ range-more names name (name_start_at nodes i) (name_end_at nodes i) r.0 r.1)

  name-new : name_at (names ++ name) more count ≡ name
  name-new =
      ap (λ a. slice_range (names ++ name) a (name_end_at more count)) (start-old count (omega arith) ∙ h.named.names_end)
      ∙ (ap (λ b. slice_range (names ++ name) (length names) b) name_end-new ∙ range-new names name)

  more_names_end : name_start_at more (length more) ≡ length (names ++ name)
  more_names_end =
      let at : length more ≡ suc count = omega (arith, length_push nodes node) in
      ap (name_start_at more) at ∙ (name_start_at-suc more count ∙ (name_end-new ∙ sym (length-append names name)))

  more_names_rise : (i : ℕ) → i < length more → (name_start_at more i ≤ name_end_at more i) × (name_end_at more i ≤ length (names ++ name))
  more_names_rise i l = elim (cases_lt i count) [
    | inl lt ↦
        let r = h.named.names_rise i lt in
        (omega (arith, r.0, start-old i (omega (arith, lt)), name_end-old i lt), omega (arith, r.1, name_end-old i lt, length-append names name))
    | inr ge ↦
        let e : i ≡ count = omega (arith, l, ge, length_push nodes node) in
        let s : name_start_at more count ≡ length names = start-old count (omega arith) ∙ h.named.names_end in
        let P : ℕ → Type 0 = λ k. (name_start_at more k ≤ name_end_at more k) × (name_end_at more k ≤ length (names ++ name)) in
        subst P (sym e) (omega (arith, s, name_end-new), omega (arith, name_end-new, length-append names name))
  ]

  more_paths : (i : ℕ) (m : Node) (e : Entry) → slice_get more i ≡ Some m → slice_get (tree.entries ++ entry ∷ []) i ≡ Some e → IsPathOfEntry (tree.entries ++ entry ∷ []) e (name_at (names ++ name) more i) m.above
  more_paths i m e a b = elim (get-cases nodes node i m a) [
    | inl p ↦ elim (get-cases tree.entries entry i e b) [
      | inl q ↦ IsPathOfEntry-more tree.entries (entry ∷ []) e (name_at names nodes i) (name_at (names ++ name) more i) m.above (name-old i (slice_get_within nodes i m p)) (h.named.paths i m e p q)
      | inr q ↦ let w = slice_get_within nodes i m p in absurd (omega (arith, w, q.0, entries_are_count))
    ]
    | inr p ↦ elim (get-cases tree.entries entry i e b) [
      | inl q ↦ let w = slice_get_within tree.entries i e q in absurd (omega (arith, w, p.0, entries_are_count))
      | inr q ↦
          let here : IsPathOfEntry tree.entries entry name node.above = record { front = path_above tree.open_directories; path_is = path_of_entry tree.open_directories name; long = sym n.above; lies = lies_in_tree tree (made-built tree h.nesting.made) } in
          let there : IsPathOfEntry (tree.entries ++ entry ∷ []) entry (name_at (names ++ name) more count) node.above = IsPathOfEntry-more tree.entries (entry ∷ []) entry name (name_at (names ++ name) more count) node.above name-new here in
          let P : ℕ → Node → Entry → Type 0 = λ k x y. IsPathOfEntry (tree.entries ++ entry ∷ []) y (name_at (names ++ name) more k) x.above in
          subst (λ k. P k m e) (sym p.0) (subst (λ x. P count x e) p.1 (subst (λ y. P count node y) q.1 there))
    ]
  ]

  more_longest_is : HoldsPaths (tree.entries ++ entry ∷ []) more_longest
  more_longest_is i e s = elim (get-cases tree.entries entry i e s) [
    | inl q ↦ let w = h.named.longest_is i e q in omega (arith, w, n.longer)
    | inr q ↦
        let long : length e.path ≡ length (path_above tree.open_directories) + length name = ap (λ (x : Entry). length x.path) (sym q.1) ∙ (ap length (path_of_entry tree.open_directories name) ∙ length-append (path_above tree.open_directories) name) in
        omega (arith, long, n.above, n.long)
  ]

  -- The numbers of the tree and of one more entry are those of the tree after the call that adds it.
  pub pushes : (new : Nesting) → new.stack ≡ append_if is_dir count nested.stack → new.directories ≡ nested.directories + cond is_dir 1 0
      → IsLayout (names ++ name) more new more_longest × (tree_of_nodes (names ++ name) more ≡ tree_after tree (own_call is_dir name))
  pushes new s d =
      let r = nested-push (name_at names nodes) (end_at nodes) count nested.stack nested.directories h.nesting (name_at (names ++ name) more) (end_at more) name is_dir n.named n.room name-old name-new end-old end-new (length more) new.directories new.stack (length_push nodes node) s d in
      let entries_are : (tree_of_nodes (names ++ name) more).entries ≡ tree.entries ++ entry ∷ [] = ap (λ (t : TreeContents). t.entries) r.1 ∙ entry_after tree is_dir name in
      (record { nesting = r.0; named = subst (HasNames (names ++ name) more more_longest) (sym entries_are) (record { names_end = more_names_end; names_rise = more_names_rise; paths = more_paths; longest_is = more_longest_is; longest_fits = n.fits }) }, r.1)

-- ---- a directory is closed

module _ (names : List ℕ) (nodes : List Node) (nested : Nesting) (longest : ℕ) (h : IsLayout names nodes nested longest) (below : List ℕ) (place : ℕ) (last : nested.stack ≡ below ++ place ∷ []) where
  -- The directory that was opened last is one of the entries.
  pub top_within : place < length nodes
  top_within = (top_is (name_at names nodes) (end_at nodes) (length nodes) nested.stack nested.directories h.nesting below place last).0

  -- What would come next has a path so long above it.
  pub top_entry : (e : Entry) × (slice_get (tree_of_nodes names nodes).entries place ≡ Some e) × (length (path_above (tree_of_nodes names nodes).open_directories) ≡ length e.path + 1)
  top_entry =
      let t = tree_of_nodes names nodes in
      let r = tops (name_at names nodes) (end_at nodes) (length nodes) nested.stack nested.directories h.nesting below place last in
      let there = AreOpen-last t.entries [] r.0 r.1 (subst (AreOpen IsTreeName t.entries []) r.2 (made-built t h.nesting.made).open_now) in
      let path : path_above t.open_directories ≡ (entry_in r.0 r.1.name true).path ++ slash ∷ [] = ap path_above r.2 ∙ path_above-snoc r.0 r.1 in
      (entry_in r.0 r.1.name true, ap (slice_get t.entries) r.4 ∙ there, ap length path ∙ length_push (entry_in r.0 r.1.name true).path slash)

  module _ (node : Node) (at : slice_get nodes place ≡ Some node) (room : length nodes ≤ open_end) (count : ℕ) (is_count : count ≡ length nodes) where
    abbrev closed : List Node
    closed = set nodes place (record node { end = count })

    get_closed : slice_get closed place ≡ Some (record node { end = count })
    get_closed = get-set_same nodes place (record node { end = count }) top_within

    end-top : end_at closed place ≡ length nodes
    end-top = ap (λ (o : Option Node). unwrap_or (option_map (λ x. x.end) o) 0) get_closed ∙ is_count

    end-other : (i : ℕ) → i ≢ place → end_at closed i ≡ end_at nodes i
    end-other i n = ap (λ (o : Option Node). unwrap_or (option_map (λ x. x.end) o) 0) (get-set_other nodes place i (record node { end = count }) n)

    name_end-closed : (i : ℕ) → name_end_at closed i ≡ name_end_at nodes i
    name_end-closed i = elim (cases_eq i place) [
      | inl e ↦
          let P : ℕ → Type 0 = λ k. name_end_at closed k ≡ name_end_at nodes k in
          subst P (sym e) (ap (λ (o : Option Node). unwrap_or (option_map (λ x. x.name_end) o) 0) get_closed ∙ sym (ap (λ (o : Option Node). unwrap_or (option_map (λ x. x.name_end) o) 0) at))
      | inr n ↦ ap (λ (o : Option Node). unwrap_or (option_map (λ x. x.name_end) o) 0) (get-set_other nodes place i (record node { end = count }) n)
    ]

    start-closed : (i : ℕ) → name_start_at closed i ≡ name_start_at nodes i
    start-closed i = name_start_at-same nodes closed i (λ j l. name_end-closed j) i (omega arith)

    name-closed : (i : ℕ) → name_at names closed i ≡ name_at names nodes i
    name-closed i = ap (λ a. slice_range names a (name_end_at closed i)) (start-closed i) ∙ ap (λ b. slice_range names (name_start_at nodes i) b) (name_end-closed i)

    long : length closed ≡ length nodes
    long = length-set nodes place (record node { end = count })

    closed_paths : (i : ℕ) (m : Node) (e : Entry) → slice_get closed i ≡ Some m → slice_get (tree_of_nodes names nodes).entries i ≡ Some e → IsPathOfEntry (tree_of_nodes names nodes).entries e (name_at names closed i) m.above
    closed_paths i m e a b = subst (λ x. IsPathOfEntry (tree_of_nodes names nodes).entries e x m.above) (sym (name-closed i)) (elim (cases_eq i place) [
      | inl p ↦
          let same : record node { end = count } ≡ m = same_Some (record node { end = count }) m (sym get_closed ∙ (ap (slice_get closed) (sym p) ∙ a)) in
          subst (λ (x : Node). IsPathOfEntry (tree_of_nodes names nodes).entries e (name_at names nodes i) x.above) same (h.named.paths i node e (ap (slice_get nodes) p ∙ at) b)
      | inr n ↦ h.named.paths i m e (sym (get-set_other nodes place i (record node { end = count }) n) ∙ a) b
    ])

    -- The numbers of the tree where that directory is closed are those of the tree after the call that closes it.
    pub closes_at : (new : Nesting) → new.stack ≡ below → new.directories ≡ nested.directories → IsLayout names closed new longest × (tree_of_nodes names closed ≡ tree_after (tree_of_nodes names nodes) Close)
    closes_at new s d =
        let r = nested-close (name_at names nodes) (end_at nodes) (length nodes) nested.stack nested.directories h.nesting below place last (name_at names closed) (end_at closed) name-closed end-top end-other room (length closed) long in
        let entries_are : (tree_of_nodes names closed).entries ≡ (tree_of_nodes names nodes).entries = ap (λ (t : TreeContents). t.entries) r.1 in (
          record {
            nesting = subst (λ x. AreNested (name_at names closed) (end_at closed) (length closed) x new.directories) (sym s) (subst (AreNested (name_at names closed) (end_at closed) (length closed) below) (sym d) r.0);
            named = subst (HasNames names closed longest) (sym entries_are) (record {
              names_end = ap (name_start_at closed) long ∙ (start-closed (length nodes) ∙ h.named.names_end);
              names_rise = λ i l. let r = h.named.names_rise i (omega (arith, l, long)) in (omega (arith, r.0, start-closed i, name_end-closed i), omega (arith, r.1, name_end-closed i));
              paths = closed_paths;
              longest_is = h.named.longest_is;
              longest_fits = h.named.longest_fits;
            });
          },
          r.1,
        )

-- ---- a tree without entries

-- No names and no nodes are the numbers of an empty tree.
pub layout_of_none : (names : List ℕ) (nodes : List Node) (nested : Nesting) → names ≡ [] → nodes ≡ [] → nested.stack ≡ [] → nested.directories ≡ 0 → IsLayout names nodes nested 0 × (tree_of_nodes names nodes ≡ empty_tree)
layout_of_none names nodes nested e f s d =
    let P : List ℕ → List Node → Type 0 = λ x y. IsLayout x y nested 0 × (tree_of_nodes x y ≡ empty_tree) in
    let r = nested_of_none (name_at [] []) (end_at []) in
    subst (λ x. P x nodes) (sym e) (subst (P []) (sym f) (
      record {
        nesting = subst (λ x. AreNested (name_at [] []) (end_at []) 0 x nested.directories) (sym s) (subst (AreNested (name_at [] []) (end_at []) 0 []) (sym d) r.0);
        named = subst (HasNames [] [] 0) (sym (ap (λ (t : TreeContents). t.entries) r.1)) (record { names_end = refl; names_rise = λ i l. absurd (omega (arith, l)); paths = λ i m e a b. cc; longest_is = λ i e s. cc; longest_fits = omega arith });
      },
      r.1,
    ))
