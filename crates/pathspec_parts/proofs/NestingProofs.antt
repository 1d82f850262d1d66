-- Names and ends stay those of a tree when an entry is added and when a directory is closed, and tell each entry's kind and run.
use Rattle.std.proofs.Common.{◌≡◌, ◌≢◌, ℕ, ◌+◌, ◌-◌, ◌<◌, ◌≤◌, Bool, true, false, cond, not, ◌==◌, refl, sym, ◌∙◌, ap, subst, List, [], ◌∷◌, ◌++◌, length, map, take, arith, inl, inr, Some}
use Rattle.std.proofs.lemmas.Bool.{cases_lt, cases_eq, lt-ltb, le-ltb, ltb-true, ne_eqb, eq-eqb}
use Rattle.std.proofs.lemmas.List.{append-nil, map-append, length_push}
use Rattle.std.proofs.lemmas.List.Elements.{Contains-push}
use Rattle.std.proofs.lemmas.List.FromFn.{filter_of_map_range_with_len_more, map-range_with_len_more, length-map-range_with_len}
use Rattle.std.proofs.lemmas.List.Sums.{fold_push}
use Rattle.std.proofs.lemmas.Option.{slice_get_within, same_Some}
use Rattle.std.specs.Prelude.{◌↔◌, slice_get, Contains, filter, nat_lt}
use Rattle.std.specs.List.{range_with_len}
use Rattle.pathspec_parts.specs.Entries.{Call, OpenDirectory, Entry, entry_in, numbers_of, own_call}
use Rattle.pathspec_parts.specs.Entries.Call.{Open, File, Close}
use Rattle.pathspec_parts.specs.Trees.{TreeContents, empty_tree, tree_after, IsTreeName, AreNamed, IsNested, HasBytePaths}
use Rattle.pathspec_parts.specs.Cursors.{IsEndOf, append_if, directory_count}
use Rattle.pathspec_parts.specs.Nesting.{open_end, IsEnd, end_from, directories_before, directories_above, nested_entry, nested_tree, IsMade, AreNested}
use Rattle.pathspec_parts.proofs.ListProofs.{snoc_cases, snoc_parts, take-snoc, count_by-push, get-map_range, map_range-same, filter_range-same, Contains-filter_range, filter_range-without_last}
use Rattle.pathspec_parts.proofs.TreeProofs.{IsBuilt, calls-built, empty-built, tree_of_calls-nested, tree_of_calls-bytes}

-- tests on numbers that hold alike give one answer
lt-same : (m a n b : ℕ) → (m < a → n < b) → (n < b → m < a) → nat_lt m a ≡ nat_lt n b
lt-same m a n b f g = elim (cases_lt m a) [
  | inl l ↦ lt-ltb m a l ∙ sym (lt-ltb n b (f l))
  | inr l ↦ elim (cases_lt n b) [
    | inl k ↦ let q = g k in absurd (omega (arith, l, q))
    | inr k ↦ le-ltb m a l ∙ sym (le-ltb n b k)
  ]
]

-- ---- a tree of calls

AreNamed-push : (P : List ℕ → Type 0) (calls : List Call) (call : Call) → AreNamed P calls → AreNamed P (call ∷ []) → AreNamed P (calls ++ call ∷ [])
AreNamed-push P [] call h n = n
AreNamed-push P (Open name ∷ calls) call h n = (h.0, AreNamed-push P calls call h.1 n)
AreNamed-push P (File name ∷ calls) call h n = (h.0, AreNamed-push P calls call h.1 n)
AreNamed-push P (Close ∷ calls) call h n = AreNamed-push P calls call h n

-- a tree of calls after one more
pub made-push : (t : TreeContents) (call : Call) → AreNamed IsTreeName (call ∷ []) → IsMade t → IsMade (tree_after t call)
made-push t call n (calls, named, is) = (calls ++ call ∷ [], AreNamed-push IsTreeName calls call named n, ap (λ x. tree_after x call) is ∙ sym (fold_push tree_after empty_tree calls call))

pub made-built : (t : TreeContents) → IsMade t → IsBuilt IsTreeName t
made-built t (calls, named, is) = subst (IsBuilt IsTreeName) (sym is) (calls-built IsTreeName empty_tree calls named (empty-built IsTreeName))

named-own : (is_dir : Bool) (name : List ℕ) → IsTreeName name → AreNamed IsTreeName (own_call is_dir name ∷ [])
named-own true name n = (n, tt)
named-own false name n = (n, tt)

-- ---- the numbers of entries

-- the numbers of the directories that an entry lies in
Contains-above : (name : ℕ → List ℕ) (end : ℕ → ℕ) (n i : ℕ) → Contains (numbers_of (directories_above name end n)) i ↔ ((i < n) × (nat_lt n (end i) ≡ true))
Contains-above name end n i = Contains-filter_range (λ d. d.number) (λ k. record { number = k; name = name k }) (λ k. refl) (λ d. nat_lt n (end d.number)) n i

-- each number has an entry
length-nested_tree : (name : ℕ → List ℕ) (end : ℕ → ℕ) (count : ℕ) → length (nested_tree name end count).entries ≡ count
unfolding nested_tree
length-nested_tree name end count = length-map-range_with_len (nested_entry name end) 0 count

get-nested_tree : (name : ℕ → List ℕ) (end : ℕ → ℕ) (count i : ℕ) → i < count → slice_get (nested_tree name end count).entries i ≡ Some (nested_entry name end i)
unfolding nested_tree
get-nested_tree name end count i l = let z : 0 + i ≡ i = omega arith in get-map_range (nested_entry name end) 0 count i l ∙ ap (λ k. Some (nested_entry name end k)) z

open-nested_tree : (name : ℕ → List ℕ) (end : ℕ → ℕ) (count : ℕ) → (nested_tree name end count).open_directories ≡ directories_above name end count
unfolding nested_tree
open-nested_tree name end count = refl

-- names and ends that agree on the entries before this one make one list of directories
above-same : (name other : ℕ → List ℕ) (end more : ℕ → ℕ) (m n k : ℕ) → ((i : ℕ) → i < k → (other i ≡ name i) × (nat_lt m (more i) ≡ nat_lt n (end i)))
    → filter (λ d. nat_lt m (more d.number)) (directories_before other k) ≡ filter (λ d. nat_lt n (end d.number)) (directories_before name k)
above-same name other end more m n k h =
    filter_range-same (λ d. nat_lt m (more d.number)) (λ d. nat_lt n (end d.number)) (λ i. record { number = i; name = other i }) (λ i. record { number = i; name = name i }) 0 k
    (λ i le lt. let r = h i (omega (arith, lt)) in (ap (λ x. record { number = i; name = x }) r.0, r.1))

module _ (name : ℕ → List ℕ) (end : ℕ → ℕ) (count : ℕ) (stack : List ℕ) (directories : ℕ) (h : AreNested name end count stack directories) where
  abbrev tree : TreeContents
  tree = nested_tree name end count

  -- ---- one more entry

  module _ (other : ℕ → List ℕ) (more : ℕ → ℕ) (own : List ℕ) (is_dir : Bool) (named : IsTreeName own) (room : count + 1 < open_end)
      (name-old : (i : ℕ) → i < count → other i ≡ name i) (name-new : other count ≡ own) (end-old : (i : ℕ) → i < count → more i ≡ end i) (end-new : more count ≡ cond is_dir open_end 0) where
    above-old : (i : ℕ) → i ≤ count → directories_above other more i ≡ directories_above name end i
    above-old i l = above-same name other end more i i i (λ j lt. (name-old j (omega (arith, lt, l)), ap (nat_lt i) (end-old j (omega (arith, lt, l)))))

    entry-old : (i : ℕ) → i < count → nested_entry other more i ≡ nested_entry name end i
    entry-old i l =
        ap (λ x. entry_in x (other i) (not (more i == 0))) (above-old i (omega (arith, l)))
        ∙ (ap (λ x. entry_in (directories_above name end i) x (not (more i == 0))) (name-old i l) ∙ ap (λ e. entry_in (directories_above name end i) (name i) (not (e == 0))) (end-old i l))

    entry-new : nested_entry other more count ≡ entry_in (directories_above name end count) own is_dir
    entry-new =
        ap (λ x. entry_in x (other count) (not (more count == 0))) (above-old count (omega arith))
        ∙ (ap (λ x. entry_in (directories_above name end count) x (not (more count == 0))) name-new ∙ ap (λ b. entry_in (directories_above name end count) own b) (ap (λ e. not (e == 0)) end-new ∙ kind is_dir))
      where
        kind : (b : Bool) → not (cond b open_end 0 == 0) ≡ b
        kind true = refl
        kind false = refl

    -- each directory that was open stays open
    open-old : (i : ℕ) → i < count → nat_lt (count + 1) (more i) ≡ nat_lt count (end i)
    open-old i l = ap (nat_lt (count + 1)) (end-old i l) ∙ elim (h.ends i l) [
      | inl z ↦ lt-same (count + 1) (end i) count (end i) (λ a. omega (arith, a)) (λ a. omega (arith, a, z))
      | inr q ↦ elim q [
        | inl z ↦ lt-same (count + 1) (end i) count (end i) (λ a. omega (arith, a)) (λ a. omega (arith, z, room))
        | inr z ↦ let r = z.1 in lt-same (count + 1) (end i) count (end i) (λ a. omega (arith, a)) (λ a. omega (arith, a, r))
      ]
    ]

    open-new : nat_lt (count + 1) (more count) ≡ is_dir
    open-new = ap (nat_lt (count + 1)) end-new ∙ is_open is_dir
      where
        is_open : (b : Bool) → nat_lt (count + 1) (cond b open_end 0) ≡ b
        is_open true = lt-ltb (count + 1) open_end room
        is_open false = le-ltb (count + 1) 0 (omega arith)

    abbrev own_directory : List OpenDirectory
    own_directory = cond is_dir (record { number = count; name = own } ∷ []) []

    entries_are : map (nested_entry other more) (range_with_len 0 (count + 1)) ≡ map (nested_entry name end) (range_with_len 0 count) ++ entry_in (directories_above name end count) own is_dir ∷ []
    entries_are =
        map-range_with_len_more (nested_entry other more) 0 count count (omega arith)
        ∙ (ap (λ t. t ++ nested_entry other more count ∷ []) (map_range-same (nested_entry other more) (nested_entry name end) 0 count (λ i le lt. entry-old i (omega (arith, lt))))
        ∙ ap (λ x. map (nested_entry name end) (range_with_len 0 count) ++ x ∷ []) entry-new)

    open_are : directories_above other more (count + 1) ≡ directories_above name end count ++ own_directory
    open_are =
        let p : OpenDirectory → Bool = λ d. nat_lt (count + 1) (more d.number) in
        let f : ℕ → OpenDirectory = λ i. record { number = i; name = other i } in
        filter_of_map_range_with_len_more p f 0 count count (omega arith)
        ∙ (ap (λ t. t ++ cond (p (f count)) (f count ∷ []) []) (above-same name other end more (count + 1) count count (λ i lt. (name-old i lt, open-old i lt)))
        ∙ (ap (λ b. directories_above name end count ++ cond b (f count ∷ []) []) open-new
        ∙ ap (λ x. directories_above name end count ++ cond is_dir (record { number = count; name = x } ∷ []) []) name-new))

    abbrev after : TreeContents
    after = record { entries = tree.entries ++ entry_in tree.open_directories own is_dir ∷ []; open_directories = tree.open_directories ++ own_directory }

    after_is : (b : Bool) → tree_after tree (own_call b own) ≡ record { entries = tree.entries ++ entry_in tree.open_directories own b ∷ []; open_directories = tree.open_directories ++ cond b (record { number = count; name = own } ∷ []) [] }
    after_is true = ap (λ k. record { entries = tree.entries ++ entry_in tree.open_directories own true ∷ []; open_directories = tree.open_directories ++ record { number = k; name = own } ∷ [] }) (length-nested_tree name end count)
    after_is false = ap (λ t. record { entries = tree.entries ++ entry_in tree.open_directories own false ∷ []; open_directories = t }) (sym (append-nil tree.open_directories))

    grown : nested_tree other more (count + 1) ≡ after
    unfolding nested_tree
    grown =
        ap (λ es. record { entries = es; open_directories = directories_above other more (count + 1) }) entries_are
        ∙ ap (λ os. record { entries = map (nested_entry name end) (range_with_len 0 count) ++ entry_in (directories_above name end count) own is_dir ∷ []; open_directories = os }) open_are

    grows : nested_tree other more (count + 1) ≡ tree_after tree (own_call is_dir own)
    grows = grown ∙ sym (after_is is_dir)

    more_ends : (i : ℕ) → i < count + 1 → IsEnd (count + 1) i (more i)
    more_ends i l = elim (cases_lt i count) [
      | inl lt ↦ subst (IsEnd (count + 1) i) (sym (end-old i lt)) (elim (h.ends i lt) [
        | inl z ↦ inl z
        | inr q ↦ elim q [
          | inl z ↦ inr (inl z)
          | inr z ↦ inr (inr (z.0, omega (arith, z.1)))
        ]
      ])
      | inr ge ↦
          let at : count ≡ i = omega (arith, ge, l) in
          subst (λ k. IsEnd (count + 1) k (more k)) at (subst (IsEnd (count + 1) count) (sym end-new) (own_end is_dir))
    ]
      where
        own_end : (b : Bool) → IsEnd (count + 1) count (cond b open_end 0)
        own_end true = inr (inl refl)
        own_end false = inl refl

    more_open : append_if is_dir count stack ≡ numbers_of after.open_directories
    more_open = ap (append_if is_dir count) h.stack_is ∙ (by_kind is_dir (numbers_of tree.open_directories) ∙ sym (map-append (λ d. d.number) tree.open_directories own_directory))
      where
        by_kind : (b : Bool) (ns : List ℕ) → append_if b count ns ≡ ns ++ numbers_of (cond b (record { number = count; name = own } ∷ []) [])
        by_kind true ns = refl
        by_kind false ns = sym (append-nil ns)

    nested-more : AreNested other more (count + 1) (append_if is_dir count stack) (directories + cond is_dir 1 0)
    nested-more = record {
      made = subst IsMade (sym grows) (made-push tree (own_call is_dir own) (named-own is_dir own named) h.made);
      stack_is = more_open ∙ ap (λ (t : TreeContents). numbers_of t.open_directories) (sym grown);
      ends = more_ends;
      directories_are =
          ap (λ (t : TreeContents). directory_count t.entries) grown
          ∙ (count_by-push (λ (e : Entry). e.is_dir) tree.entries (entry_in tree.open_directories own is_dir) ∙ ap (λ k. k + cond is_dir 1 0) h.directories_are);
    }

    -- The names and ends with those of one more entry stand for the tree after the call that adds it.
    pub nested-push : (k d : ℕ) (o : List ℕ) → k ≡ count + 1 → o ≡ append_if is_dir count stack → d ≡ directories + cond is_dir 1 0 → AreNested other more k o d × (nested_tree other more k ≡ tree_after tree (own_call is_dir own))
    nested-push k d o is_k is_o is_d =
        let P : ℕ → List ℕ → ℕ → Type 0 = λ x y z. AreNested other more x y z × (nested_tree other more x ≡ tree_after tree (own_call is_dir own)) in
        subst (λ x. P x o d) (sym is_k) (subst (λ y. P (count + 1) y d) (sym is_o) (subst (P (count + 1) (append_if is_dir count stack)) (sym is_d) (nested-more, grows)))

  -- ---- a directory is closed

  pub none_open : stack ≡ [] → tree.open_directories ≡ []
  none_open e = by_numbers tree.open_directories (sym h.stack_is ∙ e)
    where
      by_numbers : (ds : List OpenDirectory) → numbers_of ds ≡ [] → ds ≡ []
      by_numbers [] e = refl
      by_numbers (d ∷ ds) e = cc

  -- where none is open, nothing is closed
  pub nested-none : stack ≡ [] → tree ≡ tree_after tree Close
  nested-none e = ap (λ x. record { entries = tree.entries; open_directories = x }) (none_open e ∙ sym (ap (λ (x : List OpenDirectory). take (length x - 1) x) (none_open e)))

  module _ (below : List ℕ) (place : ℕ) (last : stack ≡ below ++ place ∷ []) where
    abbrev open_now : List OpenDirectory
    open_now = directories_above name end count

    open_is : tree.open_directories ≡ open_now
    open_is = open-nested_tree name end count

    -- The directory that was opened last is an entry whose end is not known yet.
    pub top_is : (place < count) × (end place ≡ open_end) × (nat_lt count (end place) ≡ true)
    top_is =
        let c : Contains (numbers_of open_now) place = subst (λ (t : List ℕ). Contains t place) (sym last ∙ (h.stack_is ∙ ap numbers_of open_is)) (Contains-push below place) in
        let r = (Contains-above name end count place).0 c in
        let l = ltb-true count (end place) r.1 in (
          r.0,
          elim (h.ends place r.0) [
            | inl z ↦ absurd (omega (arith, z, l))
            | inr q ↦ elim q [
              | inl z ↦ z
              | inr z ↦ let w = z.1 in absurd (omega (arith, w, l))
            ]
          ],
          r.1,
        )

    -- the directories that are open, without it
    pub tops : (front : List OpenDirectory) × (d : OpenDirectory) × (tree.open_directories ≡ front ++ d ∷ []) × (below ≡ numbers_of front) × (place ≡ d.number)
    tops = elim (snoc_cases tree.open_directories) [
      | inl e ↦
          let none_long = ap length (sym last ∙ (h.stack_is ∙ ap numbers_of e)) in
          absurd (omega (arith, none_long, length_push below place))
      | inr r ↦
          let both = snoc_parts below (numbers_of r.0) place r.1.number (sym last ∙ (h.stack_is ∙ (ap numbers_of r.2 ∙ map-append (λ x. x.number) r.0 (r.1 ∷ [])))) in
          (r.0, r.1, r.2, both.0, both.1)
    ]

    module _ (other : ℕ → List ℕ) (closed : ℕ → ℕ) (same : (i : ℕ) → other i ≡ name i) (top : closed place ≡ count) (rest : (i : ℕ) → i ≢ place → closed i ≡ end i) (room : count ≤ open_end) where
      -- an entry before the end lies in the directory as before
      within-closed : (i j : ℕ) → i < count → nat_lt i (closed j) ≡ nat_lt i (end j)
      within-closed i j l = elim (cases_eq j place) [
        | inl e ↦ subst (λ k. nat_lt i (closed k) ≡ nat_lt i (end k)) (sym e) (lt-same i (closed place) i (end place) (λ a. omega (arith, l, room, top_is.1)) (λ a. omega (arith, l, top)))
        | inr n ↦ ap (nat_lt i) (rest j n)
      ]

      kind-closed : (i : ℕ) → not (closed i == 0) ≡ not (end i == 0)
      kind-closed i = elim (cases_eq i place) [
        | inl e ↦
            let a : (closed place == 0) ≡ false = ne_eqb (closed place) 0 (λ z. omega (arith, z, top, top_is.0)) in
            let b : (end place == 0) ≡ false = ne_eqb (end place) 0 (λ z. omega (arith, z, top_is.1)) in
            subst (λ k. not (closed k == 0) ≡ not (end k == 0)) (sym e) (ap not (a ∙ sym b))
        | inr n ↦ ap (λ e. not (e == 0)) (rest i n)
      ]

      entry-closed : (i : ℕ) → i < count → nested_entry other closed i ≡ nested_entry name end i
      entry-closed i l =
          ap (λ x. entry_in x (other i) (not (closed i == 0))) (above-same name other end closed i i i (λ j lt. (same j, within-closed i j l)))
          ∙ (ap (λ x. entry_in (directories_above name end i) x (not (closed i == 0))) (same i) ∙ ap (λ b. entry_in (directories_above name end i) (name i) b) (kind-closed i))

      open_closed : directories_above other closed count ≡ take (length open_now - 1) open_now
      open_closed =
          let f : ℕ → OpenDirectory = λ i. record { number = i; name = name i } in
          let g : ℕ → OpenDirectory = λ i. record { number = i; name = other i } in
          let p : OpenDirectory → Bool = λ x. nat_lt count (end x.number) in
          let q : OpenDirectory → Bool = λ x. nat_lt count (closed x.number) in
          let t = tops in
          let is : open_now ≡ t.0 ++ t.1 ∷ [] = sym open_is ∙ t.2 in
          filter_range-same q q g f 0 count (λ i le lt. (ap (λ x. record { number = i; name = x }) (same i), refl))
          ∙ (filter_range-without_last (λ x. x.number) f (λ i. refl) p q count place t.0 t.1 is (sym t.4) (λ i lt ne. sym (ap (nat_lt count) (rest i ne))) (le-ltb count (closed place) (omega (arith, top))) top_is.2
          ∙ sym (ap (λ (x : List OpenDirectory). take (length x - 1) x) is ∙ take-snoc t.0 t.1))

      closes : nested_tree other closed count ≡ tree_after tree Close
      unfolding nested_tree
      closes =
          ap (λ es. record { entries = es; open_directories = directories_above other closed count }) (map_range-same (nested_entry other closed) (nested_entry name end) 0 count (λ i le lt. entry-closed i (omega (arith, lt))))
          ∙ ap (λ os. record { entries = map (nested_entry name end) (range_with_len 0 count); open_directories = os }) open_closed

      closed_ends : (i : ℕ) → i < count → IsEnd count i (closed i)
      closed_ends i l = elim (cases_eq i place) [
        | inl e ↦ subst (λ k. IsEnd count k (closed k)) (sym e) (inr (inr (omega (arith, top, top_is.0), omega (arith, top))))
        | inr n ↦ subst (IsEnd count i) (sym (rest i n)) (h.ends i l)
      ]

      nested-closed : AreNested other closed count below directories
      nested-closed = let t = tops in record {
        made = subst IsMade (sym closes) (made-push tree Close tt h.made);
        stack_is = t.3 ∙ (ap numbers_of (sym (ap (λ (x : List OpenDirectory). take (length x - 1) x) t.2 ∙ take-snoc t.0 t.1)) ∙ ap (λ (x : TreeContents). numbers_of x.open_directories) (sym closes));
        ends = closed_ends;
        directories_are = ap (λ (x : TreeContents). directory_count x.entries) closes ∙ h.directories_are;
      }

      -- The names and the ends, of which that of the directory is known now, stand for the tree after the call that closes it.
      pub nested-close : (k : ℕ) → k ≡ count → AreNested other closed k below directories × (nested_tree other closed k ≡ tree_after tree Close)
      nested-close k e = subst (λ x. AreNested other closed x below directories × (nested_tree other closed x ≡ tree_after tree Close)) (sym e) (nested-closed, closes)

  -- ---- what the numbers say of one entry

  module _ (t : TreeContents) (view : tree ≡ t) where
    pub entries_count : length t.entries ≡ count
    entries_count = ap (λ (x : TreeContents). length x.entries) (sym view) ∙ length-nested_tree name end count

    pub nested_of : IsNested t.entries
    nested_of = subst (λ (x : TreeContents). IsNested x.entries) (sym h.made.2 ∙ view) (tree_of_calls-nested h.made.0 h.made.1)

    pub bytes_of : HasBytePaths t.entries
    bytes_of = subst (λ (x : TreeContents). HasBytePaths x.entries) (sym h.made.2 ∙ view) (tree_of_calls-bytes h.made.0 h.made.1)

    pub count_of : directories ≡ directory_count t.entries
    count_of = sym h.directories_are ∙ ap (λ (x : TreeContents). directory_count x.entries) view

    pub entry_at : (i : ℕ) → i < count → (e : Entry) × (slice_get t.entries i ≡ Some e)
    entry_at i l = (nested_entry name end i, ap (λ (x : TreeContents). slice_get x.entries i) (sym view) ∙ get-nested_tree name end count i l)

    entry_is : (i : ℕ) (e : Entry) → slice_get t.entries i ≡ Some e → e ≡ nested_entry name end i
    entry_is i e s =
        let inside : i < count = let w = slice_get_within t.entries i e s in omega (arith, w, entries_count) in
        same_Some e (nested_entry name end i) (sym s ∙ (ap (λ (x : TreeContents). slice_get x.entries i) (sym view) ∙ get-nested_tree name end count i inside))

    -- Its end tells its kind.
    pub kind_is : (i : ℕ) (e : Entry) → slice_get t.entries i ≡ Some e → not (end i == 0) ≡ e.is_dir
    kind_is i e s = ap (λ (x : Entry). x.is_dir) (sym (entry_is i e s))

    lies_in : (i j : ℕ) (f : Entry) → i < j → slice_get t.entries j ≡ Some f → Contains f.above i ↔ (j < end i)
    lies_in i j f l s =
        let is : f.above ≡ numbers_of (directories_above name end j) = ap (λ (x : Entry). x.above) (entry_is j f s) in
        let both = Contains-above name end j i in (
          λ c. ltb-true j (end i) (both.0 (subst (λ (x : List ℕ). Contains x i) is c)).1,
          λ lt. subst (λ (x : List ℕ). Contains x i) (sym is) (both.1 (l, lt-ltb j (end i) lt)),
        )

    -- What lies in it is the run of entries up to its end.
    pub end_is : (i : ℕ) → i < count → count ≤ open_end → IsEndOf t.entries i (end_from i (end i))
    end_is i w room = elim (cases_eq (end i) 0) [
      | inl z ↦
          subst (IsEndOf t.entries i) (sym (ap (λ b. cond b (i + 1) (end i)) (eq-eqb (end i) 0 z)))
          (omega arith, λ j f l s. (λ c. let r = (lies_in i j f l s).0 c in omega (arith, r, z), λ lt. absurd (omega (arith, l, lt))))
      | inr n ↦
          subst (IsEndOf t.entries i) (sym (ap (λ b. cond b (i + 1) (end i)) (ne_eqb (end i) 0 n))) (
            elim (h.ends i w) [
              | inl z ↦ absurd (n z)
              | inr q ↦ elim q [
                | inl z ↦ omega (arith, z, w, room)
                | inr z ↦ z.0
              ]
            ],
            lies_in i,
          )
    ]

-- ---- no entries

pub nested_of_none : (name : ℕ → List ℕ) (end : ℕ → ℕ) → AreNested name end 0 [] 0 × (nested_tree name end 0 ≡ empty_tree)
unfolding nested_tree
nested_of_none name end = (record { made = ([], tt, refl); stack_is = refl; ends = λ i l. absurd (omega (arith, l)); directories_are = refl }, refl)
