-- A tree that copies entries: in which directories the next one lies, and one more.
use Rattle.std.proofs.Common.{◌≡◌, ℕ, zero, suc, ◌+◌, ◌-◌, ◌<◌, ◌≤◌, Bool, true, false, cond, refl, sym, ◌∙◌, ap, subst, List, [], ◌∷◌, ◌++◌, length, take, drop, arith, append_assoc, length-append, inl, inr, Option, Some, None}
use Rattle.std.proofs.lemmas.Bool.{cases_lt}
use Rattle.std.proofs.lemmas.List.{append-nil, map-append, length-map, length_push, take-map, take-take, take_all, length-take-le, length-drop, take-append-le}
use Rattle.std.proofs.lemmas.Option.{same_Some, slice_get_within, slice_get-get_or, get_or_from_slice_get, slice_get-map}
use Rattle.std.proofs.Math.Seq.{take-length, take-append_seam, drop-append_seam}
use Rattle.std.specs.Prelude.{slice_get, Contains, MatchOption, option_map, Result, Ok, Err, OnOk, OnErr}
use Rattle.pathspec_parts.specs.Bytes.{slash}
use Rattle.pathspec_parts.specs.Paths.{join_names}
use Rattle.pathspec_parts.specs.Entries.{Call, OpenDirectory, Entry, own_call, entry_in, entries_from, names_of, numbers_of}
use Rattle.pathspec_parts.specs.Entries.Call.{Open, File, Close}
use Rattle.pathspec_parts.specs.Trees.{TreeContents, empty_tree, tree_after}
use Rattle.pathspec_parts.specs.Cursors.{IsEndOf}
use Rattle.pathspec_parts.specs.TreeAnswers.{AnswersClose}
use Rattle.pathspec_parts.specs.declared.tree.TreeError.{TreeError}
use Rattle.pathspec_parts.specs.declared.tree.TreeError.TheVariants.{EmptyName, NotOpen, Memory}
use Rattle.pathspec_parts.proofs.NodeProofs.{last_is}
use Rattle.pathspec_parts.proofs.TreeProofs.{get-append, get-last, get-cases, tree_has_entries}
use Rattle.pathspec_parts.specs.Nesting.{IsMade}
use Rattle.pathspec_select.specs.TreeCopies.{AreOpenIn, IsCopyBy, IsCopy, TakesNext, TakesNextAbove, IsLengthAbove}

-- ---- lists

get-take : {X : Type 0} (k : ℕ) (xs : List X) (i : ℕ) (x : X) → slice_get (take k xs) i ≡ Some x → (i < k) × (slice_get xs i ≡ Some x)
get-take zero xs i x e = cc
get-take (suc k) [] i x e = cc
get-take (suc k) (y ∷ xs) zero x e = (omega arith, e)
get-take (suc k) (y ∷ xs) (suc i) x e = let r = get-take k xs i x e in (omega (arith, r.0), r.1)

get-middle : {X : Type 0} (xs : List X) (y : X) (zs : List X) → slice_get (xs ++ y ∷ zs) (length xs) ≡ Some y
get-middle [] y zs = refl
get-middle (x ∷ xs) y zs = get-middle xs y zs

-- an element of a list, by its place
contained_at : (xs : List ℕ) (x : ℕ) → Contains xs x → (i : ℕ) × (slice_get xs i ≡ Some x)
contained_at xs x (i, l, e) = (i, slice_get-get_or xs i x l ∙ ap Some e)

contained_by : (xs : List ℕ) (i x : ℕ) → slice_get xs i ≡ Some x → Contains xs x
contained_by xs i x e = (i, slice_get_within xs i x e, get_or_from_slice_get xs i x x e)

-- the directory of a number
directory_of : (ds : List OpenDirectory) (i m : ℕ) → slice_get (numbers_of ds) i ≡ Some m → (d : OpenDirectory) × (slice_get ds i ≡ Some d) × (d.number ≡ m)
directory_of [] i m e = cc
directory_of (d ∷ ds) zero m e = (d, refl, same_Some d.number m e)
directory_of (d ∷ ds) (suc i) m e = directory_of ds i m e

-- names after others
join-last : (front : List (List ℕ)) (x y : List ℕ) → join_names (front ++ x ∷ y ∷ []) ≡ join_names (front ++ x ∷ []) ++ slash ∷ y
join-last [] x y = refl
join-last (a ∷ []) x y = sym (append_assoc a (slash ∷ x) (slash ∷ y))
join-last (a ∷ b ∷ front) x y = ap (λ t. a ++ slash ∷ t) (join-last (b ∷ front) x y) ∙ sym (append_assoc a (slash ∷ join_names (b ∷ front ++ x ∷ [])) (slash ∷ y))

-- ---- open directories

AreOpenIn-take : (es : List Entry) (k : ℕ) (ds : List OpenDirectory) → AreOpenIn es ds → AreOpenIn es (take k ds)
AreOpenIn-take es k ds h i d s =
    let r = get-take k ds i d s in
    subst (λ (t : List OpenDirectory). slice_get es d.number ≡ Some (entry_in t d.name true)) (sym (take-take i k ds (let l = r.0 in omega (arith, l)))) (h i d r.1)

AreOpenIn-append : (es more : List Entry) (ds : List OpenDirectory) → AreOpenIn es ds → AreOpenIn (es ++ more) ds
AreOpenIn-append es more ds h i d s = get-append es more d.number (entry_in (take i ds) d.name true) (h i d s)

AreOpenIn-push : (es : List Entry) (ds : List OpenDirectory) (o : OpenDirectory) → AreOpenIn es ds → slice_get es o.number ≡ Some (entry_in ds o.name true) → AreOpenIn es (ds ++ o ∷ [])
AreOpenIn-push es ds o h new i d s = elim (get-cases ds o i d s) [
  | inl q ↦
      let w = slice_get_within ds i d q in
      subst (λ (t : List OpenDirectory). slice_get es d.number ≡ Some (entry_in t d.name true)) (sym (take-append-le i ds (o ∷ []) (omega (arith, w)))) (h i d q)
  | inr q ↦
      let front : take i (ds ++ o ∷ []) ≡ ds = ap (λ k. take k (ds ++ o ∷ [])) q.0 ∙ take-append_seam ds (o ∷ []) in
      subst (λ (x : OpenDirectory). slice_get es x.number ≡ Some (entry_in (take i (ds ++ o ∷ [])) x.name true)) q.1 (subst (λ (t : List OpenDirectory). slice_get es o.number ≡ Some (entry_in t o.name true)) (sym front) new)
]

-- one number is that of one open directory
one_place : (es : List Entry) (ds : List OpenDirectory) → AreOpenIn es ds → (i j : ℕ) (d f : OpenDirectory) → slice_get ds i ≡ Some d → slice_get ds j ≡ Some f → d.number ≡ f.number → i ≡ j
one_place es ds h i j d f s t e =
    let same : entry_in (take i ds) d.name true ≡ entry_in (take j ds) f.name true = same_Some _ _ (sym (h i d s) ∙ (ap (slice_get es) e ∙ h j f t)) in
    let long : length (numbers_of (take i ds)) ≡ length (numbers_of (take j ds)) = ap (λ (x : Entry). length x.above) same in
    let w = slice_get_within ds i d s in
    let v = slice_get_within ds j f t in
    sym (length-take-le i ds (omega (arith, w))) ∙ (sym (length-map (take i ds) (λ d. d.number)) ∙ (long ∙ (length-map (take j ds) (λ d. d.number) ∙ length-take-le j ds (omega (arith, v)))))

-- ---- the next entry

module _ (es : List Entry) (copy : TreeContents) where
  abbrev directories : List OpenDirectory
  directories = copy.open_directories

  abbrev count : ℕ
  count = length copy.entries

  first_own : (m : ℕ) → m ≤ length directories → (calls : List Call) → es ≡ copy.entries ++ entries_from count (take m directories) calls → count < length es
      → (kept : ℕ) × (kept ≤ m) × (is_dir : Bool) × (name : List ℕ) × (rest : List Call) × (es ≡ copy.entries ++ entries_from count (take kept directories) (own_call is_dir name ∷ rest))
  first_own m w [] e l = absurd (let n = ap length e ∙ ap length (append-nil copy.entries) in omega (arith, n, l))
  first_own m w (Open name ∷ calls) e l = (m, omega arith, true, name, calls, e)
  first_own m w (File name ∷ calls) e l = (m, omega arith, false, name, calls, e)
  first_own m w (Close ∷ calls) e l =
      let shorter : take (length (take m directories) - 1) (take m directories) ≡ take (m - 1) directories = ap (λ k. take (k - 1) (take m directories)) (length-take-le m directories w) ∙ take-take (m - 1) m directories (omega arith) in
      let r = first_own (m - 1) (omega (arith, w)) calls (e ∙ ap (λ t. copy.entries ++ entries_from count t calls) shorter) l in
      (r.0, (let k = r.1 in omega (arith, k)), r.2, r.3, r.4, r.5)

  module _ (open_numbers : List ℕ) where
    -- it lies in the first of the open directories
    pub next-above : IsCopy es copy open_numbers → count < length es → TakesNextAbove es copy open_numbers
    next-above (calls, c) l =
        let r = first_own (length directories) (omega arith) calls (c.left ∙ ap (λ t. copy.entries ++ entries_from count t calls) (sym (take-length directories))) l in
        record {
          kept = r.0;
          within = r.1;
          next = (r.2, r.3, r.4, record { left = r.5; open_are = AreOpenIn-take copy.entries r.0 directories c.open_are; numbers = ap (take r.0) c.numbers ∙ take-map (λ (d : OpenDirectory). d.number) r.0 directories });
          open_are = c.open_are;
          numbers = c.numbers;
        }

    module _ (n : TakesNextAbove es copy open_numbers) where
      count_open : length open_numbers ≡ length directories
      count_open = ap length n.numbers ∙ length-map directories (λ (d : OpenDirectory). d.number)

      -- the last open directory
      last_open : (m : ℕ) → slice_get open_numbers (length open_numbers - 1) ≡ Some m → (d : OpenDirectory) × (slice_get directories (length directories - 1) ≡ Some d) × (d.number ≡ m)
      last_open m s = directory_of directories (length directories - 1) m (sym (ap (λ k. slice_get (numbers_of directories) (k - 1)) count_open) ∙ (ap (λ t. slice_get t (length open_numbers - 1)) (sym n.numbers) ∙ s))

      pub last-before : (m : ℕ) → slice_get open_numbers (length open_numbers - 1) ≡ Some m → m < count
      last-before m s =
          let d = last_open m s in
          let w = slice_get_within copy.entries d.0.number _ (n.open_are (length directories - 1) d.0 d.1) in
          let same = d.2 in
          omega (arith, w, same)

      -- the next entry, and what lies above it
      abbrev entry : Entry
      entry = entry_in (take n.kept directories) n.next.1 n.next.0

      entry_stands : slice_get es count ≡ Some entry
      entry_stands = by n.next.0 n.next.3.left
        where
          by : (b : Bool) → es ≡ copy.entries ++ entries_from count (take n.kept directories) (own_call b n.next.1 ∷ n.next.2) → slice_get es count ≡ Some (entry_in (take n.kept directories) n.next.1 b)
          by true e = ap (λ t. slice_get t count) e ∙ get-middle copy.entries _ _
          by false e = ap (λ t. slice_get t count) e ∙ get-middle copy.entries _ _

      -- it doesn't lie in a directory that ends before it
      pub ended : (m end : ℕ) → slice_get open_numbers (length open_numbers - 1) ≡ Some m → IsEndOf es m end → end ≤ count → n.kept < length directories
      ended m end s is le = elim (cases_lt n.kept (length directories)) [
        | inl l ↦ l
        | inr g ↦
            let d = last_open m s in
            let w = slice_get_within directories (length directories - 1) d.0 d.1 in
            let within = n.within in
            let all : take n.kept directories ≡ directories = ap (λ k. take k directories) (omega (arith, g, within)) ∙ take-length directories in
            let inside : Contains entry.above m = subst (λ (t : List OpenDirectory). Contains (numbers_of t) m) (sym all)
            (contained_by (numbers_of directories) (length directories - 1) m (slice_get-map (λ (x : OpenDirectory). x.number) directories (length directories - 1) ∙ (ap (option_map (λ (x : OpenDirectory). x.number)) d.1 ∙ ap Some d.2))) in
            let lt = (is.1 count entry (last-before m s) entry_stands).0 inside in
            absurd (omega (arith, lt, le))
      ]

      -- and lies in all open ones where the last doesn't end before it
      pub still-open : (m end : ℕ) → slice_get open_numbers (length open_numbers - 1) ≡ Some m → IsEndOf es m end → count < end → n.kept ≡ length directories
      still-open m end s is lt =
          let d = last_open m s in
          let inside : Contains entry.above m = (is.1 count entry (last-before m s) entry_stands).1 lt in
          let p = contained_at entry.above m inside in
          let f = directory_of (take n.kept directories) p.0 m p.1 in
          let r = get-take n.kept directories p.0 f.0 f.1 in
          let same = one_place copy.entries directories n.open_are p.0 (length directories - 1) f.0 d.0 r.1 d.1 (f.2 ∙ sym d.2) in
          let w = slice_get_within directories (length directories - 1) d.0 d.1 in
          let within = n.within in
          let below = r.0 in
          omega (arith, same, w, within, below)

      -- with the last directory closed
      pub above-closed : (fewer : List ℕ) → n.kept < length directories → fewer ≡ take (length open_numbers - 1) open_numbers → TakesNextAbove es (tree_after copy Close) fewer
      above-closed fewer l e =
          let shorter : take n.kept (take (length directories - 1) directories) ≡ take n.kept directories = take-take n.kept (length directories - 1) directories (omega (arith, l)) in
          let fewer_kept : take n.kept fewer ≡ take n.kept open_numbers = ap (take n.kept) e ∙ take-take n.kept (length open_numbers - 1) open_numbers (omega (arith, l, count_open)) in
          let P : List OpenDirectory → List ℕ → Type 0 = λ t ns. TakesNext es (record { entries = copy.entries; open_directories = t }) ns in
          record {
            kept = n.kept;
            within = let k = length-take-le (length directories - 1) directories (omega arith) in omega (arith, l, k);
            next = subst (λ ns. P (take n.kept (take (length directories - 1) directories)) ns) (sym fewer_kept) (subst (λ t. P t (take n.kept open_numbers)) (sym shorter) n.next);
            open_are = AreOpenIn-take copy.entries (length directories - 1) directories n.open_are;
            numbers = e ∙ (ap (λ k. take (k - 1) open_numbers) count_open ∙ (ap (take (length directories - 1)) n.numbers ∙ take-map (λ (d : OpenDirectory). d.number) (length directories - 1) directories));
          }

      -- it lies in all that are open
      pub takes-next : n.kept ≡ length directories → TakesNext es copy open_numbers
      takes-next k =
          let P : List OpenDirectory → List ℕ → Type 0 = λ t ns. TakesNext es (record { entries = copy.entries; open_directories = t }) ns in
          let all : take n.kept directories ≡ directories = ap (λ j. take j directories) k ∙ take-length directories in
          let all_numbers : take n.kept open_numbers ≡ open_numbers = ap (λ j. take j open_numbers) (k ∙ sym count_open) ∙ take-length open_numbers in
          subst (λ t. P t open_numbers) all (subst (λ ns. P (take n.kept directories) ns) all_numbers n.next)

    module _ (n : TakesNext es copy open_numbers) where
      abbrev added : Entry
      added = entry_in directories n.1 n.0

      pub added-stands : slice_get es count ≡ Some added
      added-stands = by n.0 n.3.left
        where
          by : (b : Bool) → es ≡ copy.entries ++ entries_from count directories (own_call b n.1 ∷ n.2) → slice_get es count ≡ Some (entry_in directories n.1 b)
          by true e = ap (λ t. slice_get t count) e ∙ get-middle copy.entries _ _
          by false e = ap (λ t. slice_get t count) e ∙ get-middle copy.entries _ _

      -- the last open directory stands among the entries
      pub last-within : (m : ℕ) → slice_get open_numbers (length open_numbers - 1) ≡ Some m → m < length es
      last-within m s =
          let i = length open_numbers - 1 in
          let d = directory_of directories i m (ap (λ t. slice_get t i) (sym n.3.numbers) ∙ s) in
          let w = slice_get_within copy.entries d.0.number _ (n.3.open_are i d.0 d.1) in
          let in_all = slice_get_within es count added added-stands in
          let same = d.2 in
          omega (arith, w, in_all, same)

      -- the path of the next entry, behind that of the last open directory and a slash, is its name
      pub name-behind : (above : ℕ) → IsLengthAbove es open_numbers above → (above ≤ length added.path) × (drop above added.path ≡ n.1)
      name-behind above h = by (slice_get open_numbers (length open_numbers - 1)) refl h
        where
          here : (m : ℕ) → slice_get open_numbers (length open_numbers - 1) ≡ Some m → ((e : Entry) → slice_get es m ≡ Some e → above ≡ length e.path + 1) → (above ≤ length added.path) × (drop above added.path ≡ n.1)
          here m s long =
              let i = length open_numbers - 1 in
              let counts : length open_numbers ≡ length directories = ap length n.3.numbers ∙ length-map directories (λ (d : OpenDirectory). d.number) in
              let d = directory_of directories i m (ap (λ t. slice_get t i) (sym n.3.numbers) ∙ s) in
              let last = last_is directories d.0 (ap (λ k. slice_get directories (k - 1)) (sym counts) ∙ d.1) in
              let front = last.0 in
              let at : i ≡ length front = let k = ap length last.1 ∙ length_push front d.0 in omega (arith, counts, k) in
              let in_front : take i directories ≡ front = ap (take i) last.1 ∙ (ap (λ k. take k (front ++ d.0 ∷ [])) at ∙ take-append_seam front (d.0 ∷ [])) in
              let directory = entry_in front d.0.name true in
              let stands : slice_get es m ≡ Some directory =
              ap (λ t. slice_get t m) n.3.left ∙ (ap (slice_get (copy.entries ++ entries_from count directories (own_call n.0 n.1 ∷ n.2))) (sym d.2)
              ∙ get-append copy.entries _ d.0.number directory (n.3.open_are i d.0 d.1 ∙ ap (λ (t : List OpenDirectory). Some (entry_in t d.0.name true)) in_front)) in
              let names : names_of directories ++ n.1 ∷ [] ≡ names_of front ++ d.0.name ∷ n.1 ∷ [] =
              ap (λ (t : List OpenDirectory). names_of t ++ n.1 ∷ []) last.1 ∙ (ap (λ t. t ++ n.1 ∷ []) (map-append (λ (x : OpenDirectory). x.name) front (d.0 ∷ [])) ∙ append_assoc (names_of front) (d.0.name ∷ []) (n.1 ∷ [])) in
              let path : added.path ≡ (directory.path ++ slash ∷ []) ++ n.1 = ap join_names names ∙ (join-last (names_of front) d.0.name n.1 ∙ sym (append_assoc directory.path (slash ∷ []) n.1)) in
              let long_is : above ≡ length (directory.path ++ slash ∷ []) = long directory stands ∙ sym (length_push directory.path slash) in (
                (let k = ap length path ∙ length-append (directory.path ++ slash ∷ []) n.1 in omega (arith, long_is, k)),
                ap (drop above) path ∙ (ap (λ k. drop k ((directory.path ++ slash ∷ []) ++ n.1)) long_is ∙ drop-append_seam (directory.path ++ slash ∷ []) n.1),
              )

          alone : slice_get open_numbers (length open_numbers - 1) ≡ None → above ≡ 0 → (above ≤ length added.path) × (drop above added.path ≡ n.1)
          alone e z =
              let none : directories ≡ [] = empty directories (ap length n.3.numbers ∙ length-map directories (λ (d : OpenDirectory). d.number)) in
              let path : added.path ≡ n.1 = ap (λ (t : List OpenDirectory). join_names (names_of t ++ n.1 ∷ [])) none in
              (omega (arith, z), ap (λ k. drop k added.path) z ∙ path)
            where
              empty : (ds : List OpenDirectory) → length open_numbers ≡ length ds → ds ≡ []
              empty [] k = refl
              empty (d ∷ ds) k = absurd (
                  let l : length open_numbers - 1 < length open_numbers = omega (arith, k) in
                  let s = slice_get-get_or open_numbers (length open_numbers - 1) 0 l in
                  let q : ⊥ = cc in q)

          by : (o : Option ℕ) → slice_get open_numbers (length open_numbers - 1) ≡ o → MatchOption o (above ≡ 0) (λ m. (e : Entry) → slice_get es m ≡ Some e → above ≡ length e.path + 1) → (above ≤ length added.path) × (drop above added.path ≡ n.1)
          by None e k = alone e k
          by (Some m) e k = here m e k

      -- one entry more
      pub copies-more : (more : List ℕ) → more ≡ cond n.0 (open_numbers ++ count ∷ []) open_numbers → IsCopy es (tree_after copy (own_call n.0 n.1)) more
      copies-more more e = by n.0 n.3 more e
        where
          by : (b : Bool) → IsCopyBy (own_call b n.1 ∷ n.2) es copy open_numbers → (ns : List ℕ) → ns ≡ cond b (open_numbers ++ count ∷ []) open_numbers → IsCopy es (tree_after copy (own_call b n.1)) ns
          by true c ns k =
              let y = entry_in directories n.1 true in
              let o : OpenDirectory = record { number = count; name = n.1 } in (
                n.2,
                record {
                  left = c.left ∙ (sym (append_assoc copy.entries (y ∷ []) (entries_from (count + 1) (directories ++ o ∷ []) n.2)) ∙ ap (λ j. (copy.entries ++ y ∷ []) ++ entries_from j (directories ++ o ∷ []) n.2) (sym (length_push copy.entries y)));
                  open_are = AreOpenIn-push (copy.entries ++ y ∷ []) directories o (AreOpenIn-append copy.entries (y ∷ []) directories c.open_are) (get-last copy.entries y);
                  numbers = k ∙ (ap (λ t. t ++ count ∷ []) c.numbers ∙ sym (map-append (λ (d : OpenDirectory). d.number) directories (o ∷ [])));
                },
              )
          by false c ns k =
              let y = entry_in directories n.1 false in (
                n.2,
                record {
                  left = c.left ∙ (sym (append_assoc copy.entries (y ∷ []) (entries_from (count + 1) directories n.2)) ∙ ap (λ j. (copy.entries ++ y ∷ []) ++ entries_from j directories n.2) (sym (length_push copy.entries y)));
                  open_are = AreOpenIn-append copy.entries (y ∷ []) directories c.open_are;
                  numbers = k ∙ c.numbers;
                },
              )

      -- what is added by the path of the next entry, behind that of the open directory
      module _ (number : ℕ) (number_is : number ≡ count) (is_dir : Bool) (kind : (e : Entry) → slice_get es number ≡ Some e → is_dir ≡ e.is_dir) (path : List ℕ) (has_path : (e : Entry) → slice_get es number ≡ Some e → path ≡ e.path) (above : ℕ) (h : IsLengthAbove es open_numbers above) where
        stands : slice_get es number ≡ Some added
        stands = ap (slice_get es) number_is ∙ added-stands

        path_is : path ≡ added.path
        path_is = has_path added stands

        pub above-fits : above ≤ length path
        above-fits = let fits = (name-behind above h).0 in let same = ap length path_is in omega (arith, fits, same)

        pub adds-next : (new : TreeContents) → new ≡ tree_after copy (own_call is_dir (take (length path - above) (drop above path))) → (more : List ℕ) → more ≡ cond is_dir (open_numbers ++ number ∷ []) open_numbers → IsCopy es new more
        adds-next new e more m =
            let name : take (length path - above) (drop above path) ≡ n.1 = take_all (length path - above) (drop above path) (omega (arith, length-drop above path)) ∙ (ap (drop above) path_is ∙ (name-behind above h).1) in
            let is : is_dir ≡ n.0 = kind added stands in
            let new_is : new ≡ tree_after copy (own_call n.0 n.1) = e ∙ (ap (λ b. tree_after copy (own_call b (take (length path - above) (drop above path)))) is ∙ ap (λ x. tree_after copy (own_call n.0 x)) name) in
            let more_is : more ≡ cond n.0 (open_numbers ++ count ∷ []) open_numbers = m ∙ (ap (λ b. cond b (open_numbers ++ number ∷ []) open_numbers) is ∙ ap (λ k. cond n.0 (open_numbers ++ k ∷ []) open_numbers) number_is) in
            subst (λ (t : TreeContents). IsCopy es t more) (sym new_is) (copies-more more more_is)

-- ---- a call, and none

-- a directory is closed, or none was open
pub closes : (t new : TreeContents) (r : Result (Unit {0}) TreeError) → OnOk r (new ≡ tree_after t Close) → OnErr r (new ≡ t) → AnswersClose t.open_directories r → new ≡ tree_after t Close
closes t new (Ok x) ok err a = ok
closes t new (Err NotOpen) ok err a = err ∙ ap (λ (ds : List OpenDirectory). record { entries = t.entries; open_directories = ds }) (a ∙ ap (λ (ds : List OpenDirectory). take (length ds - 1) ds) (sym a))
closes t new (Err EmptyName) ok err a = absurd a
closes t new (Err Memory) ok err a = absurd a

-- a tree without entries is a copy of what calls made
pub copies-none : (t : TreeContents) → IsMade t → IsCopy t.entries empty_tree []
copies-none t (calls, named, is) = (calls, record { left = ap (λ (x : TreeContents). x.entries) is ∙ tree_has_entries calls; open_are = λ i d s. cc; numbers = refl })
