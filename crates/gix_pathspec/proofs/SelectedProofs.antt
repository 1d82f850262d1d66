-- Every chosen path begins with the common prefix, and the spec that answers selects just the chosen paths.
use Rattle.std.proofs.Common.{◌≡◌, ℕ, ◌<◌, Bool, true, false, not, ◌&&◌, ◌||◌, cond, inl, inr, refl, sym, ◌∙◌, ap, List, [], ◌∷◌, ◌++◌, length, map, subst, Option, Some, None, ◌⊎◌, arith, zero, suc}
use Rattle.std.proofs.lemmas.Bool.{and_parts, cases_Bool, both_ways, not-false, not-true, not_from_true, false_from_ne_true}
use Rattle.std.proofs.lemmas.List.{map-append}
use Rattle.std.proofs.lemmas.List.Elements.{filter-append, recursion_from_All}
use Rattle.std.proofs.lemmas.List.Folds.{find-append}
use Rattle.std.specs.Prelude.{◌≢◌, ◌↔◌, Contains, is_some, filter, find, IsTrue}
use Rattle.std.specs.List.{list_any, AllByRecursion, slice_index_or}
use Rattle.std.specs.Option.{option_or}
use Rattle.gix_pathspec.specs.declared.search.MatchKind.{MatchKind}
use Rattle.gix_pathspec.specs.Bytes.{is_empty, begins_with}
use Rattle.gix_pathspec.specs.Specs.{Spec, is_exclude, is_include}
use Rattle.gix_pathspec.specs.Attributes.{Table}
use Rattle.gix_pathspec.specs.Matching.{fit, fits, spec_matches, has_attributes, is_chosen, IsChosen}
use Rattle.gix_pathspec.specs.Prefixes.{head, heads, common_prefix, IsFrontOf}
use Rattle.gix_pathspec.specs.Search.{Numbered, specs_of, in_search_order, answer, answer_of, answer_with, Answer, selects}
use Rattle.gix_pathspec.specs.SelectionLaws.{ChosenBeginsCommon, SelectsChosen}
use Rattle.gix_pathspec.proofs.ChosenProofs.{contained_where, chosen_is_test}
use Rattle.gix_pathspec.proofs.PrefixProofs.{common_prefix_is_longest}
use Rattle.gix_pathspec.proofs.BeginsProofs.{front-through, begins_with-from_front}
use Rattle.gix_pathspec.proofs.HeadProofs.{fits-head}

-- ---- the common prefix

-- an element of a list is its first or one of the others
contains_at : {X : Type 0} (y : X) (xs : List X) (x : X) (k : ℕ) → k < length (y ∷ xs) → slice_index_or (y ∷ xs) k x ≡ x → (y ≡ x) ⊎ Contains xs x
contains_at y xs x zero l e = inl e
contains_at y xs x (suc k) l e = inr (k, omega arith, e)

pub Contains-cases : {X : Type 0} (y : X) (xs : List X) (x : X) → Contains (y ∷ xs) x → (y ≡ x) ⊎ Contains xs x
Contains-cases y xs x c = contains_at y xs x c.0 c.1 c.2

-- what holds of the heads holds of each include's
head_holds : (P : List ℕ → Type 0) (specs : List Spec) (s : Spec) → AllByRecursion P (heads specs) → Contains specs s → is_include s ≡ true → P (head s)
head_holds P [] s all c i = let no : ⊥ = omega (arith, c.1) in absurd no
head_holds P (x ∷ specs) s all c i = elim (Contains-cases x specs s c) [
  | inl e ↦ let j : is_include x ≡ true = ap is_include e ∙ i in let a = rw j at all in subst (λ y. P (head y)) e a.0
  | inr c ↦ elim (cases_Bool (is_include x)) [
    | inl j ↦ let a = rw j at all in head_holds P specs s a.1 c i
    | inr j ↦ let a = rw j at all in head_holds P specs s a c i
  ]
]

-- The common prefix begins each include's head.
pub common_begins_head : (specs : List Spec) (s : Spec) → Contains specs s → is_include s ≡ true → IsFrontOf (common_prefix specs) (head s)
common_begins_head specs s c i =
    let c' = common_prefix specs in head_holds (IsFrontOf c') specs s (recursion_from_All (IsFrontOf c') (heads specs) (common_prefix_is_longest specs).front) c i

-- there are heads where there are includes
heads-some : (specs : List Spec) → list_any is_include specs ≡ not (is_empty (heads specs))
heads-some [] = refl
heads-some (x ∷ specs) = elim (cases_Bool (is_include x)) [
  | inl i ↦ rw i refl
  | inr i ↦ rw i (heads-some specs)
]

pub empty_is_nil : {X : Type 0} (xs : List X) → is_empty xs ≡ true → xs ≡ []
empty_is_nil [] h = refl
empty_is_nil (x ∷ xs) h = cc

-- Without an include the common prefix is empty.
pub common_prefix-none : (specs : List Spec) → list_any is_include specs ≡ false → common_prefix specs ≡ []
common_prefix-none specs h = (common_prefix_is_longest specs).none (empty_is_nil (heads specs) (not-false (is_empty (heads specs)) (sym (heads-some specs) ∙ h)))

-- ---- chosen paths

pub fits-from_spec_matches : (table : Table) (s : Spec) (path : List ℕ) (is_dir : Bool) → spec_matches table s path is_dir ≡ true → fits s path is_dir ≡ true
unfolding spec_matches
fits-from_spec_matches table s path is_dir h = let p = and_parts (fits s path is_dir) (has_attributes table s path is_dir) h in p.0

-- where all are excludes there is no include
pub no_include_from_excludes : (specs : List Spec) → ((s : Spec) → Contains specs s → IsTrue (is_exclude s)) → list_any is_include specs ≡ false
no_include_from_excludes specs h = false_from_ne_true (list_any is_include specs) (λ i. let f = contained_where is_include specs i in both_ways (is_exclude f.0) (not-true (is_exclude f.0) f.2) (h f.0 f.1))

-- a path that an include fits begins with the common prefix
pub fitted_begins_common : (specs : List Spec) (s : Spec) (path : List ℕ) (is_dir : Bool) → Contains specs s → is_include s ≡ true → fits s path is_dir ≡ true → IsFrontOf (common_prefix specs) path
fitted_begins_common specs s path is_dir c i h = front-through (common_prefix specs) (head s) path (common_begins_head specs s c i) (fits-head s path is_dir h)

pub chosen_has_common : (table : Table) (specs : List Spec) (path : List ℕ) (is_dir : Bool) → IsChosen table specs path is_dir → IsFrontOf (common_prefix specs) path
chosen_has_common table specs path is_dir h = elim h.included [
  | inl m ↦ fitted_begins_common specs m.0 path is_dir m.1 m.2 (fits-from_spec_matches table m.0 path is_dir m.3)
  | inr n ↦ subst (λ x. IsFrontOf x path) (sym (common_prefix-none specs (no_include_from_excludes specs n))) (path, refl)
]

pub chosen_begins_common : ChosenBeginsCommon
chosen_begins_common table specs path is_dir n h = begins_with-from_front (common_prefix specs) path (chosen_has_common table specs path is_dir h)

-- ---- the first spec that matches a path

find-filter : {X : Type 0} (p q : X → Bool) (xs : List X) → find p (filter q xs) ≡ find (λ x. q x && p x) xs
find-filter p q [] = refl
find-filter p q (x ∷ xs) = elim (cases_Bool (q x)) [
  | inl e ↦ rw e (ap (cond (p x) (Some x)) (find-filter p q xs))
  | inr e ↦ rw e (find-filter p q xs)
]

-- what is found passes, and where nothing is found no element does
find_cases : {X : Type 0} (p : X → Bool) (xs : List X) → ((x : X) × (find p xs ≡ Some x) × (p x ≡ true) × (list_any p xs ≡ true)) ⊎ ((find p xs ≡ None) × (list_any p xs ≡ false))
find_cases p [] = inr (refl, refl)
find_cases p (x ∷ xs) = elim (cases_Bool (p x)) [
  | inl e ↦ inl (x, rw e refl, e, rw e refl)
  | inr e ↦ rw e (find_cases p xs)
]

pub list_any-map : {X Y : Type 0} (p : Y → Bool) (h : X → Y) (xs : List X) → list_any p (map h xs) ≡ list_any (λ x. p (h x)) xs
list_any-map p h [] = refl
list_any-map p h (x ∷ xs) = ap (λ b. p (h x) || b) (list_any-map p h xs)

-- ---- the search order

heads-excludes : (ns : List Numbered) → heads (specs_of (filter (λ n. is_exclude n.spec) ns)) ≡ []
heads-excludes [] = refl
heads-excludes (n ∷ ns) = elim (cases_Bool (is_exclude n.spec)) [
  | inl e ↦ rw (e, e) (heads-excludes ns)
  | inr e ↦ rw e (heads-excludes ns)
]

heads-includes : (ns : List Numbered) → heads (specs_of (filter (λ n. is_include n.spec) ns)) ≡ heads (specs_of ns)
heads-includes [] = refl
heads-includes (n ∷ ns) = elim (cases_Bool (is_exclude n.spec)) [
  | inl e ↦ rw e (heads-includes ns)
  | inr e ↦ rw (e, e) (ap (λ t. head n.spec ∷ t) (heads-includes ns))
]

heads-append : (xs ys : List Numbered) → heads (specs_of (xs ++ ys)) ≡ heads (specs_of xs) ++ heads (specs_of ys)
heads-append xs ys = rw (map-append (λ (n : Numbered). n.spec) xs ys, filter-append is_include (specs_of xs) (specs_of ys)) (map-append head (filter is_include (specs_of xs)) (filter is_include (specs_of ys)))

-- The search order leaves the heads, and with them the common prefix.
pub heads-in_search_order : (ns : List Numbered) → heads (specs_of (in_search_order ns)) ≡ heads (specs_of ns)
heads-in_search_order ns = heads-append (filter (λ n. is_exclude n.spec) ns) (filter (λ n. is_include n.spec) ns) ∙ rw (heads-excludes ns) (heads-includes ns)

pub common_prefix-in_search_order : (ns : List Numbered) → common_prefix (specs_of (in_search_order ns)) ≡ common_prefix (specs_of ns)
unfolding common_prefix
common_prefix-in_search_order ns = rw (heads-in_search_order ns) refl

includes-in_search_order : (ns : List Numbered) → list_any is_include (specs_of (in_search_order ns)) ≡ list_any is_include (specs_of ns)
includes-in_search_order ns = heads-some (specs_of (in_search_order ns)) ∙ (ap (λ hs. not (is_empty hs)) (heads-in_search_order ns) ∙ sym (heads-some (specs_of ns)))

-- ---- the answer

find_in_order : (p : Numbered → Bool) (ns : List Numbered) → find p (in_search_order ns) ≡ option_or (find (λ n. is_exclude n.spec && p n) ns) (find (λ n. is_include n.spec && p n) ns)
find_in_order p ns =
    find-append p (filter (λ n. is_exclude n.spec) ns) (filter (λ n. is_include n.spec) ns) ∙ rw (find-filter p (λ n. is_exclude n.spec) ns, find-filter p (λ n. is_include n.spec) ns) refl

-- a way in which the spec is found to answer
selects-answer_with : (n : Numbered) (kind : Option MatchKind) → is_some kind ≡ true → selects (answer_with n kind) ≡ is_include n.spec
selects-answer_with n None h = cc
selects-answer_with n (Some kind) h = refl

selects-answer_of : (search : List Numbered) (path : List ℕ) (is_dir : Bool) (n : Numbered) (o : Option Numbered) → o ≡ Some n → fits n.spec path is_dir ≡ true → selects (answer_of search path is_dir o) ≡ is_include n.spec
selects-answer_of search path is_dir n None e h = cc
selects-answer_of search path is_dir n (Some m) e h = let same : m ≡ n = cc in selects-answer_with m (fit m.spec path is_dir) (subst (λ x. fits x.spec path is_dir ≡ true) (sym same) h) ∙ ap (λ x. is_include x.spec) same

selects-none : (b : Bool) (a : Answer) → is_include a.pattern ≡ true → selects (cond b None (Some a)) ≡ not b
selects-none true a h = refl
selects-none false a h = h

selects-answer_of_none : (search : List Numbered) (path : List ℕ) (is_dir : Bool) (o : Option Numbered) → o ≡ None → selects (answer_of search path is_dir o) ≡ not (list_any is_include (specs_of search))
selects-answer_of_none search path is_dir None e = selects-none (list_any is_include (specs_of search)) _ refl
selects-answer_of_none search path is_dir (Some m) e = cc

module _ (table : Table) (ns : List Numbered) (path : List ℕ) (is_dir : Bool) where
  -- a numbered spec that matches the path
  abbrev matches_path : Numbered → Bool
  matches_path n = spec_matches table n.spec path is_dir

  -- an exclude that does
  abbrev excludes_path : Numbered → Bool
  excludes_path n = is_exclude n.spec && matches_path n

  -- an include that does
  abbrev includes_path : Numbered → Bool
  includes_path n = is_include n.spec && matches_path n

  -- the first in search order that does
  abbrev found : Option Numbered
  found = find matches_path (in_search_order ns)

  -- an exclude is found before an include
  found_is : found ≡ option_or (find excludes_path ns) (find includes_path ns)
  found_is = find_in_order matches_path ns

  is_chosen-numbered : is_chosen table (specs_of ns) path is_dir ≡ (not (list_any excludes_path ns) && (list_any includes_path ns || not (list_any is_include (specs_of ns))))
  unfolding is_chosen
  is_chosen-numbered = rw (list_any-map (λ s. is_exclude s && spec_matches table s path is_dir) (λ (n : Numbered). n.spec) ns, list_any-map (λ s. is_include s && spec_matches table s path is_dir) (λ (n : Numbered). n.spec) ns) refl

  answer_of_is_chosen : selects (answer_of (in_search_order ns) path is_dir found) ≡ is_chosen table (specs_of ns) path is_dir
  answer_of_is_chosen =
      let given : (n : Numbered) → found ≡ Some n → matches_path n ≡ true → selects (answer_of (in_search_order ns) path is_dir found) ≡ is_include n.spec =
      λ n e m. selects-answer_of (in_search_order ns) path is_dir n found e (fits-from_spec_matches table n.spec path is_dir m) in
      elim (find_cases excludes_path ns) [
        | inl o ↦
            let p = and_parts (is_exclude o.0.spec) (matches_path o.0) o.2 in
            given o.0 (found_is ∙ rw o.1 refl) p.1 ∙ (not_from_true (is_exclude o.0.spec) p.0 ∙ sym (is_chosen-numbered ∙ rw o.3 refl))
        | inr o ↦ elim (find_cases includes_path ns) [
          | inl i ↦
              let p = and_parts (is_include i.0.spec) (matches_path i.0) i.2 in
              given i.0 (found_is ∙ rw (o.0, i.1) refl) p.1 ∙ (p.0 ∙ sym (is_chosen-numbered ∙ rw (o.1, i.3) refl))
          | inr i ↦
              selects-answer_of_none (in_search_order ns) path is_dir found (found_is ∙ rw (o.0, i.0) refl)
              ∙ (ap not (includes-in_search_order ns) ∙ sym (is_chosen-numbered ∙ rw (o.1, i.1) refl))
        ]
      ]

  -- the common prefix
  abbrev common : List ℕ
  common = common_prefix (specs_of (in_search_order ns))

  -- the answer's test is the test of a chosen path
  answer_is_chosen : path ≢ [] → selects (answer table (in_search_order ns) path is_dir) ≡ is_chosen table (specs_of ns) path is_dir
  unfolding answer
  answer_is_chosen n =
      let some : is_empty path ≡ false = false_from_ne_true (is_empty path) (λ e. n (empty_is_nil path e)) in
      elim (cases_Bool (begins_with path common)) [
        | inl b ↦ rw (some, b) answer_of_is_chosen
        | inr b ↦ rw (some, b) (sym (false_from_ne_true (is_chosen table (specs_of ns) path is_dir) (λ c.
            let h = chosen_begins_common table (specs_of ns) path is_dir n ((chosen_is_test table (specs_of ns) path is_dir).0 c) in
            both_ways (begins_with path common) b (ap (begins_with path) (common_prefix-in_search_order ns) ∙ h))))
      ]

selected_is_chosen : (table : Table) (ns : List Numbered) (path : List ℕ) (is_dir : Bool) → path ≢ [] → IsTrue (selects (answer table (in_search_order ns) path is_dir)) ↔ IsChosen table (specs_of ns) path is_dir
selected_is_chosen table ns path is_dir n =
    let e = answer_is_chosen table ns path is_dir n in
    let t = chosen_is_test table (specs_of ns) path is_dir in
    (λ h. t.0 (sym e ∙ h), λ h. e ∙ t.1 h)

-- what stands in search order selects just the chosen paths
pub selects_chosen : (table : Table) (search : List Numbered) (path : List ℕ) (is_dir : Bool) → in_search_order search ≡ search → SelectsChosen table search path is_dir (answer table search path is_dir)
selects_chosen table search path is_dir ordered = subst (λ xs. SelectsChosen table search path is_dir (answer table xs path is_dir)) ordered (selected_is_chosen table search path is_dir)
