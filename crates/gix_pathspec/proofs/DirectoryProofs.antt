-- The answers about directories: where no is said nothing is chosen, leading only widens, and the common directory holds all that is chosen.
use Rattle.std.proofs.Common.{◌≡◌, ℕ, ◌+◌, ◌-◌, ◌<◌, ◌≤◌, Bool, true, false, not, ◌&&◌, ◌||◌, ◌==◌, inl, inr, refl, sym, ◌∙◌, ap, List, [], ◌∷◌, ◌++◌, length, take, drop, get_or, reverse, subst, Option, Some, None, ◌⊎◌, arith, append_assoc, length-append}
use Rattle.std.proofs.lemmas.Bool.{and_parts, and_from, or_cases, or_left, or_right, cases_Bool, both_ways, not-true, false_from_ne_true, eqb-true, eq-eqb, leb-true, leb-false, le-leb, cases_lt}
use Rattle.std.proofs.lemmas.List.{append-nil, take-append-drop, take_at, drop_at, drop_more, get_or-reverse, length-reverse}
use Rattle.std.proofs.lemmas.List.Elements.{Contains-append_left, Contains-append_right, Contains-push}
use Rattle.std.proofs.lemmas.List.Sums.{passes_at_first, fails_before_first, split_at_first}
use Rattle.std.proofs.lemmas.Slice.Eq.{bytes_eq-Decides}
use Rattle.std.specs.Prelude.{◌≢◌, Contains, bytes_eq, filter, find, nat_le}
use Rattle.std.specs.List.{list_any, list_all, before_last, after_first, position_or_len}
use Rattle.std.specs.Char.{to_ascii_lowercase}
use Rattle.gix_pathspec.specs.Attributes.{Table}
use Rattle.gix_pathspec.specs.Bytes.{slash, is_empty, first_is, fold_case, is_wildcard}
use Rattle.gix_pathspec.specs.Directories.{parent_or_self, front, agrees_in_front, settles, settling_answer, allows_directory, directory_matches, ends_at_boundary, parent, non_empty, directory_of, common_directory}
use Rattle.gix_pathspec.specs.DirectoryLaws.{OutsideFitsNone, OutsideIsSafe, LeadingIsWider, CommonDirectoryHoldsAll}
use Rattle.gix_pathspec.specs.Matching.{is_in_prefix_directory, fits}
use Rattle.gix_pathspec.specs.Paths.{is_below, IsAtOrBelow, is_slash}
use Rattle.gix_pathspec.specs.Prefixes.{stem, head, common_prefix, IsFrontOf}
use Rattle.gix_pathspec.specs.Pruning.{agree, is_total_exclude}
use Rattle.gix_pathspec.specs.SelectionLaws.{NoNilPrefix}
use Rattle.gix_pathspec.specs.Specs.{Spec, is_exclude, is_include, ignores_case, wants_directory, always_matches, has_wildcard, prefix_directory}
use Rattle.gix_pathspec.proofs.MatchingProofs.{lower-slash}
use Rattle.gix_pathspec.proofs.ChosenProofs.{list_any-contained, contained_where}
use Rattle.gix_pathspec.proofs.BeginsProofs.{front-itself, length-front, folded-take, folded-drop, front-through, front-folded, front-from_length, begins_with-from_front, front-from_begins_with, two_fronts, agree-from_fronts, folded-append, length-folded, folded-tail, tail_of, IsTail, tail_first, IsAtOrBelow-from_tail, IsBelow-from_is_below, which_of_four}
use Rattle.gix_pathspec.proofs.HeadProofs.{sensitive, stem_of_empty, fits-ways, fits-stem, stem_is_path, stem-at_false, stem_begins_path, not_nil, head_folded, head_sensitive}
use Rattle.gix_pathspec.proofs.SelectedProofs.{empty_is_nil, Contains-cases, common_prefix-none, common_begins_head, fits-from_spec_matches, no_include_from_excludes, fitted_begins_common, chosen_has_common}
use Rattle.gix_pathspec.proofs.NotChosenProofs.{nothing_chosen, unfitted_not_chosen}
use Rattle.gix_pathspec.proofs.PruningSafeProofs.{agree-none}

-- ---- the first and the last element that passes

position-lt-length : {X : Type 0} (p : X → Bool) (xs : List X) → list_any p xs ≡ true → position_or_len p xs < length xs
position-lt-length p [] h = cc
position-lt-length p (x ∷ xs) h = elim (cases_Bool (p x)) [
  | inl e ↦ rw e (omega arith)
  | inr e ↦ let r = rw e at h in let ih = position-lt-length p xs r in rw e (omega arith)
]

-- a list with an element that passes has one from the end too
last_within : {X : Type 0} (p : X → Bool) (xs : List X) (k : ℕ) (x : X) → k < length xs → get_or xs k x ≡ x → p x ≡ true → position_or_len p (reverse xs) < length xs
last_within p xs k x l e h = elim (cases_lt (position_or_len p (reverse xs)) (length xs)) [
  | inl less ↦ less
  | inr more ↦
      let j = length xs - 1 - k in
      let early : j < position_or_len p (reverse xs) = omega arith in
      let fails = fails_before_first p (reverse xs) j x early in
      let near : j < length xs = omega arith in
      let back : length xs - 1 - j ≡ k = omega arith in
      let same : get_or (reverse xs) j x ≡ x = get_or-reverse xs j x near ∙ (ap (λ i. get_or xs i x) back ∙ e) in
      absurd (both_ways (p x) (subst (λ y. p y ≡ false) same fails) h)
]

-- a list is what stands before the last element that passes, that element, and what stands after it
split_at_last : {X : Type 0} (p : X → Bool) (xs : List X) → list_any p xs ≡ true → (y : X) × (rest : List X) × (p y ≡ true) × (xs ≡ before_last p xs ++ y ∷ rest)
split_at_last p xs h =
    let f = contained_where p xs h in
    let x = f.0 in
    let m = position_or_len p (reverse xs) in
    let l : m < length xs = last_within p xs f.1.0 x f.1.1 f.1.2 f.2 in
    let n = length xs - m - 1 in
    let nl : n < length xs = omega arith in
    let lr : m < length (reverse xs) = omega (arith, length-reverse xs) in
    let passes = passes_at_first p (reverse xs) x lr in
    let back : length xs - 1 - m ≡ n = omega arith in
    let same : get_or (reverse xs) m x ≡ get_or xs n x = get_or-reverse xs m x l ∙ ap (λ i. get_or xs i x) back in
    (get_or xs n x, drop (n + 1) xs, subst (λ y. p y ≡ true) same passes, sym (take-append-drop n xs) ∙ ap (λ t. take n xs ++ t) (drop_more xs n x nl))

-- what is found is in the list and passes
find_contains : {X : Type 0} (p : X → Bool) (xs : List X) (x : X) → find p xs ≡ Some x → Contains xs x × (p x ≡ true)
find_contains p [] x h = cc
find_contains p (y ∷ xs) x h = elim (cases_Bool (p y)) [
  | inl e ↦
      let found : Some y ≡ Some x = rw e at h in
      let same : y ≡ x = cc in
      (subst (λ z. Contains (y ∷ xs) z) same (Contains-append_left (y ∷ []) xs y (Contains-push [] y)), ap p (sym same) ∙ e)
  | inr e ↦ let found : find p xs ≡ Some x = rw e at h in let r = find_contains p xs x found in (Contains-append_right (y ∷ []) xs x r.0, r.1)
]

-- ---- positions

-- the first bytes are a front
front-take : (n : ℕ) (x : List ℕ) → IsFrontOf (take n x) x
front-take n x = (drop n x, sym (take-append-drop n x))

-- a text that begins with a slash where it is folded begins with one
first-folded : (f : Bool) (x more : List ℕ) → fold_case f x ≡ slash ∷ more → first_is is_slash x ≡ true
first-folded true [] more h = cc
first-folded true (c ∷ x) more h = let first : to_ascii_lowercase c ≡ slash = cc in eq-eqb c slash (lower-slash c first)
first-folded false [] more h = cc
first-folded false (c ∷ x) more h = let first : c ≡ slash = cc in eq-eqb c slash first

-- where a path goes on with a slash after d, up to case, its first bytes are d and a slash follows them
cut_there : (f : Bool) (x d more : List ℕ) → fold_case f x ≡ fold_case f d ++ slash ∷ more → (fold_case f (take (length d) x) ≡ fold_case f d) × (first_is is_slash (drop (length d) x) ≡ true)
cut_there f x d more h = (
  folded-take f (length d) x ∙ (ap (take (length d)) h ∙ take_at (fold_case f d) (slash ∷ more) (length d) (length-folded f d)),
  first-folded f (drop (length d) x) more (folded-drop f (length d) x ∙ (ap (drop (length d)) h ∙ drop_at (fold_case f d) (slash ∷ more) (length d) (length-folded f d))),
)

-- what is longer by a front of a tail goes on with a slash
rest_goes_on : (x y a b e : List ℕ) → x ≡ y ++ e → b ≡ e ++ a → IsTail b → length y < length x → (more : List ℕ) × (x ≡ y ++ slash ∷ more)
rest_goes_on x y a b [] p q t l = absurd (omega (arith, ap length p, length-append y []))
rest_goes_on x y a b (c ∷ e) p q t l = (e, p ∙ ap (λ z. y ++ z ∷ e) (tail_first c (e ++ a) (subst IsTail q t)))

-- the longer of two fronts goes on with a slash where the shorter is followed by a tail
goes_on : (x y a b : List ℕ) → x ++ a ≡ y ++ b → IsTail b → length y < length x → (more : List ℕ) × (x ≡ y ++ slash ∷ more)
goes_on x y a b h t l = elim (two_fronts x y a b h) [
  | inl p ↦ rest_goes_on x y a b p.0 p.1 p.2 t l
  | inr p ↦ absurd (omega (arith, ap length p.1, length-append x p.0))
]

-- ---- the front that counts

-- what stands before the last slash, or all, is a front
front_of_parent_or_self : (text : List ℕ) → IsFrontOf (parent_or_self text) text
front_of_parent_or_self text = elim (cases_Bool (list_any is_slash text)) [
  | inl e ↦ rw e (front-take _ text)
  | inr e ↦ rw e (front-itself text)
]

-- without a wildcard the front of a spec is its path
front_plain : (s : Spec) → has_wildcard s ≡ false → front s ≡ s.path
front_plain s w = rw w refl

-- it begins the stem
front_in_stem : (s : Spec) → s.nil ≡ false → IsFrontOf (front s) (stem s)
front_in_stem s n = elim (cases_Bool (has_wildcard s)) [
  | inl w ↦ rw w (front_of_parent_or_self (stem s))
  | inr w ↦ subst (λ x. IsFrontOf x (stem s)) (stem_is_path s n w ∙ sym (front_plain s w)) (front-itself (stem s))
]

-- with leading, d begins with the front of a spec that fits a path at or below it
fits_agrees : (s : Spec) (d path : List ℕ) (is_dir : Bool) → always_matches s ≡ false → fits s path is_dir ≡ true → IsAtOrBelow path d → agrees_in_front s d true ≡ true
fits_agrees s d path is_dir a h below =
    let f = ignores_case s in
    let n = not_nil s a in
    let r = fits-stem s path is_dir a h in
    let t = tail_of path d below in
    let d_path : fold_case f path ≡ fold_case f d ++ fold_case f t.0 = ap (fold_case f) t.1 ∙ folded-append f d t.0 in
    let in_stem = front_in_stem s n in
    elim (cases_Bool (nat_le (length (front s)) (length d))) [
      | inl le ↦
          let short = leb-true (length (front s)) (length d) le in
          let shorter : length (fold_case f (front s)) ≤ length (fold_case f d) = omega (arith, short, length-folded f (front s), length-folded f d) in
          rw le (begins_with-from_front (fold_case f (front s)) (fold_case f d)
          (front-from_length (fold_case f (front s)) (fold_case f d) (fold_case f path) (front-through (fold_case f (front s)) (fold_case f (stem s)) (fold_case f path) (front-folded f (front s) (stem s) in_stem) (r.rest, r.path_is)) (fold_case f t.0, d_path) shorter))
      | inr gt ↦
          let long = leb-false (length (front s)) (length d) gt in
          let longer : length (fold_case f d) < length (fold_case f (stem s)) = omega (arith, long, length-front (front s) (stem s) in_stem, length-folded f (stem s), length-folded f d) in
          let on = goes_on (fold_case f (stem s)) (fold_case f d) r.rest (fold_case f t.0) (sym r.path_is ∙ d_path) (folded-tail f t.0 t.2) longer in
          let q = stem_begins_path s in
          let whole : fold_case f s.path ≡ fold_case f d ++ slash ∷ (on.0 ++ fold_case f q.0) =
          ap (fold_case f) q.1 ∙ (folded-append f (stem s) q.0 ∙ (ap (λ x. x ++ fold_case f q.0) on.1 ∙ append_assoc (fold_case f d) (slash ∷ on.0) (fold_case f q.0))) in
          let c = cut_there f s.path d (on.0 ++ fold_case f q.0) whole in
          let within = take (length d) s.path in
          elim (cases_Bool (list_any is_slash within)) [
            | inl sl ↦ rw (gt, sl) (begins_with-from_front (fold_case f (before_last is_slash within)) (fold_case f d) (subst (λ x. IsFrontOf (fold_case f (before_last is_slash within)) x) c.0 (front-folded f (before_last is_slash within) within (front-take _ within))))
            | inr sl ↦ rw (gt, sl, c.1) (begins_with-from_front (fold_case f within) (fold_case f d) (subst (λ x. IsFrontOf (fold_case f within) x) c.0 (front-itself (fold_case f within))))
          ]
    ]

-- ---- no means that nothing is chosen

-- where the test says no, the common prefix disagrees, an exclude settles it, or no include takes d
outside : (none nothing meets : Bool) (o : Option Spec) (some agrees : Bool) → (none || nothing || meets && settling_answer o (not some || agrees)) ≡ false
    → (meets ≡ false) ⊎ (((e : Spec) × (o ≡ Some e) × (has_wildcard e ≡ false)) ⊎ ((some ≡ true) × (agrees ≡ false)))
outside true nothing meets o some agrees h = cc
outside false true meets o some agrees h = cc
outside false false false o some agrees h = inl refl
outside false false true (Some e) some agrees h = inr (inl (e, refl, h))
outside false false true None true agrees h = inr (inr (refl, h))
outside false false true None false agrees h = cc

-- what the first exclude that settles the answer, and has no wildcard, says of all
settled_total : (specs : List Spec) (e : Spec) → find settles specs ≡ Some e → has_wildcard e ≡ false → list_any is_total_exclude specs ≡ true
settled_total specs e h w =
    let f = find_contains settles specs e h in
    let p = and_parts (is_exclude e) (has_wildcard e || is_total_exclude e) f.1 in
    let total : is_total_exclude e ≡ true = rw w at p.1 in
    list_any-contained is_total_exclude specs e f.0 total

-- Outside of the prefix no include fits.
pub outside_fits_none : (specs : List Spec) → OutsideFitsNone specs
unfolding directory_matches
outside_fits_none specs d h =
    let takes : Spec → Bool = allows_directory d true in
    let some = list_any is_include specs in
    elim (outside (is_empty specs) (is_empty d) (agree d (common_prefix specs)) (find settles specs) some (list_any takes specs) h) [
      | inl m ↦ elim (cases_Bool some) [
        | inl i ↦ inr (λ path is_dir below.
            let t = tail_of path d below in
            (i, λ s c j. false_from_ne_true (fits s path is_dir) (λ g. both_ways (agree d (common_prefix specs)) m (agree-from_fronts d (common_prefix specs) path (t.0, t.1) (fitted_begins_common specs s path is_dir c j g)))))
        | inr i ↦ absurd (both_ways (agree d (common_prefix specs)) m (agree-none specs d i))
      ]
      | inr w ↦ elim w [
        | inl e ↦ inl (settled_total specs e.0 e.1 e.2)
        | inr e ↦ inr (λ path is_dir below. (
          e.0,
          λ s c j. false_from_ne_true (fits s path is_dir) (λ g. both_ways (list_any takes specs) e.1 (list_any-contained takes specs s c (and_from (is_include s) _ j (elim (cases_Bool (always_matches s)) [
            | inl a ↦ or_left (always_matches s) _ a
            | inr a ↦ or_right (always_matches s) _ (fits_agrees s d path is_dir a g below)
          ])))),
        ))
      ]
    ]

-- So nothing there is chosen.
pub outside_is_safe : (table : Table) (specs : List Spec) → NoNilPrefix specs → OutsideIsSafe table specs
outside_is_safe table specs none d h path is_dir below c = elim (outside_fits_none specs d h) [
  | inl t ↦ nothing_chosen table specs path is_dir none t c
  | inr u ↦ unfitted_not_chosen table specs path is_dir (u path is_dir below) c
]

-- ---- leading

-- where more includes take d, the test still says yes
widen : (none nothing meets : Bool) (o : Option Spec) (some a b : Bool) → (a ≡ true → b ≡ true) → (none || nothing || meets && settling_answer o (not some || a)) ≡ true → (none || nothing || meets && settling_answer o (not some || b)) ≡ true
widen true nothing meets o some a b f h = refl
widen false true meets o some a b f h = refl
widen false false false o some a b f h = cc
widen false false true (Some e) some a b f h = h
widen false false true None false a b f h = refl
widen false false true None true a b f h = f h

-- a front that d begins with is not cut
leading_agrees : (s : Spec) (d : List ℕ) → agrees_in_front s d false ≡ true → agrees_in_front s d true ≡ true
leading_agrees s d h =
    let f = ignores_case s in
    let l = length-front (fold_case f (front s)) (fold_case f d) (front-from_begins_with (fold_case f (front s)) (fold_case f d) h) in
    let le : nat_le (length (front s)) (length d) ≡ true = le-leb (length (front s)) (length d) (omega (arith, l, length-folded f (front s), length-folded f d)) in
    rw le h

-- so an include that takes d takes it with leading
leading_takes : (s : Spec) (d : List ℕ) → allows_directory d false s ≡ true → allows_directory d true s ≡ true
leading_takes s d h =
    let p = and_parts (is_include s) (always_matches s || agrees_in_front s d false) h in
    and_from (is_include s) (always_matches s || agrees_in_front s d true) p.0 (elim (or_cases (always_matches s) (agrees_in_front s d false) p.1) [
      | inl a ↦ or_left (always_matches s) (agrees_in_front s d true) a
      | inr a ↦ or_right (always_matches s) (agrees_in_front s d true) (leading_agrees s d a)
    ])

-- Leading is wider.
pub leading_is_wider : (specs : List Spec) → LeadingIsWider specs
unfolding directory_matches
leading_is_wider specs d h =
    let narrow : Spec → Bool = allows_directory d false in
    let wide : Spec → Bool = allows_directory d true in
    widen (is_empty specs) (is_empty d) (agree d (common_prefix specs)) (find settles specs) (list_any is_include specs) (list_any narrow specs) (list_any wide specs)
    (λ n. let f = contained_where narrow specs n in list_any-contained wide specs f.0 f.1 (leading_takes f.0 d f.2)) h

-- ---- the common directory

-- an include whose path ends at the common prefix or goes on with a slash
ends_slash : (common : List ℕ) (s : Spec) (b : ℕ) (more : List ℕ) → s.path ≡ common ++ b ∷ more → ends_at_boundary common s ≡ true → b ≡ slash
ends_slash common s b more e h = elim (or_cases (length s.path == length common) (first_is is_slash (drop (length common) s.path)) h) [
  | inl l ↦
      let same = eqb-true (length s.path) (length common) l in
      absurd (omega (arith, same, ap length e, length-append common (b ∷ more)))
  | inr f ↦
      let rest : drop (length common) s.path ≡ b ∷ more = ap (drop (length common)) e ∙ drop_at common (b ∷ more) (length common) refl in
      let first : (b == slash) ≡ true = rw rest at f in
      eqb-true b slash first
]

-- what begins a text that a spec's path goes on from is a directory above a path that has that text and a tail
holds_below : (common : List ℕ) (s : Spec) (x e q path t : List ℕ) → x ≡ common ++ e → s.path ≡ x ++ q → path ≡ x ++ t → (e ≡ [] → IsTail t) → ends_at_boundary common s ≡ true → IsAtOrBelow path common
holds_below common s x [] q path t p i j tail h = IsAtOrBelow-from_tail path common t (j ∙ ap (λ y. y ++ t) (p ∙ append-nil common)) (tail refl)
holds_below common s x (b ∷ e) q path t p i j tail h =
    let whole : s.path ≡ common ++ b ∷ (e ++ q) = i ∙ (ap (λ y. y ++ q) p ∙ append_assoc common (b ∷ e) q) in
    let is : b ≡ slash = ends_slash common s b (e ++ q) whole h in
    IsAtOrBelow-from_tail path common (b ∷ (e ++ t)) (j ∙ (ap (λ y. y ++ t) p ∙ append_assoc common (b ∷ e) t)) (inr (e ++ t, ap (λ c. c ∷ (e ++ t)) is))

-- what begins the empty text is empty
nil_from_front : (x y : List ℕ) → IsFrontOf x y → y ≡ [] → x ≡ []
nil_from_front [] y p e = refl
nil_from_front (b ∷ x) y p e = let no : b ∷ (x ++ p.0) ≡ [] = sym p.1 ∙ e in cc

-- a prefix directory that counts has the path at or below it
in_prefix_directory-below : (s : Spec) (path : List ℕ) (is_dir : Bool) → ignores_case s ≡ true → prefix_directory s ≢ [] → is_in_prefix_directory s path is_dir ≡ true → IsAtOrBelow path (prefix_directory s)
in_prefix_directory-below s path is_dir i n h =
    let d = prefix_directory s in
    elim (which_of_four (not (ignores_case s)) (is_empty d) (is_below path d) (bytes_eq path d && is_dir) h) [
      | inl c ↦ absurd (both_ways (ignores_case s) (not-true (ignores_case s) c) i)
      | inr w ↦ elim w [
        | inl e ↦ absurd (n (empty_is_nil d e))
        | inr w ↦ elim w [
          | inl b ↦ inr (IsBelow-from_is_below path d b)
          | inr v ↦ let p = and_parts (bytes_eq path d) is_dir v in inl ((bytes_eq-Decides path d).0 p.0)
        ]
      ]
    ]

-- after the stem of a path with a wildcard stands that wildcard
wildcard_follows : (s : Spec) → s.nil ≡ false → has_wildcard s ≡ true → (b : ℕ) × (more : List ℕ) × (is_wildcard b ≡ true) × (s.path ≡ stem s ++ b ∷ more)
wildcard_follows s n w =
    let some : list_any is_wildcard s.path ≡ true = rw n at w in
    let l = position-lt-length is_wildcard s.path some in
    (get_or s.path (position_or_len is_wildcard s.path) 0, after_first is_wildcard s.path, passes_at_first is_wildcard s.path 0 l, split_at_first is_wildcard s.path 0 l ∙ ap (λ x. x ++ get_or s.path (position_or_len is_wildcard s.path) 0 ∷ after_first is_wildcard s.path) (sym (stem-at_false s n)))

-- a slash is no wildcard
slash_is_plain : (b : ℕ) → b ≡ slash → is_wildcard b ≡ true → ⊥
slash_is_plain b e w = let no : is_wildcard slash ≡ true = subst (λ x. is_wildcard x ≡ true) e w in cc

-- the stem with a rest, where the common prefix is all of the stem: the rest is a tail
tail_at_stem : (common : List ℕ) (s : Spec) (rest : List ℕ) → s.nil ≡ false → stem s ≡ common → (has_wildcard s ≡ false → IsTail rest) → ends_at_boundary common s ≡ true → IsTail rest
tail_at_stem common s rest n e tail h = elim (cases_Bool (has_wildcard s)) [
  | inl w ↦
      let r = wildcard_follows s n w in
      let whole : s.path ≡ common ++ r.0 ∷ r.1 = r.3 ∙ ap (λ x. x ++ r.0 ∷ r.1) e in
      absurd (slash_is_plain r.0 (ends_slash common s r.0 r.1 whole h) r.2)
  | inr w ↦ tail w
]

-- a path that an include fits lies at or below the common prefix, where the include's path ends there or goes on with a slash
ends_at_boundary-holds : (common : List ℕ) (s : Spec) (path : List ℕ) (is_dir : Bool) → common ≢ [] → IsFrontOf common (head s) → ends_at_boundary common s ≡ true → fits s path is_dir ≡ true → IsAtOrBelow path common
ends_at_boundary-holds common s path is_dir some p h g = elim (cases_Bool s.nil) [
  | inl n ↦ let q : IsFrontOf common [] = rw n at p in absurd (some (nil_from_front common [] q refl))
  | inr n ↦ elim (cases_Bool (ignores_case s)) [
    | inl i ↦
        let q : IsFrontOf common (prefix_directory s) = subst (λ x. IsFrontOf common x) (head_folded s n i) p in
        let t = tail_of path (prefix_directory s) (in_prefix_directory-below s path is_dir i (λ e. some (nil_from_front common (prefix_directory s) q e)) (fits-ways s path is_dir g).0) in
        let r = front-take s.prefix_length s.path in
        holds_below common s (prefix_directory s) q.0 r.0 path t.0 q.1 r.1 t.1 (λ e. t.2) h
    | inr i ↦
        let q : IsFrontOf common (stem s) = subst (λ x. IsFrontOf common x) (head_sensitive s n i) p in
        elim (cases_Bool (always_matches s)) [
          | inl a ↦ absurd (some (nil_from_front common [] (front-through common (stem s) [] q (stem_of_empty s [] n a)) refl))
          | inr a ↦
              let r = fits-stem s path is_dir a g in
              let u = stem_begins_path s in
              holds_below common s (stem s) q.0 u.0 path r.rest q.1 u.1 (sensitive (ignores_case s) i path (stem s) r.rest r.path_is)
              (λ e. tail_at_stem common s r.rest n (q.1 ∙ (ap (λ x. common ++ x) e ∙ append-nil common)) r.tail h) h
        ]
  ]
]

-- a test that all includes pass
all_includes : (p : Spec → Bool) (specs : List Spec) (s : Spec) → list_all p (filter is_include specs) ≡ true → Contains specs s → is_include s ≡ true → p s ≡ true
all_includes p [] s h c i = let no : ⊥ = omega (arith, c.1) in absurd no
all_includes p (x ∷ specs) s h c i = elim (Contains-cases x specs s c) [
  | inl e ↦
      let j : is_include x ≡ true = ap is_include e ∙ i in
      let a : (p x && list_all p (filter is_include specs)) ≡ true = rw j at h in
      ap p (sym e) ∙ (and_parts (p x) (list_all p (filter is_include specs)) a).0
  | inr c ↦ elim (cases_Bool (is_include x)) [
    | inl j ↦ let a : (p x && list_all p (filter is_include specs)) ≡ true = rw j at h in all_includes p specs s (and_parts (p x) (list_all p (filter is_include specs)) a).1 c i
    | inr j ↦ let a : list_all p (filter is_include specs) ≡ true = rw j at h in all_includes p specs s a c i
  ]
]

-- what goes on from a text lies below its parent
parent_holds : (common path : List ℕ) → parent common ≢ [] → IsFrontOf common path → IsAtOrBelow path (parent common)
parent_holds common path n p = elim (cases_Bool (list_any is_slash common)) [
  | inl e ↦
      let r = split_at_last is_slash common e in
      let first : r.0 ≡ slash = eqb-true r.0 slash r.2 in
      let whole : path ≡ before_last is_slash common ++ slash ∷ (r.1 ++ p.0) = p.1 ∙ (ap (λ x. x ++ p.0) r.3 ∙ (append_assoc (before_last is_slash common) (r.0 ∷ r.1) p.0 ∙ ap (λ c. before_last is_slash common ++ c ∷ (r.1 ++ p.0)) first)) in
      rw e (inr (r.1 ++ p.0, whole))
  | inr e ↦ absurd (n (rw e refl))
]

-- a text that is kept is not empty
non_empty_is : (x d : List ℕ) → non_empty x ≡ Some d → (x ≡ d) × (d ≢ [])
non_empty_is [] d h = cc
non_empty_is (b ∷ x) d h = let same : b ∷ x ≡ d = cc in (same, λ e. let no : b ∷ x ≡ [] = same ∙ e in cc)

-- the common directory is the parent of the common prefix, or that prefix where all includes end there or go on with a slash
directory_of_is : (includes : List Spec) (first : Option Spec) (common d : List ℕ) → directory_of includes first common ≡ Some d → (d ≢ []) × ((d ≡ parent common) ⊎ ((d ≡ common) × (list_all (ends_at_boundary common) includes ≡ true)))
directory_of_is includes None common d h = cc
directory_of_is includes (Some s) common d h = elim (cases_Bool (wants_directory s && list_all (ends_at_boundary common) includes)) [
  | inl w ↦
      let found : non_empty common ≡ Some d = rw w at h in
      let r = non_empty_is common d found in
      (r.1, inr (sym r.0, (and_parts (wants_directory s) (list_all (ends_at_boundary common) includes) w).1))
  | inr w ↦
      let found : non_empty (parent common) ≡ Some d = rw w at h in
      let r = non_empty_is (parent common) d found in
      (r.1, inl (sym r.0))
]

-- The common directory holds all that is chosen.
pub common_directory_holds_all : (table : Table) (specs : List Spec) → CommonDirectoryHoldsAll table specs
unfolding common_directory
common_directory_holds_all table specs d h =
    let common = common_prefix specs in
    let r = directory_of_is (filter is_include specs) (find is_include specs) common d h in (
      r.0,
      λ path is_dir n c. elim r.1 [
        | inl e ↦
            let some : parent common ≢ [] = λ z. r.0 (e ∙ z) in
            subst (λ x. IsAtOrBelow path x) (sym e) (parent_holds common path some (chosen_has_common table specs path is_dir c))
        | inr e ↦
            let some : common ≢ [] = λ z. r.0 (e.0 ∙ z) in
            subst (λ x. IsAtOrBelow path x) (sym e.0) (elim c.included [
              | inl m ↦ ends_at_boundary-holds common m.0 path is_dir some (common_begins_head specs m.0 m.1 m.2) (all_includes (ends_at_boundary common) specs m.0 e.1 m.1 m.2) (fits-from_spec_matches table m.0 path is_dir m.3)
              | inr x ↦ absurd (some (common_prefix-none specs (no_include_from_excludes specs x)))
            ])
      ],
    )
