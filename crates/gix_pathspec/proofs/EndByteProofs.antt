-- What the paths that a spec matches begin and end with.
use Rattle.std.proofs.Common.{◌≡◌, ℕ, zero, suc, ◌<◌, Bool, true, false, not, ◌&&◌, ◌||◌, inl, inr, refl, sym, ◌∙◌, ap, arith, List, [], ◌∷◌, ◌++◌, map, cond, length, length-append, get_or, take, Option, Some, None, slice_get, IfSome}
use Rattle.std.proofs.lemmas.Bool.{and_parts, cases_Bool, both_ways, cases_lt}
use Rattle.std.proofs.lemmas.Bool.Decides.{nat_tests}
use Rattle.std.proofs.lemmas.List.{append-nil, get_or_append_left}
use Rattle.std.proofs.Math.Bool.{or-true}
use Rattle.std.proofs.Math.Numerals.{one-add}
use Rattle.std.proofs.Math.Seq.{get_or-append_seam}
use Rattle.std.specs.Char.{to_ascii_lowercase}
use Rattle.std.specs.List.{list_any, before_first}
use Rattle.pathspec_glob.specs.declared.Mode.TheVariants.{Shell, PathAware}
use Rattle.pathspec_glob.specs.declared.Case.TheVariants.{Sensitive, Fold}
use Rattle.pathspec_glob.specs.GlobRelation.{is_same_byte}
use Rattle.pathspec_glob.specs.LastBytes.{last_byte, own_end}
use Rattle.pathspec_glob.proofs.LastProofs.{own-ends}
use Rattle.pathspec_pattern.specs.declared.SearchMode.{SearchMode}
use Rattle.pathspec_pattern.specs.declared.SearchMode.TheVariants.{ShellGlob, Literal, PathAwareGlob}
use Rattle.gix_pathspec.specs.Bytes.{begins_with, is_empty, is_wildcard, slash, fold_case}
use Rattle.gix_pathspec.specs.Specs.{Spec, ignores_case, has_wildcard, always_matches}
use Rattle.gix_pathspec.specs.Matching.{case_of, glob_matches, has_attributes, is_verbatim_match, is_prefix_match, takes_kind, spec_matches, fits}
use Rattle.gix_pathspec.specs.Prefixes.{stem}
use Rattle.gix_pathspec.specs.EndBytes.{first_byte, has_wildcard_at, BeginsPaths, EndsPaths, NeverMatches}
use Rattle.gix_pathspec.proofs.HeadProofs.{stem-at_false, verbatim_is, fits-ways, first_two, fitted_begins_stem}
use Rattle.gix_pathspec.proofs.BeginsProofs.{IsBelow-from_is_below, length-folded}

-- ---- a path that is a spec's text, or lies below it

-- what stands from the first element on that passes
first-wild : {X : Type 0} (p : X → Bool) (xs : List X) → list_any p xs ≡ true → (w : X) × (rest : List X) × (xs ≡ before_first p xs ++ w ∷ rest) × (p w ≡ true)
first-wild p [] h = cc
first-wild p (x ∷ xs) h = elim (cases_Bool (p x)) [
  | inl e ↦ rw e (x, xs, refl, e)
  | inr e ↦
      let more : list_any p xs ≡ true = rw e at h in
      let r = first-wild p xs more in
      rw (e, one-add) (r.0, r.1, ap (λ ys. x ∷ ys) r.2, r.3)
]

-- where the text is followed by anything, the wildcard stands behind the head
wild-behind : (front rest : List ℕ) (w : ℕ) → is_wildcard w ≡ true → has_wildcard_at (front ++ w ∷ rest) (length front) ≡ true
wild-behind front rest w h = rw (get_or-append_seam front w rest 0) h

-- a byte in lower case is a wildcard where it is one
wild-lower : (b : ℕ) → is_wildcard (to_ascii_lowercase b) ≡ is_wildcard b
wild-lower b = elim (cases_lt b 65) [
  | inl low ↦ grind (arith, nat_tests, low)
  | inr high ↦ elim (cases_lt b 91) [
    | inl low ↦ grind (arith, nat_tests, high, low)
    | inr high' ↦ grind (arith, nat_tests, high, high')
  ]
]

lower-at : (text : List ℕ) (n : ℕ) → get_or (map to_ascii_lowercase text) n 0 ≡ to_ascii_lowercase (get_or text n 0)
lower-at [] n = refl
lower-at (b ∷ text) zero = refl
lower-at (b ∷ text) (suc n) = lower-at text n

wild-folded : (f : Bool) (text : List ℕ) (n : ℕ) → has_wildcard_at (fold_case f text) n ≡ has_wildcard_at text n
wild-folded false text n = refl
wild-folded true text n = ap is_wildcard (lower-at text n) ∙ wild-lower (get_or text n 0)

module _ (s : Spec) (wild : has_wildcard s ≡ true) where
  abbrev folds : Bool
  folds = ignores_case s

  pub parts : (s.nil ≡ false) × (list_any is_wildcard s.path ≡ true)
  parts = at s.nil (list_any is_wildcard s.path) wild
    where
      at : (n a : Bool) → (not n && a) ≡ true → (n ≡ false) × (a ≡ true)
      at false true h = (refl, refl)
      at false false h = cc
      at true a h = cc

  abbrev split : (w : ℕ) × (rest : List ℕ) × (s.path ≡ before_first is_wildcard s.path ++ w ∷ rest) × (is_wildcard w ≡ true)
  split = first-wild is_wildcard s.path parts.1

  front-length : length (stem s) ≡ length (before_first is_wildcard s.path)
  front-length = ap (λ (t : List ℕ). length t) (stem-at_false s parts.0)

  own-wild : has_wildcard_at s.path (length (stem s)) ≡ true
  own-wild =
      let front = before_first is_wildcard s.path in
      ap (λ n. has_wildcard_at s.path n) front-length ∙ (ap (λ t. has_wildcard_at t (length front)) split.2 ∙ wild-behind front split.1 split.0 split.3)

  inside-path : length (stem s) < length s.path
  inside-path =
      let front = before_first is_wildcard s.path in
      omega (arith, front-length, ap (λ (t : List ℕ). length t) split.2, length-append front (split.0 ∷ split.1))

  path-wild : (path rest : List ℕ) → fold_case folds path ≡ fold_case folds s.path ++ rest → has_wildcard_at path (length (stem s)) ≡ true
  path-wild path rest is =
      let n = length (stem s) in
      let own = fold_case folds s.path in
      let low : n < length own = omega (arith, inside-path, length-folded folds s.path) in
      sym (wild-folded folds path n) ∙ (ap (λ t. has_wildcard_at t n) is ∙ (ap is_wildcard (get_or_append_left own rest 0 n low) ∙ (wild-folded folds s.path n ∙ own-wild)))

  pub verbatim-wild : (path : List ℕ) (is_dir : Bool) → is_verbatim_match s path is_dir ≡ true → has_wildcard_at path (length (stem s)) ≡ true
  verbatim-wild path is_dir h = path-wild path [] (verbatim_is s path is_dir h ∙ sym (append-nil (fold_case folds s.path)))

  pub prefix-wild : (path : List ℕ) → is_prefix_match s path ≡ true → has_wildcard_at path (length (stem s)) ≡ true
  prefix-wild path h =
      let p = IsBelow-from_is_below (fold_case folds path) (fold_case folds s.path) h in
      path-wild path (slash ∷ p.0) p.1

  not_always : always_matches s ≡ false
  not_always = at s.path parts.1 (parts.0)
    where
      at : (path : List ℕ) → list_any is_wildcard path ≡ true → s.nil ≡ false → (s.nil || is_empty path) ≡ false
      at [] w n = cc
      at (b ∷ bs) w n = rw n refl

-- the glob of a spec matches a path only with its last byte
glob-ends : (m : SearchMode) (s : Spec) (byte : ℕ) → own_end s.path ≡ Some byte → (path : List ℕ) → glob_matches m s path ≡ true → is_same_byte (case_of s) byte (last_byte path) ≡ true
glob-ends ShellGlob s byte own path h = (and_parts (not (is_empty path)) (is_same_byte (case_of s) byte (last_byte path)) (own-ends s.path byte own Shell (case_of s) path h)).1
glob-ends Literal s byte own path h = cc
glob-ends PathAwareGlob s byte own path h = (and_parts (not (is_empty path)) (is_same_byte (case_of s) byte (last_byte path)) (own-ends s.path byte own PathAware (case_of s) path h)).1

either-left : (a b : Bool) → a ≡ true → (a || b) ≡ true
either-left a b h = rw h refl

either-right : (a b : Bool) → b ≡ true → (a || b) ≡ true
either-right a b h = rw h (or-true a)

-- Each path that a spec with a wildcard matches ends with its last byte, unless a wildcard stands behind the stem.
pub ends-paths : (s : Spec) (byte : ℕ) → has_wildcard s ≡ true → own_end s.path ≡ Some byte → EndsPaths s byte
unfolding spec_matches
ends-paths s byte wild own table path is_dir h =
    let fitted = (and_parts (fits s path is_dir) (has_attributes table s path is_dir) h).0 in
    let same = is_same_byte (case_of s) byte (last_byte path) in
    let behind = has_wildcard_at path (length (stem s)) in
    elim (fits-ways s path is_dir fitted).1 [
      | inl always ↦ absurd (both_ways (always_matches s) (not_always s wild) always)
      | inr w ↦ elim w [
        | inl g ↦ either-left same behind (glob-ends s.mode s byte own path (first_two (has_wildcard s) (glob_matches s.mode s path) (takes_kind s is_dir) g).1)
        | inr w ↦ elim w [
          | inl v ↦ either-right same behind (verbatim-wild s wild path is_dir v)
          | inr b ↦ either-right same behind (prefix-wild s wild path b)
        ]
      ]
    ]

-- Where neither a wildcard stands in the path behind the stem, nor the glob matches, a spec with a wildcard doesn't match.
pub never-behind : (s : Spec) (path : List ℕ) → has_wildcard s ≡ true → has_wildcard_at path (length (stem s)) ≡ false → glob_matches s.mode s path ≡ false → NeverMatches s path
unfolding spec_matches
never-behind s path wild plain off table is_dir = elim (cases_Bool (spec_matches table s path is_dir)) [
  | inr away ↦ away
  | inl h ↦
      let fitted = (and_parts (fits s path is_dir) (has_attributes table s path is_dir) h).0 in
      elim (fits-ways s path is_dir fitted).1 [
        | inl always ↦ absurd (both_ways (always_matches s) (not_always s wild) always)
        | inr w ↦ elim w [
          | inl g ↦ absurd (both_ways (glob_matches s.mode s path) off (first_two (has_wildcard s) (glob_matches s.mode s path) (takes_kind s is_dir) g).1)
          | inr w ↦ elim w [
            | inl v ↦ absurd (both_ways (has_wildcard_at path (length (stem s))) plain (verbatim-wild s wild path is_dir v))
            | inr b ↦ absurd (both_ways (has_wildcard_at path (length (stem s))) plain (prefix-wild s wild path b))
          ]
        ]
      ]
]

pub ends-known : (s : Spec) → has_wildcard s ≡ true → IfSome (own_end s.path) (EndsPaths s)
ends-known s wild = at (own_end s.path) refl
  where
    at : (o : Option ℕ) → own_end s.path ≡ o → IfSome o (EndsPaths s)
    at (Some byte) is = ends-paths s byte wild is
    at None is = tt

-- ---- the first byte

-- texts that begin alike up to case
same-first : (f : Bool) (x y : List ℕ) (byte : ℕ) → slice_get x 0 ≡ Some byte → begins_with (fold_case f y) (fold_case f x) ≡ true → is_same_byte (cond f Fold Sensitive) byte (first_byte y) ≡ true
same-first f [] y byte is h = cc
same-first false (b ∷ x) [] byte is h = cc
same-first true (b ∷ x) [] byte is h = cc
same-first false (b ∷ x) (c ∷ y) byte is h = grind (arith, nat_tests, h, is)
same-first true (b ∷ x) (c ∷ y) byte is h = grind (arith, nat_tests, h, is)

-- Each path that a spec matches begins with the first byte of its stem, up to case where it doesn't count.
begins-with-byte : (s : Spec) (byte : ℕ) → s.nil ≡ false → slice_get (stem s) 0 ≡ Some byte → BeginsPaths s byte
unfolding spec_matches
begins-with-byte s byte n is table path is_dir h =
    let fitted = (and_parts (fits s path is_dir) (has_attributes table s path is_dir) h).0 in
    same-first (ignores_case s) (stem s) path byte is (fitted_begins_stem s path is_dir n fitted)

pub begins-paths : (s : Spec) → s.nil ≡ false → IfSome (slice_get (stem s) 0) (BeginsPaths s)
begins-paths s n = at (slice_get (stem s) 0) refl
  where
    at : (o : Option ℕ) → slice_get (stem s) 0 ≡ o → IfSome o (BeginsPaths s)
    at (Some byte) is = begins-with-byte s byte n is
    at None is = tt

-- what stands before the first element that passes is a front
before-front : {X : Type 0} (p : X → Bool) (xs : List X) → take (length (before_first p xs)) xs ≡ before_first p xs
before-front p [] = refl
before-front p (x ∷ xs) = elim (cases_Bool (p x)) [
  | inl e ↦ rw e refl
  | inr e ↦ rw (e, one-add) (ap (λ ys. x ∷ ys) (before-front p xs))
]

-- so many bytes of a path as its stem has are the stem
pub stem-front : (s : Spec) → s.nil ≡ false → (n : ℕ) (path : List ℕ) → n ≡ length (stem s) → path ≡ s.path → take n path ≡ stem s
stem-front s nil n path is same =
    let own = stem-at_false s nil in
    rw (is, same, own) (before-front is_wildcard s.path)
