-- What a spec fits begins with its head, and with its stem up to the case that counts for it.
use Rattle.std.proofs.Common.{◌≡◌, ℕ, Bool, true, false, not, ◌&&◌, cond, inl, inr, refl, sym, ◌∙◌, ap, List, [], ◌∷◌, ◌++◌, drop, ◌⊎◌, subst, Some, None}
use Rattle.std.proofs.lemmas.Bool.{and_parts, or_parts, cases_Bool, not-true, both_ways}
use Rattle.std.proofs.lemmas.List.{append-nil}
use Rattle.std.proofs.lemmas.Slice.Eq.{bytes_eq-Decides}
use Rattle.std.proofs.Math.Numerals.{one-add}
use Rattle.std.specs.Prelude.{bytes_eq, is_some}
use Rattle.std.specs.List.{list_any, before_first, position_or_len}
use Rattle.pathspec_pattern.specs.declared.SearchMode.{SearchMode}
use Rattle.pathspec_pattern.specs.declared.SearchMode.TheVariants.{ShellGlob, Literal, PathAwareGlob}
use Rattle.gix_pathspec.specs.declared.search.MatchKind.TheVariants.{Always, Prefix, WildcardMatch, Verbatim}
use Rattle.pathspec_glob.specs.declared.Mode.{Mode}
use Rattle.pathspec_glob.specs.declared.Mode.TheVariants.{Shell, PathAware}
use Rattle.pathspec_glob.specs.declared.Case.TheVariants.{Sensitive, Fold}
use Rattle.gix_pathspec.specs.Bytes.{slash, is_empty, is_wildcard, fold_case}
use Rattle.gix_pathspec.specs.Paths.{is_below}
use Rattle.gix_pathspec.specs.Specs.{Spec, ignores_case, always_matches, has_wildcard, prefix_directory}
use Rattle.gix_pathspec.specs.Tokens.{tokens}
use Rattle.gix_pathspec.specs.GlobRelation.{matches}
use Rattle.gix_pathspec.specs.Matching.{is_in_prefix_directory, glob_matches, is_glob_match, is_verbatim_match, is_prefix_match, takes_kind, fit, fits}
use Rattle.gix_pathspec.specs.Prefixes.{stem, head, IsFrontOf}
use Rattle.gix_pathspec.specs.SelectionLaws.{FittedBeginsHead, FittedBeginsStem}
use Rattle.pathspec_glob.proofs.StemProofs.{before_first-front, match_begins_stem}
use Rattle.gix_pathspec.proofs.BeginsProofs.{front-itself, front-through, front-folded, front-from_begins_with, begins_with-from_front, IsBelow-from_is_below, IsTail, which_of_four, front-from_is_empty}

-- ---- the stem in the path

-- where no element passes, nothing is left out
pub before_first-all : {X : Type 0} (p : X → Bool) (xs : List X) → list_any p xs ≡ false → before_first p xs ≡ xs
before_first-all p [] h = refl
before_first-all p (x ∷ xs) h = let q = or_parts (p x) (list_any p xs) h in rw (q.0, one-add) (ap (λ t. x ∷ t) (before_first-all p xs q.1))

-- ---- the ways to fit

-- a path fits where the prefix directory is kept and one of the ways holds
ways : (k a g v p : Bool) → is_some (cond k (cond a (Some Always) (cond g (Some WildcardMatch) (cond v (Some Verbatim) (cond p (Some Prefix) None)))) None) ≡ true
    → (k ≡ true) × ((a ≡ true) ⊎ ((g ≡ true) ⊎ ((v ≡ true) ⊎ (p ≡ true))))
ways false a g v p h = cc
ways true true g v p h = (refl, inl refl)
ways true false true v p h = (refl, inr (inl refl))
ways true false false true p h = (refl, inr (inr (inl refl)))
ways true false false false true h = (refl, inr (inr (inr refl)))
ways true false false false false h = cc

-- what a spec fits keeps its prefix directory and matches in one of four ways
pub fits-ways : (s : Spec) (path : List ℕ) (is_dir : Bool) → fits s path is_dir ≡ true
    → (is_in_prefix_directory s path is_dir ≡ true) × ((always_matches s ≡ true) ⊎ ((is_glob_match s path is_dir ≡ true) ⊎ ((is_verbatim_match s path is_dir ≡ true) ⊎ (is_prefix_match s path ≡ true))))
unfolding fit
fits-ways s path is_dir h = ways (is_in_prefix_directory s path is_dir) (always_matches s) (is_glob_match s path is_dir) (is_verbatim_match s path is_dir) (is_prefix_match s path) h

-- ---- a glob

-- a text that a glob matches begins with what stands before its first wildcard, case aside where it doesn't count
glob_begins : (mode : Mode) (f : Bool) (pattern path : List ℕ) → matches mode (cond f Fold Sensitive) (tokens mode pattern) path ≡ true → IsFrontOf (fold_case f (before_first is_wildcard pattern)) (fold_case f path)
glob_begins mode true pattern path h = front-from_begins_with _ _ (match_begins_stem mode Fold pattern path h)
glob_begins mode false pattern path h = front-from_begins_with _ _ (match_begins_stem mode Sensitive pattern path h)

-- the same in each search mode
pub glob_stem : (m : SearchMode) (s : Spec) (path : List ℕ) → glob_matches m s path ≡ true → IsFrontOf (fold_case (ignores_case s) (before_first is_wildcard s.path)) (fold_case (ignores_case s) path)
glob_stem ShellGlob s path h = glob_begins Shell (ignores_case s) s.path path h
glob_stem Literal s path h = cc
glob_stem PathAwareGlob s path h = glob_begins PathAware (ignores_case s) s.path path h

-- of three tests that hold, the first two
pub first_two : (a b c : Bool) → (a && b && c) ≡ true → (a ≡ true) × (b ≡ true)
first_two true true c h = (refl, refl)
first_two true false c h = cc
first_two false b c h = cc

-- ---- the stem

-- of a nil spec it is the path
stem_of_nil : (s : Spec) → s.nil ≡ true → stem s ≡ s.path
stem_of_nil s n = rw n refl

-- of a spec that is not nil
pub stem-at_false : (s : Spec) → s.nil ≡ false → stem s ≡ before_first is_wildcard s.path
stem-at_false s n = rw n refl

-- without a wildcard it is the path
pub stem_is_path : (s : Spec) → s.nil ≡ false → has_wildcard s ≡ false → stem s ≡ s.path
stem_is_path s n w = let none : list_any is_wildcard s.path ≡ false = rw n at w in stem-at_false s n ∙ before_first-all is_wildcard s.path none

pub stem_begins_path : (s : Spec) → IsFrontOf (stem s) s.path
stem_begins_path s = elim (cases_Bool s.nil) [
  | inl n ↦ subst (λ x. IsFrontOf x s.path) (sym (stem_of_nil s n)) (front-itself s.path)
  | inr n ↦ (drop (position_or_len is_wildcard s.path) s.path, subst (λ x. s.path ≡ x ++ drop (position_or_len is_wildcard s.path) s.path) (sym (stem-at_false s n)) (before_first-front is_wildcard s.path))
]

-- a spec with a path that doesn't always match is not nil
pub not_nil : (s : Spec) → always_matches s ≡ false → s.nil ≡ false
not_nil s a = let p = or_parts s.nil (is_empty s.path) a in p.0

-- a path that is the spec's, case aside where it doesn't count
pub verbatim_is : (s : Spec) (path : List ℕ) (is_dir : Bool) → is_verbatim_match s path is_dir ≡ true → fold_case (ignores_case s) path ≡ fold_case (ignores_case s) s.path
verbatim_is s path is_dir h =
    let f = ignores_case s in
    let p = and_parts (bytes_eq (fold_case f path) (fold_case f s.path)) (takes_kind s is_dir) h in (bytes_eq-Decides (fold_case f path) (fold_case f s.path)).0 p.0

-- what a spec fits that doesn't always match: its stem and a rest, up to case; without a wildcard, the rest is a tail
pub record FitsStem (s : Spec) (path : List ℕ) : Type 0 where
  pub rest : List ℕ
  pub path_is : fold_case (ignores_case s) path ≡ fold_case (ignores_case s) (stem s) ++ rest
  pub tail : has_wildcard s ≡ false → IsTail rest

pub fits-stem : (s : Spec) (path : List ℕ) (is_dir : Bool) → always_matches s ≡ false → fits s path is_dir ≡ true → FitsStem s path
fits-stem s path is_dir a h =
    let f = ignores_case s in
    let n = not_nil s a in
    let w = (fits-ways s path is_dir h).1 in
    let in_path : IsFrontOf (fold_case f (stem s)) (fold_case f s.path) = front-folded f (stem s) s.path (stem_begins_path s) in
    let from_front : has_wildcard s ≡ true → IsFrontOf (fold_case f (stem s)) (fold_case f path) → FitsStem s path = λ wild p. record { rest = p.0; path_is = p.1; tail = λ plain. absurd (both_ways (has_wildcard s) plain wild) } in
    elim w [
      | inl always ↦ absurd (both_ways (always_matches s) a always)
      | inr w ↦ elim w [
        | inl g ↦
            let p = first_two (has_wildcard s) (glob_matches s.mode s path) (takes_kind s is_dir) g in
            from_front p.0 (subst (λ x. IsFrontOf (fold_case f x) (fold_case f path)) (sym (stem-at_false s n)) (glob_stem s.mode s path p.1))
        | inr w ↦ elim (cases_Bool (has_wildcard s)) [
          | inl wild ↦ from_front wild (elim w [
            | inl v ↦ subst (λ x. IsFrontOf (fold_case f (stem s)) x) (sym (verbatim_is s path is_dir v)) in_path
            | inr b ↦ front-through (fold_case f (stem s)) (fold_case f s.path) (fold_case f path) in_path (let p = IsBelow-from_is_below (fold_case f path) (fold_case f s.path) b in (slash ∷ p.0, p.1))
          ])
          | inr plain ↦
              let e : fold_case f (stem s) ≡ fold_case f s.path = ap (fold_case f) (stem_is_path s n plain) in
              elim w [
                | inl v ↦ record { rest = []; path_is = verbatim_is s path is_dir v ∙ (sym e ∙ sym (append-nil (fold_case f (stem s)))); tail = λ p. inl refl }
                | inr b ↦
                    let p = IsBelow-from_is_below (fold_case f path) (fold_case f s.path) b in
                    record { rest = slash ∷ p.0; path_is = p.1 ∙ ap (λ x. x ++ slash ∷ p.0) (sym e); tail = λ q. inr (p.0, refl) }
              ]
        ]
      ]
    ]

-- ---- the head

-- a prefix directory that counts begins the path
pub is_in_prefix_directory-front : (s : Spec) (path : List ℕ) (is_dir : Bool) → ignores_case s ≡ true → is_in_prefix_directory s path is_dir ≡ true → IsFrontOf (prefix_directory s) path
is_in_prefix_directory-front s path is_dir i h =
    let d = prefix_directory s in
    elim (which_of_four (not (ignores_case s)) (is_empty d) (is_below path d) (bytes_eq path d && is_dir) h) [
      | inl c ↦ absurd (both_ways (ignores_case s) (not-true (ignores_case s) c) i)
      | inr w ↦ elim w [
        | inl e ↦ front-from_is_empty d path e
        | inr w ↦ elim w [
          | inl b ↦ let p = IsBelow-from_is_below path d b in (slash ∷ p.0, p.1)
          | inr v ↦ let p = and_parts (bytes_eq path d) is_dir v in subst (λ x. IsFrontOf d x) (sym ((bytes_eq-Decides path d).0 p.0)) (front-itself d)
        ]
      ]
    ]

-- the head of a spec that is not nil, by case
pub head_folded : (s : Spec) → s.nil ≡ false → ignores_case s ≡ true → head s ≡ prefix_directory s
head_folded s n i = rw (n, i) refl

pub head_sensitive : (s : Spec) → s.nil ≡ false → ignores_case s ≡ false → head s ≡ stem s
head_sensitive s n i = rw (n, i) refl

-- the stem of a spec whose path is empty
pub stem_of_empty : (s : Spec) (path : List ℕ) → s.nil ≡ false → always_matches s ≡ true → IsFrontOf (stem s) path
stem_of_empty s path n a =
    let e : is_empty s.path ≡ true = rw n at a in
    front-through (stem s) s.path path (stem_begins_path s) (front-from_is_empty s.path path e)

-- where case counts, what folds to a text and a rest is that text and that rest
pub sensitive : (f : Bool) → f ≡ false → (x y rest : List ℕ) → fold_case f x ≡ fold_case f y ++ rest → x ≡ y ++ rest
sensitive true e x y rest h = cc
sensitive false e x y rest h = h

-- What a spec fits begins with its head.
pub fits-head : (s : Spec) (path : List ℕ) (is_dir : Bool) → fits s path is_dir ≡ true → IsFrontOf (head s) path
fits-head s path is_dir h = elim (cases_Bool s.nil) [
  | inl n ↦ rw n (path, refl)
  | inr n ↦ elim (cases_Bool (ignores_case s)) [
    | inl i ↦ subst (λ x. IsFrontOf x path) (sym (head_folded s n i)) (is_in_prefix_directory-front s path is_dir i (fits-ways s path is_dir h).0)
    | inr i ↦ subst (λ x. IsFrontOf x path) (sym (head_sensitive s n i)) (elim (cases_Bool (always_matches s)) [
      | inl a ↦ stem_of_empty s path n a
      | inr a ↦ let r = fits-stem s path is_dir a h in (r.rest, sensitive (ignores_case s) i path (stem s) r.rest r.path_is)
    ])
  ]
]

pub fitted_begins_head : FittedBeginsHead
fitted_begins_head s path is_dir h = begins_with-from_front (head s) path (fits-head s path is_dir h)

pub fitted_begins_stem : FittedBeginsStem
fitted_begins_stem s path is_dir n h =
    let f = ignores_case s in
    begins_with-from_front (fold_case f (stem s)) (fold_case f path) (elim (cases_Bool (always_matches s)) [
      | inl a ↦ front-folded f (stem s) path (stem_of_empty s path n a)
      | inr a ↦ let r = fits-stem s path is_dir a h in (r.rest, r.path_is)
    ])
