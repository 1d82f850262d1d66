-- Includes reach a path where one always matches, or the stem of another reaches it.
use Rattle.std.proofs.Common.{◌≡◌, Bool, true, false, ◌&&◌, ◌||◌, cond, refl, sym, ◌∙◌, List, [], ◌∷◌, ℕ, Option, map, filter}
use Rattle.std.specs.List.{list_any}
use Rattle.gix_pathspec.specs.Tables.{stem_reaches}
use Rattle.gix_pathspec.specs.Specs.{Spec, is_include, always_matches}
use Rattle.gix_pathspec.specs.Pruning.{stem_of, reaches}
use Rattle.gix_pathspec.specs.Reach.{is_shadowed, has_stem, stems_of, reaches_unshadowed}

module _ (d : List ℕ) (is_dir : Option Bool) where
  -- the test of the stems of these
  abbrev some_stem : Bool → List Spec → List Spec → Bool
  some_stem shadowed all specs = list_any (λ t. stem_reaches t d is_dir) (stems_of shadowed all specs)

  abbrev some_total : List Spec → Bool
  some_total specs = list_any (λ s. is_include s && always_matches s) specs

  by_stems : (all specs : List Spec) → list_any (λ s. is_include s && reaches s d is_dir) specs ≡ (some_total specs || some_stem false all specs || some_stem true all specs)
  unfolding reaches
  by_stems all [] = refl
  by_stems all (s ∷ specs) = here (is_include s) (always_matches s) (is_shadowed all s) refl refl refl (by_stems all specs)
    where
      reachable : (r a b c : Bool) → (r || (a || b || c)) ≡ (a || (r || b) || c)
      reachable true true b c = refl
      reachable true false b c = refl
      reachable false a b c = refl

      shadowed : (r a b c : Bool) → (r || (a || b || c)) ≡ (a || b || (r || c))
      shadowed true true b c = refl
      shadowed true false true c = refl
      shadowed true false false c = refl
      shadowed false a b c = refl

      here : (i w u : Bool) → is_include s ≡ i → always_matches s ≡ w → is_shadowed all s ≡ u
          → list_any (λ s. is_include s && reaches s d is_dir) specs ≡ (some_total specs || some_stem false all specs || some_stem true all specs)
          → ((is_include s && reaches s d is_dir) || list_any (λ s. is_include s && reaches s d is_dir) specs)
          ≡ (((is_include s && always_matches s) || some_total specs)
          || list_any (λ t. stem_reaches t d is_dir) (map stem_of (cond (has_stem false all s) (s ∷ filter (has_stem false all) specs) (filter (has_stem false all) specs)))
          || list_any (λ t. stem_reaches t d is_dir) (map stem_of (cond (has_stem true all s) (s ∷ filter (has_stem true all) specs) (filter (has_stem true all) specs))))
      here false w u i a e later = rw i later
      here true true u i a e later = rw (i, a) refl
      here true false false i a e later = rw (e, i, a, later) (reachable (stem_reaches (stem_of s) d is_dir) (some_total specs) (some_stem false all specs) (some_stem true all specs))
      here true false true i a e later = rw (e, i, a, later) (shadowed (stem_reaches (stem_of s) d is_dir) (some_total specs) (some_stem false all specs) (some_stem true all specs))

  -- an include reaches d where one always matches, or the stem of another does, shadowed or not
  pub reached-by-stems : (specs : List Spec) → list_any (λ s. is_include s && reaches s d is_dir) specs ≡ (reaches_unshadowed specs d is_dir || list_any (λ t. stem_reaches t d is_dir) (stems_of true specs specs))
  reached-by-stems specs = by_stems specs specs

-- ---- as the code has them

-- a truth value that is the first of two, where it is true
pub first-holds : (v x y : Bool) → v ≡ true → v ≡ x → v ≡ (x || y)
first-holds v x y t e = t ∙ sym (rw (sym e ∙ t) refl)

-- and the second, where the first isn't
pub second-holds : (v r x y : Bool) → v ≡ false → v ≡ x → r ≡ y → r ≡ (x || y)
second-holds v r x y f e s = s ∙ sym (rw (sym e ∙ f) refl)
