-- How the calls about pruning come to their answers.
use Rattle.std.proofs.Common.{◌≡◌, ℕ, suc, ◌+◌, Bool, true, false, not, ◌&&◌, ◌||◌, cond, refl, sym, ◌∙◌, List, [], ◌∷◌, length, Option, nat_lt, arith, inl, inr}
use Rattle.std.proofs.lemmas.Bool.{cases_lt, lt-ltb, le-ltb}
use Rattle.std.proofs.lemmas.List.{length-take-le}
use Rattle.std.proofs.lemmas.List.Sums.{prefix_len-le-length}
use Rattle.std.specs.List.{list_any, position_or_len, before_first}
use Rattle.gix_pathspec.specs.Bytes.{is_empty, is_wildcard}
use Rattle.gix_pathspec.specs.Specs.{Spec, has_wildcard}
use Rattle.gix_pathspec.specs.Prefixes.{stem, common_prefix}
use Rattle.gix_pathspec.specs.Pruning.{agree, is_total_exclude, is_reached, can_match}

-- ---- wildcards

-- one more on both sides
lt-both : (m n : ℕ) → nat_lt (1 + m) (suc n) ≡ nat_lt m n
lt-both m n = elim (cases_lt m n) [
  | inl small ↦ lt-ltb (1 + m) (suc n) (omega (arith, small)) ∙ sym (lt-ltb m n small)
  | inr large ↦ le-ltb (1 + m) (suc n) (omega (arith, large)) ∙ sym (le-ltb m n large)
]

-- the first place that passes lies within the list, where one does
within-one : (p : ℕ → Bool) (x : ℕ) (xs : List ℕ) (b : Bool) → p x ≡ b → nat_lt (position_or_len p xs) (length xs) ≡ list_any p xs → nat_lt (position_or_len p (x ∷ xs)) (length (x ∷ xs)) ≡ list_any p (x ∷ xs)
within-one p x xs true here later = rw here (lt-ltb 0 (suc (length xs)) (omega arith))
within-one p x xs false here later = rw here (lt-both (position_or_len p xs) (length xs) ∙ later)

place-within : (p : ℕ → Bool) (xs : List ℕ) → nat_lt (position_or_len p xs) (length xs) ≡ list_any p xs
place-within p [] = refl
place-within p (x ∷ xs) = within-one p x xs (p x) refl (place-within p xs)

-- a path goes on after its stem where it has a wildcard
stem-shorter : (nil : Bool) (path : List ℕ) → nat_lt (length (cond nil path (before_first is_wildcard path))) (length path) ≡ (not nil && list_any is_wildcard path)
stem-shorter true path = le-ltb (length path) (length path) (omega arith)
stem-shorter false path =
    let size : length (before_first is_wildcard path) ≡ position_or_len is_wildcard path = length-take-le (position_or_len is_wildcard path) path (prefix_len-le-length (λ b. not (is_wildcard b)) path) in
    rw size (place-within is_wildcard path)

pub stem-wild : (s : Spec) (n : ℕ) (path : List ℕ) → n ≡ length (stem s) → path ≡ s.path → nat_lt n (length path) ≡ has_wildcard s
stem-wild s n path size same = rw (size, same) (stem-shorter s.nil s.path)

-- ---- what can match

module _ (specs : List Spec) (d : List ℕ) (is_dir : Option Bool) where
  -- without a look at the specs
  pub can_match-unasked : {b : Bool} → b ≡ (is_empty specs || is_empty d) → b ≡ true → b ≡ can_match specs d is_dir
  unfolding can_match
  can_match-unasked e h = h ∙ (rw (sym e ∙ h) refl)

  -- by the specs
  pub can_match-asked : {a b : Bool} → a ≡ (is_empty specs || is_empty d) → a ≡ false → b ≡ (agree d (common_prefix specs) && not (list_any is_total_exclude specs) && is_reached specs d is_dir) → b ≡ can_match specs d is_dir
  unfolding can_match
  can_match-asked e h f = rw (sym e ∙ h) f
