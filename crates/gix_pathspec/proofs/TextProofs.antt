-- What a text begins with, byte by byte, with case or without.
use Rattle.std.proofs.Common.{◌≡◌, ℕ, ◌≤◌, Bool, true, false, ◌&&◌, refl, sym, ◌∙◌, ap, List, [], ◌∷◌, length, take, arith, ◌==◌}
use Rattle.std.proofs.lemmas.List.{length-map, take-map}
use Rattle.std.specs.Prelude.{bytes_eq}
use Rattle.std.specs.Char.{to_ascii_lowercase}
use Rattle.gix_pathspec.specs.Bytes.{fold_case, begins_with}

-- the front of a pair of texts that begin alike
begins-cons : (b c : ℕ) (x d : List ℕ) → begins_with (b ∷ x) (c ∷ d) ≡ ((c == b) && begins_with x d)
begins-cons b c x d = refl

-- a text no shorter than the front
begins-take : (x d : List ℕ) → length d ≤ length x → bytes_eq d (take (length d) x) ≡ begins_with x d
begins-take [] [] l = refl
begins-take (b ∷ x) [] l = refl
begins-take [] (c ∷ d) l = absurd (omega (arith, l))
begins-take (b ∷ x) (c ∷ d) l = ap (λ t. (c == b) && t) (begins-take x d (omega (arith, l))) ∙ sym (begins-cons b c x d)

-- ---- the same without case

-- a text no shorter than the front
pub begins-folded_take : (f : Bool) (x d : List ℕ) → length d ≤ length x → bytes_eq (fold_case f d) (fold_case f (take (length d) x)) ≡ begins_with (fold_case f x) (fold_case f d)
begins-folded_take false x d l = begins-take x d l
begins-folded_take true x d l =
    let size : length (fold_case true d) ≡ length d = length-map d to_ascii_lowercase in
    let longer : length (fold_case true d) ≤ length (fold_case true x) = rw (size, length-map x to_ascii_lowercase) l in
    sym (sym (begins-take (fold_case true x) (fold_case true d) longer) ∙ (rw (size, take-map to_ascii_lowercase (length d) x) refl))
