-- Texts joined one after the other.
use Rattle.std.proofs.Common.{◌≡◌, ℕ, zero, suc, ◌+◌, List, [], ◌∷◌, ◌++◌, ◌∙◌, refl, sym, append_assoc, ap, cond, take, Some, ◌==◌, false, arith}
use Rattle.std.proofs.lemmas.Bool.{ne_eqb}
use Rattle.std.proofs.Math.Numerals.{add-one}
use Rattle.std.specs.List.{slice_get, join_with_byte}
use Rattle.pathspec_parts.specs.Bytes.{slash}
use Rattle.pathspec_parts.specs.Paths.{join_names}

-- A list's elements up to a place joined, and the one there with the byte in front, unless it is the first.
join-next : (byte : ℕ) (xs : List (List ℕ)) (n : ℕ) (x : List ℕ) → slice_get xs n ≡ Some x → join_with_byte byte (take (suc n) xs) ≡ join_with_byte byte (take n xs) ++ cond (n == 0) x (byte ∷ x)
join-next byte [] n x h = cc
join-next byte (y ∷ ys) zero x h = cc
join-next byte (y ∷ []) (suc n) x h = cc
join-next byte (y ∷ z ∷ zs) (suc zero) x h = ap (λ t. y ++ byte ∷ t) (join-next byte (z ∷ zs) zero x h)
join-next byte (y ∷ z ∷ zs) (suc (suc n)) x h =
    let later : (m : ℕ) → (suc m == 0) ≡ false = λ m. ne_eqb (suc m) 0 (λ e. omega (arith, e)) in
    let ih = rw later at (join-next byte (z ∷ zs) (suc n) x h) in
    rw later (ap (λ t. y ++ byte ∷ t) ih ∙ sym (append_assoc y (byte ∷ join_with_byte byte (z ∷ take n zs)) (byte ∷ x)))

-- what is joined up to a place, and with one more up to the next
pub join-more : (byte : ℕ) (xs : List (List ℕ)) (n : ℕ) (x old new : List ℕ) → old ≡ join_with_byte byte (take n xs) → new ≡ old ++ cond (n == 0) x (byte ∷ x) → slice_get xs n ≡ Some x → new ≡ join_with_byte byte (take (n + 1) xs)
join-more byte xs n x old new o w h = rw (w, o, add-one, join-next byte xs n x h) refl

-- the same of names
pub join_names-more : (xs : List (List ℕ)) (n : ℕ) (x old new : List ℕ) → old ≡ join_names (take n xs) → new ≡ old ++ cond (n == 0) x (slash ∷ x) → slice_get xs n ≡ Some x → new ≡ join_names (take (n + 1) xs)
join_names-more = join-more slash
