-- From the mask of one load to the first byte under it that passes a test.
use Rattle.std.proofs.Common.{◌≡◌, ◌==◌, if◌then◌else◌, ℕ, zero, suc, ◌+◌, ◌%◌, ◌^◌, ◌<◌, ◌≤◌, Bool, true, List, [], ◌∷◌, map, length, take, drop, min, get_or, Fits, w8, w64, inl, inr, sym, ap, ◌∙◌, arith}
use Rattle.std.proofs.lemmas.Bool.{agree_below, agree_below_at, cases_Bool}
use Rattle.std.proofs.lemmas.List.{length-map}
use Rattle.std.proofs.lemmas.List.Sums.{fails_before_first, passes_at_first, position_or_len_is, prefix_len-le-length}
use Rattle.std.proofs.lemmas.Simd.{map-map, mask_l-mod, length-chunk, get_or-chunk, first_set_mask_l}
use Rattle.std.specs.Int.{trailing_zeros}
use Rattle.std.specs.List.{position_or_len}
use lib.Lanes.{chunk, mask_l, top}

-- the first place that passes, in a front of a list
first-take : {X : Type 0} (p : X → Bool) (n : ℕ) (xs : List X) → position_or_len p (take n xs) ≡ min n (position_or_len p xs)
first-take p zero xs = grind arith
first-take p (suc n) [] = grind arith
first-take p (suc n) (x ∷ xs) = elim (cases_Bool (p x)) [
  | inl t ↦ rw t (grind arith)
  | inr f ↦ rw (f, first-take p n xs) (omega arith)
]

-- two tests that agree on bytes pass first at one place
first-agrees : (p q : ℕ → Bool) (v : List ℕ) → agree_below p q 256 ≡ true → ((k : ℕ) → k < length v → get_or v k 0 < 256) → position_or_len p v ≡ position_or_len q v
first-agrees p q v same bytes =
    let place = position_or_len p v in
    let within : place ≤ length v = prefix_len-le-length _ v in
    sym (position_or_len_is q v place 0 within
    (λ k before. sym (agree_below_at p q 256 (get_or v k 0) same (bytes k (omega arith))) ∙ fails_before_first p v k 0 before)
    (λ inside. sym (agree_below_at p q 256 (get_or v place 0) same (bytes place inside)) ∙ passes_at_first p v 0 inside))

-- the lowest bit of a mask says where the first lane stands whose byte passes
pub first_in_lanes : (q : ℕ → Bool) (d : List ℕ) (i n r : ℕ) (z : List ℕ) → i + n ≤ length d → n ≤ 64 → ((k : ℕ) → Fits w8 (get_or d k 0))
    → r ≡ (if mask_l (map (top 7) z) % 2 ^ 64 == 0 then n else trailing_zeros w64 (mask_l (map (top 7) z) % 2 ^ 64))
    → (f : ℕ → ℕ) → z ≡ map f (chunk i n d) → agree_below (λ x. top 7 (f x)) q 256 ≡ true → r ≡ min n (position_or_len q (drop i d))
first_in_lanes q d i n r z room few fits found f lanes same =
    let v = chunk i n d in
    let stops = λ (x : ℕ). top 7 (f x) in
    let long = length-chunk i n d room in
    let mask = ap (λ l. mask_l l % 2 ^ 64) (ap (map (top 7)) lanes ∙ map-map (top 7) f v) ∙ mask_l-mod (map stops v) 64 (omega (arith, length-map v stops, long)) in
    found ∙ ap (λ m. if m == 0 then n else trailing_zeros w64 m) mask ∙ first_set_mask_l stops v n long few
    ∙ first-agrees stops q v same (λ k inside. omega (arith, get_or-chunk i n d k 0 (omega (arith, long)), (fits (i + k)).fits))
    ∙ first-take q n (drop i d)
