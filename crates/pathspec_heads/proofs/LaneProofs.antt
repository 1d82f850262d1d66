-- From the mask of two loads to how far two texts agree.
use Rattle.std.proofs.Common.{◌≡◌, ◌≢◌, get_or, ◌==◌, if◌then◌else◌, ℕ, zero, suc, ◌+◌, ◌%◌, ◌^◌, ◌<◌, ◌≤◌, Bool, not, List, [], ◌∷◌, map, map-id, length, take, drop, min, nat_eq, w64, refl, sym, ap, ◌∙◌, arith}
use Rattle.std.proofs.lemmas.Bool.Decides.{nat_tests}
use Rattle.std.proofs.lemmas.Simd.{first_set_mask_l, length-chunk, length-zip2, mask_l-mod}
use Rattle.std.specs.Int.{trailing_zeros}
use Rattle.std.specs.List.{prefix_len}
use lib.Lanes.{chunk, mask_l, zip2}
use Rattle.pathspec_heads.specs.Agreement.{agreement}
use Rattle.pathspec_heads.proofs.AgreementProofs.{agreement-more}

-- two bytes differ
abbrev pub differ : ℕ → ℕ → Bool
differ a b = not (nat_eq a b)

agreement-take : (n : ℕ) (x y : List ℕ) → agreement (take n x) (take n y) ≡ min n (agreement x y)
agreement-take zero x y = grind arith
agreement-take (suc n) [] y = grind arith
agreement-take (suc n) (b ∷ x) [] = grind arith
agreement-take (suc n) (b ∷ x) (c ∷ y) = grind (arith, nat_tests, agreement-take n x y)

-- of the first n bytes of a text so many agree as of the text, or all n
pub agreement-cut : (n : ℕ) (x y : List ℕ) → agreement (take n x) y ≡ min n (agreement x y)
agreement-cut zero x y = grind arith
agreement-cut (suc n) [] y = grind arith
agreement-cut (suc n) (b ∷ x) [] = grind arith
agreement-cut (suc n) (b ∷ x) (c ∷ y) = grind (arith, nat_tests, agreement-cut n x y)

-- as many lanes agree as come before the first that differs
agreement-lanes : (x y : List ℕ) → prefix_len (λ b. not b) (zip2 differ x y) ≡ agreement x y
agreement-lanes [] y = refl
agreement-lanes (b ∷ x) [] = refl
agreement-lanes (b ∷ x) (c ∷ y) = grind (arith, nat_tests, agreement-lanes x y)

-- the lowest bit of the mask of the lanes that differ says how many agree
pub agreed_in_lanes : (x y : List ℕ) (n r : ℕ) (z : List Bool) → n ≤ length x → n ≤ length y → n ≤ 64
    → r ≡ (if mask_l z % 2 ^ 64 == 0 then n else trailing_zeros w64 (mask_l z % 2 ^ 64))
    → z ≡ zip2 differ (chunk 0 n x) (chunk 0 n y) → r ≡ min n (agreement x y)
agreed_in_lanes x y n r z h j few found is =
    let long = length-chunk 0 n x (omega (arith, h)) in
    let all : length (zip2 differ (chunk 0 n x) (chunk 0 n y)) ≡ n = length-zip2 differ (chunk 0 n x) (chunk 0 n y) (long ∙ sym (length-chunk 0 n y (omega (arith, j)))) ∙ long in
    let same = map-id (zip2 differ (chunk 0 n x) (chunk 0 n y)) in
    let mask : mask_l z % 2 ^ 64 ≡ mask_l (map (λ b. b) (zip2 differ (chunk 0 n x) (chunk 0 n y))) =
    ap (λ l. mask_l l % 2 ^ 64) is ∙ (mask_l-mod _ 64 (omega (arith, all, few)) ∙ ap mask_l (sym same)) in
    found ∙ ap (λ m. if m == 0 then n else trailing_zeros w64 m) mask
    ∙ first_set_mask_l (λ b. b) (zip2 differ (chunk 0 n x) (chunk 0 n y)) n all few
    ∙ agreement-lanes (chunk 0 n x) (chunk 0 n y)
    ∙ agreement-take n x y

-- behind what two texts agree in
pub agreement-drop : (n : ℕ) (x y : List ℕ) → n ≤ agreement x y → agreement x y ≡ n + agreement (drop n x) (drop n y)
agreement-drop zero x y h = omega arith
agreement-drop (suc n) [] y h = absurd (omega (arith, h))
agreement-drop (suc n) (b ∷ x) [] h = absurd (omega (arith, h))
agreement-drop (suc n) (b ∷ x) (c ∷ y) h = grind (arith, nat_tests, agreement-drop n x y)

-- the bytes at which two texts agree no further
pub agreement-differs : (x y : List ℕ) (n : ℕ) → n ≡ agreement x y → n < length x → n < length y → get_or x n 0 ≢ get_or y n 0
agreement-differs x y n e i j same = omega (arith, e, agreement-more x y n (omega (arith, e)) i j same)
