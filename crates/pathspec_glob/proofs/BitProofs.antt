-- The places that a number holds.
use Rattle.std.proofs.Common.{◌≡◌, ℕ, zero, suc, ◌+◌, ◌-◌, ◌*◌, ◌/◌, ◌%◌, ◌^◌, ◌<◌, true, false, not, ◌&&◌, ◌||◌, refl, sym, ◌∙◌, ap, arith, ◌==◌, min, max, inl, inr, w64}
use Rattle.std.proofs.Math.Bool.{or-false, and-true, and_self}
use Rattle.std.proofs.Math.Nat.{div-div-eq-div-mul}
use Rattle.std.proofs.lemmas.Nat.{pow-add}
use Rattle.std.proofs.lemmas.Bool.{cases_eq, eq-eqb, ne_eqb}
use Rattle.std.specs.Int.Count.{count_trailing_zeros}
use Rattle.std.specs.Int.{bit_at, bit_not}
use Rattle.std.specs.Int.Bits.{bit_and}
use Rattle.std.specs.Int.RustNames.{bit_or}
use Rattle.std.proofs.lemmas.Nat.Bits.{bit_at-trailing_zeros, bit_at_and, bit_at_or, bit_at_not, bit_at-lt, bit_at-suc, bit_at_lowest, bit_at-zero, bit_at_cat_low}
use Rattle.std.proofs.lemmas.Nat.{shl-shr, shr_split}
use Rattle.pathspec_glob.specs.GlobCells.{has, further, with_first}

and-cases : (x y : ℕ) → x < 2 → y < 2 → (min x y == 1) ≡ ((x == 1) && (y == 1))
and-cases zero zero h k = refl
and-cases zero (suc zero) h k = refl
and-cases (suc zero) zero h k = refl
and-cases (suc zero) (suc zero) h k = refl
and-cases (suc (suc x)) y h k = absurd (let no : ⊥ = omega arith in no)
and-cases x (suc (suc y)) h k = absurd (let no : ⊥ = omega arith in no)

or-cases : (x y : ℕ) → x < 2 → y < 2 → (max x y == 1) ≡ ((x == 1) || (y == 1))
or-cases zero zero h k = refl
or-cases zero (suc zero) h k = refl
or-cases (suc zero) zero h k = refl
or-cases (suc zero) (suc zero) h k = refl
or-cases (suc (suc x)) y h k = absurd (let no : ⊥ = omega arith in no)
or-cases x (suc (suc y)) h k = absurd (let no : ⊥ = omega arith in no)

pub has-and : (a b i : ℕ) → has (bit_and a b) i ≡ (has a i && has b i)
has-and a b i = rw (bit_at_and a b i) (and-cases (bit_at a i) (bit_at b i) (bit_at-lt a i) (bit_at-lt b i))

pub has-or : (a b i : ℕ) → has (bit_or a b) i ≡ (has a i || has b i)
has-or a b i = rw (bit_at_or a b i) (or-cases (bit_at a i) (bit_at b i) (bit_at-lt a i) (bit_at-lt b i))

not-cases : (x : ℕ) → x < 2 → (1 - x == 1) ≡ not (x == 1)
not-cases zero h = refl
not-cases (suc zero) h = refl
not-cases (suc (suc x)) h = absurd (let no : ⊥ = omega arith in no)

pub has_not : (n i : ℕ) → n < 2 ^ 64 → i < 64 → has (bit_not w64 n) i ≡ not (has n i)
has_not n i fits h = rw (bit_at_not w64 n i fits h) (not-cases (bit_at n i) (bit_at-lt n i))

pub has-zero : (i : ℕ) → has 0 i ≡ false
has-zero i = rw (bit_at-zero i) refl

-- below the width, a product that is cut to the width has the product's bits
bit_at-cut : (n i : ℕ) → i < 64 → bit_at (n % 2 ^ 64) i ≡ bit_at n i
bit_at-cut n i h = sym (bit_at_cat_low (n / 2 ^ 64) 64 (n % 2 ^ 64) i h) ∙ ap (λ x. bit_at x i) (shr_split n 64)

-- `n << 1` has the bits of n, one further
pub has-shl : (n i : ℕ) → suc i < 64 → has (n * 2 ^ 1 % 2 ^ 64) (suc i) ≡ has n i
has-shl n i h = ap (λ x. x == 1) (bit_at-cut (n * 2 ^ 1) (suc i) h ∙ bit_at-suc (n * 2 ^ 1) i ∙ ap (λ x. bit_at x i) (shl-shr n 1))

pub has-shl_first : (n : ℕ) → has (n * 2 ^ 1 % 2 ^ 64) 0 ≡ false
has-shl_first n =
    let low : n * 2 % 2 ≡ 0 = omega arith in
    ap (λ x. x == 1) (bit_at-cut (n * 2 ^ 1) 0 (omega arith) ∙ bit_at_lowest (n * 2 ^ 1) ∙ low)

-- the first place alone
pub alone : (i : ℕ) → has 1 (suc i) ≡ false
alone i = ap (λ x. x == 1) (bit_at-suc 1 i ∙ bit_at-zero i)

-- a word with each place one further
pub has_further : (n i : ℕ) → i < 64 → has (n * 2 ^ 1 % 2 ^ 64) i ≡ further false (has n) i
has_further n zero h = has-shl_first n
has_further n (suc i) h = has-shl n i h

pub has_further_first : (n i : ℕ) → i < 64 → has (bit_or (n * 2 ^ 1 % 2 ^ 64) 1) i ≡ further true (has n) i
has_further_first n zero h = has-or (n * 2 ^ 1 % 2 ^ 64) 1 0 ∙ rw (has-shl_first n) refl
has_further_first n (suc i) h = has-or (n * 2 ^ 1 % 2 ^ 64) 1 (suc i) ∙ rw (alone i, has-shl n i h) (or-false (has n i))

-- a word with its first place besides
pub has_first : (n i : ℕ) → has (bit_or n 1) i ≡ with_first true (has n) i
has_first n zero = has-or n 1 0
has_first n (suc i) = has-or n 1 (suc i) ∙ rw (alone i) (or-false (has n (suc i)))

-- a word of which no two places stand side by side
pub apart : (n : ℕ) → bit_and n (n / 2) ≡ 0 → (i : ℕ) → (has n i && has n (suc i)) ≡ false
apart n none i =
    let next : has (n / 2) i ≡ has n (suc i) = ap (λ x. x == 1) (sym (bit_at-suc n i)) in
    rw (sym next) (sym (has-and n (n / 2) i) ∙ rw none (has-zero i))

-- a word from a bit on
pub has-shr : (n k i : ℕ) → has (n / 2 ^ k) i ≡ has n (k + i)
has-shr n k i = ap (λ x. x % 2 == 1) (div-div-eq-div-mul n (2 ^ k) (2 ^ i) ∙ ap (λ d. n / d) (sym (pow-add 2 k i)))

-- no bit stands below the lowest
pub below-lowest : (n i : ℕ) → n < 2 ^ 64 → i < count_trailing_zeros 64 n → has n i ≡ false
below-lowest n i fits h = elim (cases_eq n 0) [
  | inl e ↦ rw e (has-zero i)
  | inr d ↦ ap (λ x. x == 1) ((bit_at-trailing_zeros w64 n (omega arith) fits).2 i h)
]

same-sucs : (i k : ℕ) → (suc i == suc k) ≡ (i == k)
same-sucs i k = elim (cases_eq i k) [
  | inl e ↦ rw (eq-eqb (suc i) (suc k) (ap suc e), eq-eqb i k e) refl
  | inr d ↦ rw (ne_eqb (suc i) (suc k) (λ e. d (omega (arith, e))), ne_eqb i k d) refl
]

-- a number without its lowest bit
without-bit : (n k i : ℕ) → bit_at n k ≡ 1 → ((j : ℕ) → j < k → bit_at n j ≡ 0) → (has n i && has (n - 1) i) ≡ (has n i && not (i == k))
without-bit n zero zero at below =
    let odd : n % 2 ≡ 1 = sym (bit_at_lowest n) ∙ at in
    let low : bit_at (n - 1) 0 ≡ 0 = bit_at_lowest (n - 1) ∙ omega (arith, odd) in
    rw (at, low) refl
without-bit n zero (suc i) at below =
    let odd : n % 2 ≡ 1 = sym (bit_at_lowest n) ∙ at in
    let half : (n - 1) / 2 ≡ n / 2 = omega (arith, odd) in
    let off : suc i ≡ 0 → ⊥ = λ e. (let no : ⊥ = omega (arith, e) in no) in
    rw (bit_at-suc n i, bit_at-suc (n - 1) i, half, ne_eqb (suc i) 0 off) (and_self (has (n / 2) i) ∙ sym (and-true (has (n / 2) i)))
without-bit n (suc k) zero at below = rw (below 0 (omega arith)) refl
without-bit n (suc k) (suc i) at below =
    let even : n % 2 ≡ 0 = sym (bit_at_lowest n) ∙ below 0 (omega arith) in
    let half : (n - 1) / 2 ≡ n / 2 - 1 = omega (arith, even) in
    rw (bit_at-suc n i, bit_at-suc (n - 1) i, half, same-sucs i k)
    (without-bit (n / 2) k i (sym (bit_at-suc n k) ∙ at) (λ j h. sym (bit_at-suc n j) ∙ below (suc j) (omega arith)))

pub without-lowest : (n i : ℕ) → 0 < n → n < 2 ^ 64 → has (bit_and n (n - 1)) i ≡ (has n i && not (i == count_trailing_zeros 64 n))
without-lowest n i some fits =
    let lowest = bit_at-trailing_zeros w64 n some fits in
    has-and n (n - 1) i ∙ without-bit n (count_trailing_zeros 64 n) i lowest.1 lowest.2

-- the lowest bit stands
pub lowest-stands : (n : ℕ) → 0 < n → n < 2 ^ 64 → (count_trailing_zeros 64 n < 64) × (has n (count_trailing_zeros 64 n) ≡ true)
lowest-stands n some fits =
    let lowest = bit_at-trailing_zeros w64 n some fits in
    (lowest.0, ap (λ x. x == 1) lowest.1)
