-- Words whose bits are places.
use Rattle.std.proofs.Common.{◌≡◌, ℕ, ◌+◌, ◌-◌, ◌*◌, ◌^◌, ◌%◌, ◌/◌, ◌<◌, ◌≤◌, ◌==◌, true, false, inl, inr, sym, ◌∙◌, ap, subst, arith, Some, None, bit_or, w64}
use Rattle.std.specs.Int.Count.{count_trailing_zeros}
use Rattle.std.proofs.lemmas.Bool.{cases_eq, cases_lt}
use Rattle.std.proofs.lemmas.Nat.Bits.{bit_at_above, bit_at_set_same, bit_at_set_other}
use Rattle.pathspec_glob.specs.GlobCells.{has}
use Rattle.pathspec_glob.proofs.BitProofs.{below-lowest, has-shr, has-zero, lowest-stands}
use Rattle.pathspec_heads.specs.Groups.{HasBitsOf, IsLeastFrom}

-- ---- the next bit

-- a bit of a word from one on is one of the word
from-bit : (word from p : ℕ) → from ≤ p → has (word / 2 ^ from) (p - from) ≡ has word p
from-bit word from p h =
    let there : from + (p - from) ≡ p = omega (arith, h) in
    has-shr word from (p - from) ∙ ap (has word) there

pub no-bit : (word from : ℕ) → word < 2 ^ 64 → 64 ≤ from → IsLeastFrom (λ p. has word p ≡ true) from None
no-bit word from fits far = record {
  found = tt;
  first = λ p h at.
      let none : has word p ≡ false = ap (λ x. x == 1) (bit_at_above word 64 p fits (omega (arith, far, h))) in
      cc;
}

pub no-rest : (word from : ℕ) → word / 2 ^ from ≡ 0 → IsLeastFrom (λ p. has word p ≡ true) from None
no-rest word from empty = record {
  found = tt;
  first = λ p h at.
      let none : has word p ≡ false = sym (from-bit word from p h) ∙ ap (λ w. has w (p - from)) empty ∙ has-zero (p - from) in
      cc;
}

pub least-bit : (word from : ℕ) → word / 2 ^ from < 2 ^ 64 → 0 < word / 2 ^ from
    → IsLeastFrom (λ p. has word p ≡ true) from (Some (from + count_trailing_zeros 64 (word / 2 ^ from)))
least-bit word from fits some =
    let rest = word / 2 ^ from in
    record {
      found = (omega arith, sym (has-shr word from (count_trailing_zeros 64 rest)) ∙ (lowest-stands rest some fits).1);
      first = λ p h at. elim (cases_lt (p - from) (count_trailing_zeros 64 rest)) [
        | inl l ↦
            let none : has word p ≡ false = sym (from-bit word from p h) ∙ below-lowest rest (p - from) fits l in
            cc
        | inr g ↦ omega (arith, g, h)
      ];
    }

-- ---- a word of places

-- With the next place that has a property, a word has all up to that one.
module _ (P : ℕ → Type 0) (word from place : ℕ) (only : (p : ℕ) → has word p ≡ true → P p) (all : (p : ℕ) → p < from → P p → has word p ≡ true) (next : IsLeastFrom P from (Some place)) (within : place < 64) where
  pub only-more : (p : ℕ) → has (bit_or word (1 * 2 ^ place % 18446744073709551616)) p ≡ true → P p
  only-more p h = elim (cases_eq p place) [
    | inl e ↦ subst P (sym e) next.found.1
    | inr d ↦ only p (sym (ap (λ x. x == 1) (bit_at_set_other w64 word place within p d)) ∙ h)
  ]

  pub all-more : (p : ℕ) → p < place + 1 → P p → has (bit_or word (1 * 2 ^ place % 18446744073709551616)) p ≡ true
  all-more p below there = elim (cases_eq p place) [
    | inl e ↦ rw e (ap (λ x. x == 1) (bit_at_set_same w64 word place within))
    | inr d ↦
        let before : p < from = elim (cases_lt p from) [
          | inl l ↦ l
          | inr g ↦ absurd (d (omega (arith, below, next.first p g there)))
        ] in
        ap (λ x. x == 1) (bit_at_set_other w64 word place within p d) ∙ all p before there
  ]

-- and where there is no next one, it has all
pub all-placed : (P : ℕ → Type 0) (word from : ℕ) → ((p : ℕ) → has word p ≡ true → P p) → ((p : ℕ) → p < from → P p → has word p ≡ true) → IsLeastFrom P from None → HasBitsOf word P
all-placed P word from only all next = record {
  only = only;
  all = λ p there. elim (cases_lt p from) [
    | inl l ↦ all p l there
    | inr g ↦ absurd (next.first p g there)
  ];
}
