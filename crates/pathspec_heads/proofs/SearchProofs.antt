-- The bound of a search by halves, and counts that go round.
use Rattle.std.proofs.Common.{◌≡◌, ℕ, suc, zero, ◌+◌, ◌-◌, ◌/◌, ◌%◌, ◌^◌, ◌<◌, ◌≤◌, inl, inr, sym, ◌∙◌, ap, arith, ◌⊎◌, add_assoc}
use Rattle.std.proofs.Math.Nat.{pow-succ', mod-add-mod}
use Rattle.std.proofs.lemmas.Bool.{cases_lt}
use Rattle.pathspec_glob.specs.Counts.{Counts}

-- what is left behind a comparison in the middle of fewer than 2 ^ k places
halved : (size left k : ℕ) → 0 < size → size < 2 ^ k → left ≤ size / 2 → (j : ℕ) × (left < 2 ^ j) × (j + 1 ≤ k)
halved size left zero p h l = absurd (omega (arith, p, h))
halved size left (suc k) p h l = (k, omega (arith, h, l, pow-succ' 2 k), omega arith)

-- what a search has left after so many looks, and how many more it takes
abbrev pub IsLeft : ℕ → ℕ → ℕ → Type 0
IsLeft count size looks = (b : ℕ) → count < 2 ^ b → (k : ℕ) × (size < 2 ^ k) × (k ≤ b) × (looks + k ≤ b + 2)

-- a look leaves no more than one of its sides: after the first two that is no more than there was, and then half of it
pub left-after_look : (count low high at left looks : ℕ) → (low ≤ at) × (at < high) → (2 ≤ looks → at ≡ low + (high - low) / 2) → (left ≤ at - low) ⊎ (left ≤ high - (at + 1)) → IsLeft count (high - low) looks → IsLeft count left (looks + 1)
left-after_look count low high at left looks inside middle side few b n = elim (cases_lt looks 2) [
  | inl early ↦ let now = few b n in (now.0, still now.0 now.1 side, now.2, omega (arith, early, now.2))
  | inr late ↦
      let now = few b n in
      let half = halved (high - low) left now.0 (omega (arith, inside.0, inside.1)) now.1 (half_left (middle late) side) in
      (half.0, half.1, omega (arith, half.2, now.2), omega (arith, half.2, now.3))
]
  where
    still : (k : ℕ) → high - low < 2 ^ k → (left ≤ at - low) ⊎ (left ≤ high - (at + 1)) → left < 2 ^ k
    still k n (inl s) = omega (arith, n, s, inside.1)
    still k n (inr s) = omega (arith, n, s, inside.0)

    half_left : at ≡ low + (high - low) / 2 → (left ≤ at - low) ⊎ (left ≤ high - (at + 1)) → left ≤ (high - low) / 2
    half_left is (inl s) = omega (arith, is, s)
    half_left is (inr s) = omega (arith, is, s, inside.0, inside.1)

more_in : (m a n b c : ℕ) → b % m ≡ (a + n) % m → c % m ≡ (b + 1) % m → c % m ≡ (a + (n + 1)) % m
more_in m a n b c p q = q ∙ (sym (mod-add-mod b m 1) ∙ (ap (λ x. (x + 1) % m) p ∙ (mod-add-mod (a + n) m 1 ∙ ap (λ x. x % m) (add_assoc a n 1))))

pub counts-more : (a n b c : ℕ) → Counts a n b → Counts b 1 c → Counts a (n + 1) c
counts-more a n b c p q = more_in (2 ^ 128) a n b c p q
