-- Bit vectors.
use Rattle.std.proofs.Common.{◌≡◌, ℕ, ◌+◌, ◌-◌, ◌*◌, ◌/◌, ◌%◌, ◌^◌, ◌<◌, ◌≤◌, Bool, true, false, refl, sym, ◌∙◌, ap, arith, List, length, get_or, set, take, drop, replicate, ◌++◌, ◌==◌, inl, inr, if◌then◌else◌, bit_and, bit_or}
use Rattle.std.proofs.Common.{w64}
use Rattle.std.proofs.lemmas.Bool.{cases_eq, cases_lt, eq-eqb, ne_eqb}
use Rattle.std.proofs.lemmas.List.{same_lists, length-set, get_or-set_same, get_or-set_other, get_or-take, length-take-le, get_or_append_left, get_or-replicate, length-replicate, get_or_past}
use Rattle.std.proofs.lemmas.List.FromFn.{length-map-range_with_len, get_or-map-range_with_len}
use Rattle.std.proofs.lemmas.Nat.{div-add-mod', mod_below, div_below}
use Rattle.std.proofs.lemmas.Nat.Bits.{bit_at_set_same, bit_at_set_other, bit_at_clear_same, bit_at_clear_other}
use Rattle.pathspec_glob.specs.GlobCells.{has}
use Rattle.pathspec_glob.specs.BitVecs.{holds, words_hold, bits_of}
use Rattle.pathspec_glob.proofs.BitProofs.{has-zero}

pub put_true : (n k i : ℕ) → k < 64 → i < 64 → has (bit_or n (1 * 2 ^ k % 18446744073709551616)) i ≡ (if i == k then true else has n i)
put_true n k i h g = elim (cases_eq i k) [
  | inl e ↦ rw (eq-eqb i k e, e) (ap (λ x. x == 1) (bit_at_set_same w64 n k h))
  | inr d ↦ rw (ne_eqb i k d) (ap (λ x. x == 1) (bit_at_set_other w64 n k h i d))
]

pub put_false : (n k i : ℕ) → k < 64 → i < 64 → has (bit_and n (18446744073709551615 - 1 * 2 ^ k % 18446744073709551616)) i ≡ (if i == k then false else has n i)
put_false n k i h g = elim (cases_eq i k) [
  | inl e ↦ rw (eq-eqb i k e, e) (ap (λ x. x == 1) (bit_at_clear_same w64 n k h))
  | inr d ↦ rw (ne_eqb i k d) (ap (λ x. x == 1) (bit_at_clear_other w64 n k h i g d))
]

-- places of one word and one bit are one
same-place : (i p : ℕ) → i / 64 ≡ p / 64 → i % 64 ≡ p % 64 → i ≡ p
same-place i p w b = sym (div-add-mod' i 64) ∙ rw (w, b) (div-add-mod' p 64)

-- a row with one word put anew
pub row-put : (words : List ℕ) (p : ℕ) (word : ℕ) (value : Bool) → p < length words * 64
    → ((i : ℕ) → i < 64 → has word i ≡ (if i == p % 64 then value else has (get_or words (p / 64) 0) i))
    → (i : ℕ) → words_hold (set words (p / 64) word) i ≡ (if i == p then value else words_hold words i)
row-put words p word value within put i =
    let low : i % 64 < 64 = mod_below i 64 (omega arith) in
    let at : p / 64 < length words = div_below p 64 (length words) (omega arith) within in
    elim (cases_eq (i / 64) (p / 64)) [
      | inr d ↦
          let e : (i ≡ p → ⊥) = λ e. d (ap (λ x. x / 64) e) in
          rw (ne_eqb i p e, get_or-set_other words (p / 64) (i / 64) word 0 d) refl
      | inl w ↦
          let new : get_or (set words (p / 64) word) (i / 64) 0 ≡ word = rw w (get_or-set_same words (p / 64) word 0 at) in
          elim (cases_eq (i % 64) (p % 64)) [
            | inl b ↦ rw (eq-eqb i p (same-place i p w b), new) (put (i % 64) low ∙ rw (eq-eqb (i % 64) (p % 64) b) refl)
            | inr d ↦ rw (ne_eqb i p (λ e. d (ap (λ x. x % 64) e)), new) (put (i % 64) low ∙ rw (ne_eqb (i % 64) (p % 64) d, w) refl)
          ]
    ]

-- a row as truth values, with one place put anew
pub bits_of-put : (words new : List ℕ) (p : ℕ) (value : Bool) → ((i : ℕ) → words_hold new i ≡ (if i == p then value else words_hold words i))
    → (states : ℕ) → bits_of new states ≡ set (bits_of words states) p value
bits_of-put words new p value put states =
    let old = bits_of words states in
    let size : length old ≡ states = length-map-range_with_len (words_hold words) 0 states in
    let len : length (bits_of new states) ≡ states = length-map-range_with_len (words_hold new) 0 states in
    same_lists (bits_of new states) (set old p value) (len ∙ sym (length-set old p value ∙ size)) (λ k d h.
    let within : k < states = omega (arith, h, len) in
    get_or-map-range_with_len (words_hold new) 0 states k k d within (omega arith) ∙ put k ∙ elim (cases_eq k p) [
      | inl e ↦ rw (eq-eqb k p e, e) (sym (get_or-set_same old p value d (omega (arith, within, size, e))))
      | inr n ↦ rw (ne_eqb k p n, get_or-set_other old p k value d n) (sym (get_or-map-range_with_len (words_hold words) 0 states k k d within (omega arith)))
    ])

-- a row has as many values as it is said to
pub length-bits_of : (words : List ℕ) (states : ℕ) → length (bits_of words states) ≡ states
length-bits_of words states = length-map-range_with_len (words_hold words) 0 states

-- places of a row that is seen as this are so many
pub place-within : (words : List ℕ) (states : ℕ) (row : List Bool) (place : ℕ) → bits_of words states ≡ row → place < length row → place < states
place-within words states row place is within = omega (arith, within, ap length is, length-bits_of words states)

-- the value at a place
pub bits_of-holds : (words : List ℕ) (states place : ℕ) → place < states → holds (bits_of words states) place ≡ words_hold words place
bits_of-holds words states place h = get_or-map-range_with_len (words_hold words) 0 states place place false h (omega arith)

-- a word that is 0 holds no place
none-held : (words : List ℕ) (i : ℕ) → get_or words (i / 64) 0 ≡ 0 → words_hold words i ≡ false
none-held words i zero = rw zero (has-zero (i % 64))

-- words that are 0 up to a place make a row that is false there
pub bits_of-left : (words : List ℕ) (states count : ℕ) → count ≤ states → take count (bits_of (replicate (count / 64 + 1) 0 ++ drop (count / 64 + 1) words) states) ≡ replicate count false
bits_of-left words states count within =
    let new = replicate (count / 64 + 1) 0 ++ drop (count / 64 + 1) words in
    let row = bits_of new states in
    let size : length (take count row) ≡ count = length-take-le count row (omega (arith, within, length-bits_of new states)) in
    same_lists (take count row) (replicate count false) (size ∙ sym (length-replicate count false)) (λ k d h.
    let low : k < count = omega (arith, h, size) in
    let at : k / 64 < count / 64 + 1 = omega arith in
    let first : k / 64 < length (replicate {A = ℕ} (count / 64 + 1) 0) = omega (arith, at, length-replicate {A = ℕ} (count / 64 + 1) 0) in
    get_or-take count row k d low
    ∙ get_or-map-range_with_len (words_hold new) 0 states k k d (omega arith) (omega arith)
    ∙ none-held new k (get_or_append_left (replicate (count / 64 + 1) 0) (drop (count / 64 + 1) words) 0 (k / 64) first ∙ get_or-replicate (count / 64 + 1) (k / 64) 0 0 at)
    ∙ sym (get_or-replicate count k false d low))

pub bits_of-none : (states : ℕ) → bits_of (replicate (states / 64 + 1) 0) states ≡ replicate states false
bits_of-none states =
    let words : List ℕ = replicate (states / 64 + 1) 0 in
    let size : length (bits_of words states) ≡ states = length-bits_of words states in
    same_lists (bits_of words states) (replicate states false) (size ∙ sym (length-replicate states false)) (λ k d h.
    let low : k < states = omega (arith, h, size) in
    let at : k / 64 < states / 64 + 1 = omega arith in
    get_or-map-range_with_len (words_hold words) 0 states k k d low (omega arith)
    ∙ none-held words k (get_or-replicate (states / 64 + 1) (k / 64) 0 0 at)
    ∙ sym (get_or-replicate states k false d low))

-- A word where a row may end is one of its words.
pub word-within : (words : List ℕ) (states : ℕ) (row : List Bool) (index : ℕ) → bits_of words states ≡ row → index * 64 ≤ length row → index < states / 64 + 1
word-within words states row index is within =
    let low : index * 64 ≤ states = omega (arith, within, ap length is, length-bits_of words states) in
    omega (arith, low)

-- a row with one word put anew holds that word's places there
pub put-word-there : (words : List ℕ) (states index i word : ℕ) → index < length words → i < 64 → index * 64 + i < states
    → holds (bits_of (set words index word) states) (index * 64 + i) ≡ has word i
put-word-there words states index i word at low within =
    let whole : (index * 64 + i) / 64 ≡ index = omega (arith, low) in
    let part : (index * 64 + i) % 64 ≡ i = omega (arith, low) in
    bits_of-holds (set words index word) states (index * 64 + i) within
    ∙ rw (whole, part, get_or-set_same words index word 0 at) refl

-- and its other places as before
pub put-word-other : (words : List ℕ) (states index i word : ℕ) → (i / 64 ≡ index → ⊥)
    → holds (bits_of (set words index word) states) i ≡ holds (bits_of words states) i
put-word-other words states index i word other = elim (cases_lt i states) [
  | inl l ↦
      bits_of-holds (set words index word) states i l
      ∙ rw (get_or-set_other words index (i / 64) word 0 other) (sym (bits_of-holds words states i l))
  | inr g ↦
      get_or_past (bits_of (set words index word) states) i false (omega (arith, g, length-bits_of (set words index word) states))
      ∙ sym (get_or_past (bits_of words states) i false (omega (arith, g, length-bits_of words states)))
]

-- Where all words are 0, no place is held.
pub none-stands : (words : List ℕ) (states : ℕ) → ((k : ℕ) → k < length words → get_or words k 0 ≡ 0) → (i : ℕ) → holds (bits_of words states) i ≡ false
none-stands words states none i = elim (cases_lt i states) [
  | inl l ↦ bits_of-holds words states i l ∙ none-held words i (elim (cases_lt (i / 64) (length words)) [
    | inl low ↦ none (i / 64) low
    | inr past ↦ get_or_past words (i / 64) 0 past
  ])
  | inr g ↦ get_or_past (bits_of words states) i false (omega (arith, g, length-bits_of words states))
]
