-- Rows of places, word by word.
use Rattle.std.proofs.Common.{◌≡◌, ℕ, zero, suc, ◌+◌, ◌-◌, ◌*◌, ◌^◌, ◌%◌, ◌/◌, ◌<◌, ◌≤◌, Bool, true, false, ◌&&◌, ◌||◌, ◌==◌, refl, sym, ◌∙◌, ap, subst, arith, bit_and, bit_or, inl, inr, List, length, get_or}
use Rattle.std.proofs.Math.Bool.{or_assoc, or-false, and-false}
use Rattle.std.proofs.lemmas.Bool.{cases_lt, true≢false}
use Rattle.std.proofs.lemmas.Nat.Bits.{bit_at_above}
use Rattle.pathspec_glob.specs.GlobCells.{has, further}
use Rattle.pathspec_glob.specs.BitVecs.{holds}
use Rattle.pathspec_glob.proofs.BitProofs.{has-and, has-or, has_further, has-shr, has-zero}
use Rattle.pathspec_glob.proofs.ClosureProofs.{further-same}
use Rattle.pathspec_glob_set.specs.Rows.{is_settled, leads_on, IsCarried, IsCarriedWord, IsUncut}

-- rows that are one below a place lead to the same there
pub leads-same : (wide over f g : ℕ → Bool) (i : ℕ) → ((j : ℕ) → j < i → f j ≡ g j) → leads_on wide over f i ≡ leads_on wide over g i
leads-same wide over f g i same =
    let next : further false (λ j. f j && wide j) i ≡ further false (λ j. g j && wide j) i = further-same (λ j. f j && wide j) (λ j. g j && wide j) i (λ j h. ap (λ x. x && wide j) (same j h)) in
    let second : further false (further false (λ j. f j && over j)) i ≡ further false (further false (λ j. g j && over j)) i = further-same (further false (λ j. f j && over j)) (further false (λ j. g j && over j)) i
    (λ j h. further-same (λ j. f j && over j) (λ j. g j && over j) j (λ k l. ap (λ x. x && over k) (same k (omega (arith, h, l))))) in
    ap (λ x. x || further false (further false (λ j. f j && over j)) i) next ∙ ap (λ x. further false (λ j. g j && wide j) i || x) second

-- a word of what was entered, and what a row leads to at once
pub has_led : (entered row wide over i : ℕ) → i < 64
    → has (bit_or entered (bit_or (bit_and row wide * 2 ^ 1 % 2 ^ 64) (bit_and row over * 2 ^ 1 % 2 ^ 64 * 2 ^ 1 % 2 ^ 64))) i
    ≡ (has entered i || leads_on (has wide) (has over) (has row) i)
has_led entered row wide over i h =
    let next = bit_and row wide in
    let passed = bit_and row over in
    let nexts : has (next * 2 ^ 1 % 2 ^ 64) i ≡ further false (λ j. has row j && has wide j) i =
    has_further next i h ∙ further-same (has next) (λ j. has row j && has wide j) i (λ j l. has-and row wide j) in
    let once : (j : ℕ) → j < i → has (passed * 2 ^ 1 % 2 ^ 64) j ≡ further false (λ k. has row k && has over k) j = λ j l.
    has_further passed j (omega (arith, l, h)) ∙ further-same (has passed) (λ k. has row k && has over k) j (λ k m. has-and row over k) in
    let twice : has (passed * 2 ^ 1 % 2 ^ 64 * 2 ^ 1 % 2 ^ 64) i ≡ further false (further false (λ j. has row j && has over j)) i =
    has_further (passed * 2 ^ 1 % 2 ^ 64) i h ∙ further-same (has (passed * 2 ^ 1 % 2 ^ 64)) (further false (λ j. has row j && has over j)) i once in
    has-or entered (bit_or (next * 2 ^ 1 % 2 ^ 64) (passed * 2 ^ 1 % 2 ^ 64 * 2 ^ 1 % 2 ^ 64)) i
    ∙ ap (λ x. has entered i || x) (has-or (next * 2 ^ 1 % 2 ^ 64) (passed * 2 ^ 1 % 2 ^ 64 * 2 ^ 1 % 2 ^ 64) i)
    ∙ rw (nexts, twice) refl

-- a word of what a byte leads to from the taken places, with what the word before leads to
pub has_entered : (taken wide carry i : ℕ) → i < 64
    → has (bit_or (bit_or (taken * 2 ^ 1 % 2 ^ 64) carry) (bit_and taken wide)) i ≡ ((further false (has taken) i || has carry i) || (has taken i && has wide i))
has_entered taken wide carry i h =
    has-or (bit_or (taken * 2 ^ 1 % 2 ^ 64) carry) (bit_and taken wide) i
    ∙ ap (λ x. x || has (bit_and taken wide) i) (has-or (taken * 2 ^ 1 % 2 ^ 64) carry i ∙ ap (λ x. x || has carry i) (has_further taken i h))
    ∙ ap (λ x. (further false (has taken) i || has carry i) || x) (has-and taken wide i)

has-above : (n i : ℕ) → n < 2 ^ 64 → 64 ≤ i → has n i ≡ false
has-above n i fits h = ap (λ x. x == 1) (bit_at_above n 64 i fits h)

has-carried : (row wide over j : ℕ) → has (bit_or (bit_and row wide / 2 ^ 63) (bit_and row over / 2 ^ 62)) j
    ≡ ((has row (63 + j) && has wide (63 + j)) || (has row (62 + j) && has over (62 + j)))
has-carried row wide over j =
    has-or (bit_and row wide / 2 ^ 63) (bit_and row over / 2 ^ 62) j
    ∙ rw (has-shr (bit_and row wide) 63 j, has-shr (bit_and row over) 62 j, has-and row wide (63 + j), has-and row over (62 + j)) refl

-- what a word leads to in the next
pub word-carried : (row wide over : ℕ) → wide < 2 ^ 64 → over < 2 ^ 64 → IsCarriedWord row wide over (bit_or (bit_and row wide / 2 ^ 63) (bit_and row over / 2 ^ 62))
word-carried row wide over wide_fits over_fits = record {
  first = has-carried row wide over 0;
  second =
      has-carried row wide over 1
      ∙ ap (λ x. (has row 64 && x) || (has row 63 && has over 63)) (has-above wide 64 wide_fits (omega arith))
      ∙ ap (λ x. x || (has row 63 && has over 63)) (and-false (has row 64));
  none = λ k.
      let i = 63 + suc (suc k) in
      let j = 62 + suc (suc k) in
      has-carried row wide over (suc (suc k))
      ∙ ap (λ x. (has row i && x) || (has row j && has over j)) (has-above wide i wide_fits (omega arith))
      ∙ ap (λ x. (has row i && false) || (has row j && x)) (has-above over j over_fits (omega arith))
      ∙ rw (and-false (has row i), and-false (has row j)) refl;
}

swapped : (a b : Bool) → (a || b) ≡ (b || (a || false))
swapped true true = refl
swapped true false = refl
swapped false true = refl
swapped false false = refl

-- From a place on, a row leads to what its places from there lead to, and to what those before do.
pub joined : (wide over row w o c : ℕ → Bool) (from carry k : ℕ) → IsCarried wide over row from carry
    → ((j : ℕ) → j < k → wide (from + j) ≡ w j) → ((j : ℕ) → j < k → over (from + j) ≡ o j) → ((j : ℕ) → j < k → row (from + j) ≡ c j)
    → leads_on wide over row (from + k) ≡ (has carry k || leads_on w o c k)
joined wide over row w o c from carry zero carried ws os cs =
    let here : from + 0 ≡ from = omega arith in
    ap (leads_on wide over row) here ∙ sym carried.first ∙ sym (or-false (has carry 0))
joined wide over row w o c from carry (suc zero) carried ws os cs =
    let here : from + 1 ≡ suc from = omega arith in
    let there : from + 0 ≡ from = omega arith in
    let held : row from ≡ c 0 = sym (ap row there) ∙ cs 0 (omega arith) in
    let widens : wide from ≡ w 0 = sym (ap wide there) ∙ ws 0 (omega arith) in
    ap (leads_on wide over row) here
    ∙ ap (λ x. (x && wide from) || further false (λ j. row j && over j) from) held
    ∙ ap (λ x. (c 0 && x) || further false (λ j. row j && over j) from) widens
    ∙ ap (λ x. (c 0 && w 0) || x) (sym carried.second)
    ∙ swapped (c 0 && w 0) (has carry 1)
joined wide over row w o c from carry (suc (suc k)) carried ws os cs =
    let here : from + suc (suc k) ≡ suc (suc (from + k)) = omega arith in
    let there : from + suc k ≡ suc (from + k) = omega arith in
    let held : row (suc (from + k)) ≡ c (suc k) = sym (ap row there) ∙ cs (suc k) (omega arith) in
    let widens : wide (suc (from + k)) ≡ w (suc k) = sym (ap wide there) ∙ ws (suc k) (omega arith) in
    ap (leads_on wide over row) here
    ∙ ap (λ x. (x && wide (suc (from + k))) || (row (from + k) && over (from + k))) held
    ∙ ap (λ x. (c (suc k) && x) || (row (from + k) && over (from + k))) widens
    ∙ ap (λ x. (c (suc k) && w (suc k)) || (x && over (from + k))) (cs k (omega arith))
    ∙ ap (λ x. (c (suc k) && w (suc k)) || (c k && x)) (os k (omega arith))
    ∙ ap (λ x. x || leads_on w o c (suc (suc k))) (sym (carried.none k))

-- what a word leads to is carried to the next
pub carried-next : (wide over row : ℕ → Bool) (from word w o carry : ℕ) → IsCarriedWord word w o carry
    → ((j : ℕ) → j < 64 → wide (from + j) ≡ has w j) → ((j : ℕ) → j < 64 → over (from + j) ≡ has o j) → ((j : ℕ) → j < 64 → row (from + j) ≡ has word j)
    → IsCarried wide over row (from + 64) carry
carried-next wide over row from word w o carry carries ws os cs =
    let here : from + 64 ≡ suc (suc (from + 62)) = omega arith in
    let once : from + 64 ≡ suc (from + 63) = omega arith in
    let last : suc (from + 62) ≡ from + 63 = omega arith in
    record {
      first =
          carries.first
          ∙ ap (λ x. (x && has w 63) || (has word 62 && has o 62)) (sym (ap row last ∙ cs 63 (omega arith)))
          ∙ ap (λ x. (row (suc (from + 62)) && x) || (has word 62 && has o 62)) (sym (ap wide last ∙ ws 63 (omega arith)))
          ∙ ap (λ x. (row (suc (from + 62)) && wide (suc (from + 62))) || (x && has o 62)) (sym (cs 62 (omega arith)))
          ∙ ap (λ x. (row (suc (from + 62)) && wide (suc (from + 62))) || (row (from + 62) && x)) (sym (os 62 (omega arith)))
          ∙ sym (ap (leads_on wide over row) here);
      second =
          carries.second
          ∙ ap (λ x. x && has o 63) (sym (cs 63 (omega arith)))
          ∙ ap (λ x. row (from + 63) && x) (sym (os 63 (omega arith)))
          ∙ sym (ap (further false (λ j. row j && over j)) once);
      none = carries.none;
    }

-- rows that are one before a place are carried alike
carried-same : (wide over f g : ℕ → Bool) (from carry : ℕ) → ((j : ℕ) → j < from → g j ≡ f j) → IsCarried wide over f from carry → IsCarried wide over g from carry
carried-same wide over f g from carry same was = record {
  first = was.first ∙ sym (leads-same wide over g f from same);
  second = was.second ∙ sym (further-same (λ j. g j && over j) (λ j. f j && over j) from (λ j h. ap (λ x. x && over j) (same j h)));
  none = was.none;
}

-- nothing is carried to the first word
pub carried-none : (wide over row : ℕ → Bool) → IsCarried wide over row 0 0
carried-none wide over row = record { first = has-zero 0; second = has-zero 1; none = λ k. has-zero (suc (suc k)) }

-- ---- a row that is closed word by word

-- one word more of a row is closed
pub close-more : (wide over old row new : List Bool) (size from word carry w o closed : ℕ)
    → length row ≡ size
    → ((i : ℕ) → i < from → i < size → holds row i ≡ (holds old i || leads_on (holds wide) (holds over) (holds row) i))
    → ((i : ℕ) → from ≤ i → holds row i ≡ holds old i)
    → (from < size → IsCarried (holds wide) (holds over) (holds row) from carry)
    → ((j : ℕ) → j < 64 → from + j < size → has word j ≡ holds row (from + j))
    → ((j : ℕ) → j < 64 → from + j < size → holds wide (from + j) ≡ has w j) → ((j : ℕ) → j < 64 → from + j < size → holds over (from + j) ≡ has o j)
    → ((j : ℕ) → j < 64 → has closed j ≡ (has (bit_or word carry) j || leads_on (has w) (has o) (has closed) j))
    → ((j : ℕ) → j < 64 → from + j < size → holds new (from + j) ≡ has closed j)
    → ((i : ℕ) → i < from → holds new i ≡ holds row i)
    → (i : ℕ) → i < from + 64 → i < size → holds new i ≡ (holds old i || leads_on (holds wide) (holds over) (holds new) i)
close-more wide over old row new size from word carry w o closed len done behind carried words ws os closes there before i low within = elim (cases_lt i from) [
  | inl l ↦
      before i l ∙ done i l within
      ∙ ap (λ x. holds old i || x) (leads-same (holds wide) (holds over) (holds row) (holds new) i (λ j h. sym (before j (omega (arith, h, l)))))
  | inr g ↦
      let k = i - from in
      let small : k < 64 = omega (arith, low, g) in
      let at : from + k ≡ i = omega (arith, g) in
      let inside : from + k < size = omega (arith, at, within) in
      let begun : from < size = omega (arith, g, within) in
      let carry_new = carried-same (holds wide) (holds over) (holds row) (holds new) from carry before (carried begun) in
      let leads : leads_on (holds wide) (holds over) (holds new) (from + k) ≡ (has carry k || leads_on (has w) (has o) (has closed) k) =
      joined (holds wide) (holds over) (holds new) (has w) (has o) (has closed) from carry k carry_new
      (λ j h. ws j (omega (arith, h, small)) (omega (arith, h, inside))) (λ j h. os j (omega (arith, h, small)) (omega (arith, h, inside))) (λ j h. there j (omega (arith, h, small)) (omega (arith, h, inside))) in
      let all : holds new (from + k) ≡ (holds old (from + k) || leads_on (holds wide) (holds over) (holds new) (from + k)) =
      there k small inside
      ∙ closes k small
      ∙ ap (λ x. x || leads_on (has w) (has o) (has closed) k) (has-or word carry k ∙ ap (λ x. x || has carry k) (words k small inside ∙ behind (from + k) (omega arith)))
      ∙ or_assoc (holds old (from + k)) (has carry k) (leads_on (has w) (has o) (has closed) k)
      ∙ ap (λ x. holds old (from + k) || x) (sym leads) in
      subst (λ p. holds new p ≡ (holds old p || leads_on (holds wide) (holds over) (holds new) p)) at all
]

-- ---- a row that is entered word by word

-- a word of what a byte leads to is the row's
pub enter-word : (taken wide : ℕ → Bool) (from word w carry k : ℕ) → has carry 0 ≡ further false taken from → ((j : ℕ) → has carry (suc j) ≡ false)
    → ((j : ℕ) → j ≤ k → has word j ≡ taken (from + j)) → has w k ≡ wide (from + k)
    → ((further false (has word) k || has carry k) || (has word k && has w k)) ≡ (further false taken (from + k) || (taken (from + k) && wide (from + k)))
enter-word taken wide from word w carry zero first none is widens =
    let here : from ≡ from + 0 = omega arith in
    ap (λ x. x || (has word 0 && has w 0)) (first ∙ ap (further false taken) here)
    ∙ ap (λ x. further false taken (from + 0) || (x && has w 0)) (is 0 (omega arith))
    ∙ ap (λ x. further false taken (from + 0) || (taken (from + 0) && x)) widens
enter-word taken wide from word w carry (suc k) first none is widens =
    let here : suc (from + k) ≡ from + suc k = omega arith in
    ap (λ x. (has word k || x) || (has word (suc k) && has w (suc k))) (none k)
    ∙ ap (λ x. x || (has word (suc k) && has w (suc k))) (or-false (has word k) ∙ is k (omega arith) ∙ ap (further false taken) here)
    ∙ ap (λ x. further false taken (from + suc k) || (x && has w (suc k))) (is (suc k) (omega arith))
    ∙ ap (λ x. further false taken (from + suc k) || (taken (from + suc k) && x)) widens

-- the last place of a word, carried to the next
pub shifted-last : (held takers : ℕ) → held < 2 ^ 64 → (has (bit_and held takers / 2 ^ 63) 0 ≡ has (bit_and held takers) 63) × ((k : ℕ) → has (bit_and held takers / 2 ^ 63) (suc k) ≡ false)
shifted-last held takers fits = (
  has-shr (bit_and held takers) 63 0,
  λ k. has-shr (bit_and held takers) 63 (suc k) ∙ has-and held takers (63 + suc k)
      ∙ ap (λ x. x && has takers (63 + suc k)) (has-above held (63 + suc k) fits (omega arith)),
)

-- ---- the cut

-- what isn't cut off behind a place isn't before it
pub uncut-before : (cuts : List Bool) (ends : List ℕ) (row : List Bool) (j i : ℕ) → j ≤ i → IsUncut cuts ends row i → IsUncut cuts ends row j
uncut-before cuts ends row j i low uncut g within less = uncut g within (omega (arith, low, less))

-- what is left out stands behind a glob that is settled, and stays so
pub cut-kept : (cuts : List Bool) (ends : List ℕ) (old new : List Bool) (settled : ℕ) → settled < length ends
    → is_settled cuts old (get_or ends settled 0) ≡ true → ((i : ℕ) → i ≤ get_or ends settled 0 → holds new i ≡ holds old i)
    → (i : ℕ) → IsUncut cuts ends new i → holds new i ≡ holds old i
cut-kept cuts ends old new settled within is kept i uncut = elim (cases_lt (get_or ends settled 0) i) [
  | inr n ↦ kept i n
  | inl l ↦
      let end = get_or ends settled 0 in
      absurd (true≢false (sym is ∙ ap (λ x. x && holds cuts (end - 1)) (sym (kept (end - 1) (omega arith))) ∙ uncut settled within l))
]
