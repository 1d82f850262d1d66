-- The step by a byte, word by word.
use Rattle.std.proofs.Common.{◌≡◌, ℕ, zero, suc, ◌+◌, ◌-◌, ◌*◌, ◌^◌, ◌%◌, ◌<◌, ◌≤◌, ◌==◌, Bool, true, false, not, ◌&&◌, ◌||◌, nat_lt, List, length, refl, sym, ◌∙◌, ap, arith, inl, inr, if◌then◌else◌, bit_and, bit_or}
use Rattle.std.proofs.lemmas.Bool.{cases_eq, cases_lt, lt-ltb, le-ltb, eq-eqb, ne_eqb, and_parts, and_right, or_parts, or_from, true≢false}
use Rattle.std.proofs.Math.Bool.{and-true, or-false}
use Rattle.std.proofs.lemmas.List.{get_or_past}
use Rattle.std.proofs.Math.ListN.{drop_of_length-le}
use Rattle.std.specs.Int.Count.{count_trailing_zeros}
use Rattle.pathspec_glob.proofs.Words.{Case, TokenList, token_takes, takes_at}
use Rattle.pathspec_glob.specs.GlobCells.{has}
use Rattle.pathspec_glob.specs.declared.state_set.StateSet.{StateSet}
use Rattle.pathspec_glob.specs.StateSets.{arrives, is_active, stays}
use Rattle.pathspec_glob.specs.BitVecs.{holds}
use Rattle.pathspec_glob.proofs.BitProofs.{alone, has-and, has_not, has-or, has-shl, has-shl_first, has-zero, below-lowest, lowest-stands, without-lowest}
use Rattle.pathspec_glob.proofs.BitVecProofs.{put_true}

-- ---- a loop over the places of a word, lowest first

-- behind the tokens none takes a byte
pub behind-none : (parts : TokenList) (case : Case) (place b : ℕ) → length parts.tokens ≤ place → token_takes parts case place b ≡ false
behind-none parts case place b past = ap (λ ts. takes_at parts.mode case ts b) (drop_of_length-le parts.tokens {i = place} past)

-- a word has the places of another from this one on
abbrev pub IsOpen : ℕ → ℕ → ℕ → Type 0
IsOpen held seen rest = (i : ℕ) → i < 64 → has rest i ≡ (has held i && not (nat_lt i seen))

-- the lowest place of those that are left, the next after it, and those before it
pub record IsNext (held seen rest next : ℕ) : Type 0 where
  pub fits : next < 64
  pub from : seen ≤ next
  pub stands : has held next ≡ true
  pub between : (i : ℕ) → seen ≤ i → i < next → has held i ≡ false
  pub further : IsOpen held (next + 1) (bit_and rest (rest - 1))

not-below : (i seen : ℕ) → not (nat_lt i seen) ≡ true → seen ≤ i
not-below i seen e = elim (cases_lt i seen) [
  | inl l ↦ absurd (true≢false (sym e ∙ rw (lt-ltb i seen l) refl))
  | inr g ↦ g
]

pub next-open : (held seen rest : ℕ) → 0 < rest → rest < 2 ^ 64 → IsOpen held seen rest → IsNext held seen rest (count_trailing_zeros 64 rest)
next-open held seen rest some fits opened =
    let next = count_trailing_zeros 64 rest in
    let lowest = lowest-stands rest some fits in
    let parts = and_parts (has held next) (not (nat_lt next seen)) (sym (opened next lowest.0) ∙ lowest.1) in
    let from : seen ≤ next = not-below next seen parts.1 in
    record {
      fits = lowest.0;
      from = from;
      stands = parts.0;
      between = λ i above below.
          sym (opened i (omega (arith, below, lowest.0)) ∙ rw (le-ltb i seen above) (and-true (has held i))) ∙ below-lowest rest i fits below;
      further = λ i h. without-lowest rest i some fits ∙ elim (cases_lt i (next + 1)) [
        | inl l ↦ elim (cases_eq i next) [
          | inl e ↦ rw (lt-ltb i (next + 1) l, eq-eqb i next e) (and_right (has rest i) false refl ∙ sym (and_right (has held i) false refl))
          | inr d ↦ rw (lt-ltb i (next + 1) l, below-lowest rest i fits (omega (arith, l, d))) (sym (and_right (has held i) false refl))
        ]
        | inr g ↦
            let past : i ≡ next → ⊥ = λ e. (let no : ⊥ = omega (arith, e, g) in no) in
            rw (le-ltb i (next + 1) g, ne_eqb i next past) (and-true (has rest i) ∙ opened i h ∙ rw (le-ltb i seen (omega (arith, g, from))) refl)
      ];
    }

-- a word has what is taken of the places before this one
abbrev pub IsTaken : ℕ → (ℕ → Bool) → ℕ → ℕ → Type 0
IsTaken held takes seen taken = (i : ℕ) → i < 64 → has taken i ≡ (nat_lt i seen && (has held i && takes i))

pub next-taken : (held seen rest next taken more : ℕ) (takes : ℕ → Bool) → IsNext held seen rest next → IsTaken held takes seen taken
    → ((i : ℕ) → i < 64 → has more i ≡ (if i == next then takes next else has taken i)) → IsTaken held takes (next + 1) more
next-taken held seen rest next taken more takes is_next is put i h = put i h ∙ elim (cases_eq i next) [
  | inl e ↦ rw (eq-eqb i next e, lt-ltb i (next + 1) (omega (arith, e)), e, is_next.stands) refl
  | inr d ↦ rw (ne_eqb i next d) (is i h ∙ elim (cases_lt i next) [
    | inl l ↦ elim (cases_lt i seen) [
      | inl b ↦ rw (lt-ltb i seen b, lt-ltb i (next + 1) (omega (arith, l))) refl
      | inr g ↦ rw (le-ltb i seen g, lt-ltb i (next + 1) (omega (arith, l)), is_next.between i g l) refl
    ]
    | inr g ↦ rw (le-ltb i seen (omega (arith, g, is_next.from)), le-ltb i (next + 1) (omega (arith, g, d))) refl
  ])
]

-- the lowest place that is left is none of those before
pub lowest-from : (held seen rest : ℕ) → seen ≤ 64 → rest < 2 ^ 64 → IsOpen held seen rest → seen ≤ count_trailing_zeros 64 rest
unfolding count_trailing_zeros
lowest-from held seen rest few fits opened = elim (cases_eq rest 0) [
  | inl e ↦ rw e few
  | inr d ↦ (next-open held seen rest (omega (arith, d)) fits opened).from
]

-- a word with the places of another from one on has those from its lowest on
pub open-lowest : (held seen rest : ℕ) → rest < 2 ^ 64 → seen ≤ count_trailing_zeros 64 rest → IsOpen held seen rest → IsOpen held (count_trailing_zeros 64 rest) rest
open-lowest held seen rest fits further opened i h = elim (cases_lt i (count_trailing_zeros 64 rest)) [
  | inl l ↦ rw (lt-ltb i (count_trailing_zeros 64 rest) l) (below-lowest rest i fits l ∙ sym (and_right (has held i) false refl))
  | inr g ↦ opened i h ∙ rw (le-ltb i (count_trailing_zeros 64 rest) g, le-ltb i seen (omega (arith, g, further))) refl
]

-- what was taken before a place was taken before the lowest that is left from there on
pub taken-lowest : (held : ℕ) (takes : ℕ → Bool) (seen rest taken : ℕ) → rest < 2 ^ 64 → seen ≤ count_trailing_zeros 64 rest → IsOpen held seen rest
    → IsTaken held takes seen taken → IsTaken held takes (count_trailing_zeros 64 rest) taken
taken-lowest held takes seen rest taken fits further opened is i h = is i h ∙ elim (cases_lt i seen) [
  | inl l ↦ rw (lt-ltb i seen l, lt-ltb i (count_trailing_zeros 64 rest) (omega (arith, l, further))) refl
  | inr g ↦ elim (cases_lt i (count_trailing_zeros 64 rest)) [
    | inl l ↦
        let off : has held i ≡ false = sym (and-true (has held i)) ∙ (rw (le-ltb i seen g) at (sym (opened i h))) ∙ below-lowest rest i fits l in
        rw (le-ltb i seen g, lt-ltb i (count_trailing_zeros 64 rest) l, off) refl
    | inr m ↦ rw (le-ltb i seen g, le-ltb i (count_trailing_zeros 64 rest) m) refl
  ]
]

-- at first all places are left, and none is taken
pub first-open : (held : ℕ) → IsOpen held 0 held
first-open held i h = rw (le-ltb i 0 (omega arith)) (sym (and-true (has held i)))

pub first-taken : (held : ℕ) (takes : ℕ → Bool) → IsTaken held takes 0 0
first-taken held takes i h = rw (le-ltb i 0 (omega arith)) (has-zero i)

-- a place that is taken is put into the word, and another is not in it
pub put-taken : (held seen rest next taken : ℕ) (takes : ℕ → Bool) → IsNext held seen rest next → takes next ≡ true
    → (i : ℕ) → i < 64 → has (bit_or taken (1 * 2 ^ next % 18446744073709551616)) i ≡ (if i == next then takes next else has taken i)
put-taken held seen rest next taken takes is_next on i h = rw on (put_true taken next i is_next.fits h)

pub leave-taken : (held seen rest next taken : ℕ) (takes : ℕ → Bool) → IsNext held seen rest next → IsTaken held takes seen taken → takes next ≡ false
    → (i : ℕ) → i < 64 → has taken i ≡ (if i == next then takes next else has taken i)
leave-taken held seen rest next taken takes is_next is off i h = elim (cases_eq i next) [
  | inl e ↦ rw (eq-eqb i next e, off) (is i h ∙ rw (le-ltb i seen (omega (arith, e, is_next.from))) refl)
  | inr d ↦ rw (ne_eqb i next d) refl
]

-- where the next place is behind the tokens, all is taken
pub all-taken : (held seen rest next taken from most : ℕ) (takes : ℕ → Bool) → IsNext held seen rest next → IsTaken held takes seen taken
    → ((i : ℕ) → most ≤ from + i → takes i ≡ false) → most ≤ from + next → (i : ℕ) → i < 64 → has taken i ≡ (has held i && takes i)
all-taken held seen rest next taken from most takes is_next is behind past i h = is i h ∙ elim (cases_lt i seen) [
  | inl l ↦ rw (lt-ltb i seen l) refl
  | inr g ↦ elim (cases_lt i next) [
    | inl l ↦ rw (le-ltb i seen g, is_next.between i g l) refl
    | inr m ↦ rw (le-ltb i seen g) (sym (and_right (has held i) (takes i) (behind i (omega (arith, m, past)))))
  ]
]

-- ---- words of rows

-- a row has no place that its word doesn't have
not-of-row : (row : List Bool) (place i word : ℕ) → (place + i < length row → has word i ≡ holds row (place + i)) → has word i ≡ false → holds row (place + i) ≡ false
not-of-row row place i word same off = elim (cases_lt (place + i) (length row)) [
  | inl l ↦ sym (same l) ∙ off
  | inr g ↦ get_or_past row (place + i) false g
]

-- where two words together are 0, their rows have none of their places
pub not-of-bits : (E S : List Bool) (place i entered staying : ℕ)
    → (place + i < length E → has entered i ≡ holds E (place + i)) → (place + i < length S → has staying i ≡ holds S (place + i))
    → bit_or entered staying ≡ 0 → (holds E (place + i) || holds S (place + i)) ≡ false
not-of-bits E S place i entered staying e s none =
    let off = or_parts (has entered i) (has staying i) (sym (has-or entered staying i) ∙ rw none (has-zero i)) in
    or_from (holds E (place + i)) (holds S (place + i)) (not-of-row E place i entered e off.0) (not-of-row S place i staying s off.1)

-- the places of a word that aren't of another
pub has-but : (n m i : ℕ) → m < 2 ^ 64 → i < 64 → has (bit_and n (18446744073709551615 - m)) i ≡ (has n i && not (has m i))
has-but n m i fits h = has-and n (18446744073709551615 - m) i ∙ ap (λ b. has n i && b) (has_not m i fits h)

-- a word of at most one place, and that the first, has no other
pub only-first : (n i : ℕ) → n < 2 → has n (suc i) ≡ false
only-first zero i h = has-zero (suc i)
only-first (suc zero) i h = alone i
only-first (suc (suc n)) i h = absurd (let no : ⊥ = omega (arith, h) in no)

-- a word with each place one further, and what is carried to the first
pub carried-first : (n carry : ℕ) → has (bit_or (n * 2 ^ 1 % 18446744073709551616) carry) 0 ≡ has carry 0
carried-first n carry = has-or (n * 2 ^ 1 % 18446744073709551616) carry 0 ∙ rw (has-shl_first n) refl

pub carried-further : (n carry i : ℕ) → carry < 2 → suc i < 64 → has (bit_or (n * 2 ^ 1 % 18446744073709551616) carry) (suc i) ≡ has n i
carried-further n carry i few h = has-or (n * 2 ^ 1 % 18446744073709551616) carry (suc i) ∙ rw (only-first carry i few, has-shl n i h) (or-false (has n i))

-- ---- what a byte leads to, place by place

-- a place before which none is active isn't led to
pub arrives-none : (parts : TokenList) (case : Case) (states : StateSet) (b i : ℕ) → ((j : ℕ) → suc j ≡ i → is_active states j ≡ false) → arrives parts case states b i ≡ false
arrives-none parts case states b zero none = refl
arrives-none parts case states b (suc i) none = rw (none i refl) refl

-- a place that isn't active doesn't stay
pub stays-none : (parts : TokenList) (case : Case) (states : StateSet) (b i : ℕ) → is_active states i ≡ false → stays parts case states b i ≡ false
stays-none parts case states b i none = rw none refl

-- behind the tokens no place is led to
pub arrives-behind : (parts : TokenList) (case : Case) (states : StateSet) (b i : ℕ) → length parts.tokens ≤ i → arrives parts case states b (suc i) ≡ false
arrives-behind parts case states b i past = rw (behind-none parts case i b past, and_right (is_active states i) false refl) refl

-- a place that is led to is one of the tokens or the end
pub arrives-within : (parts : TokenList) (case : Case) (states : StateSet) (b i : ℕ) → arrives parts case states b i ≡ true → i ≤ length parts.tokens
arrives-within parts case states b zero on = omega arith
arrives-within parts case states b (suc i) on = elim (cases_lt i (length parts.tokens)) [
  | inl l ↦ omega arith
  | inr g ↦ absurd (true≢false (sym on ∙ arrives-behind parts case states b i g))
]
