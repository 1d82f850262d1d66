-- The places of a word, and what they lead to without a byte.
use Rattle.std.proofs.Common.{◌≡◌, ℕ, zero, suc, ◌+◌, ◌*◌, ◌^◌, ◌%◌, ◌<◌, ◌≤◌, Bool, true, false, not, ◌&&◌, ◌||◌, refl, sym, ◌∙◌, ap, arith, bit_and, bit_or, inl, inr, ◌-◌, ◌/◌, List, length, drop, ◌==◌}
use Rattle.std.specs.Prelude.{nat_lt}
use Rattle.std.proofs.Math.Bool.{or_assoc, or-true, or-false, and-false}
use Rattle.std.proofs.lemmas.Bool.{and_parts, cases_lt, or_cases, or_from, false≢true, true≢false, lt-ltb, le-ltb}
use Rattle.std.proofs.lemmas.Nat.Bits.{bit_at_above}
use Rattle.std.proofs.Math.ListN.{drop_of_length-le}
use Rattle.std.proofs.lemmas.Nat.{le_or_l}
use Rattle.pathspec_glob.proofs.Words.{Mode, Token, TokenList, is_wide_at, may_pass_over_at}
use Rattle.pathspec_glob.specs.GlobCells.{has, further}
use Rattle.pathspec_glob.specs.StateSets.{IsClosedWord, IsClosedBefore, Includes, with_carry, ClosesWord}
use Rattle.pathspec_glob.specs.declared.state_set.StateSet.{StateSet}
use Rattle.pathspec_glob.specs.BitVecs.{holds}
use Rattle.pathspec_glob.proofs.AcceptProofs.{over-next}
use Rattle.pathspec_glob.proofs.BitProofs.{has-and, has-or, has_further, has-shr, has-zero}

-- sets that are one below a place are one when moved on to it
pub further-same : (f g : ℕ → Bool) (i : ℕ) → ((j : ℕ) → j < i → f j ≡ g j) → further false f i ≡ further false g i
further-same f g zero same = refl
further-same f g (suc i) same = same i (omega arith)

-- places, and those that they lead to at once
abbrev pub followed : ℕ → ℕ → ℕ → ℕ → ℕ → Bool
followed states staying wide skippable i = has states i
    || (further false (λ j. (has states j || has staying j) && has wide j) i
    || further false (further false (λ j. has states j && has skippable j)) i)

-- a word with what its places lead to at once has those places
pub has_follow : (states staying wide skippable i : ℕ) → i < 64
    → has (bit_or (bit_or states (bit_and (bit_or states staying) wide * 2 ^ 1 % 2 ^ 64)) (bit_and states skippable * 2 ^ 1 % 2 ^ 64 * 2 ^ 1 % 2 ^ 64)) i
    ≡ followed states staying wide skippable i
has_follow states staying wide skippable i h =
    let next = bit_and (bit_or states staying) wide in
    let over = bit_and states skippable in
    let nexts : has (next * 2 ^ 1 % 2 ^ 64) i ≡ further false (λ j. (has states j || has staying j) && has wide j) i =
    has_further next i h
    ∙ further-same (has next) (λ j. (has states j || has staying j) && has wide j) i (λ j l. has-and (bit_or states staying) wide j ∙ ap (λ x. x && has wide j) (has-or states staying j)) in
    let skippable-once : (j : ℕ) → j < i → has (over * 2 ^ 1 % 2 ^ 64) j ≡ further false (λ k. has states k && has skippable k) j = λ j l.
    has_further over j (omega (arith, l, h))
    ∙ further-same (has over) (λ k. has states k && has skippable k) j (λ k m. has-and states skippable k) in
    let skippable-twice : has (over * 2 ^ 1 % 2 ^ 64 * 2 ^ 1 % 2 ^ 64) i ≡ further false (further false (λ j. has states j && has skippable j)) i =
    has_further (over * 2 ^ 1 % 2 ^ 64) i h
    ∙ further-same (has (over * 2 ^ 1 % 2 ^ 64)) (further false (λ j. has states j && has skippable j)) i skippable-once in
    has-or (bit_or states (next * 2 ^ 1 % 2 ^ 64)) (over * 2 ^ 1 % 2 ^ 64 * 2 ^ 1 % 2 ^ 64) i
    ∙ ap (λ x. x || has (over * 2 ^ 1 % 2 ^ 64 * 2 ^ 1 % 2 ^ 64) i) (has-or states (next * 2 ^ 1 % 2 ^ 64) i)
    ∙ rw (nexts, skippable-twice) (or_assoc (has states i) _ _)

-- no place is lost
pub follow_more : (a b c : ℕ) → a ≤ bit_or (bit_or a b) c
follow_more a b c = omega (arith, le_or_l a b, le_or_l (bit_or a b) c)

-- what places lead to at once is in each closed set that has them
next-least : (states staying wide skippable : ℕ) (all : ℕ → Bool) → IsClosedWord staying wide skippable all
    → ((i : ℕ) → i < 64 → has states i ≡ true → all i ≡ true)
    → (i : ℕ) → suc i < 64 → ((has states i || has staying i) && has wide i) ≡ true → all (suc i) ≡ true
next-least states staying wide skippable all closed least i h leads =
    let (from, at-wide) = and_parts (has states i || has staying i) (has wide i) leads in
    let stands : (all i || has staying i) ≡ true = elim (or_cases (has states i) (has staying i) from) [
      | inl p ↦ rw (least i (omega (arith, h)) p) refl
      | inr s ↦ rw s (or-true (all i))
    ] in
    closed.next i h stands at-wide

-- the same of what may be passed over
over-least : (states staying wide skippable : ℕ) (all : ℕ → Bool) → IsClosedWord staying wide skippable all
    → ((i : ℕ) → i < 64 → has states i ≡ true → all i ≡ true)
    → (i : ℕ) → suc (suc i) < 64 → (has states i && has skippable i) ≡ true → all (suc (suc i)) ≡ true
over-least states staying wide skippable all closed least i h leads =
    let (from, at-skippable) = and_parts (has states i) (has skippable i) leads in
    closed.over i h (least i (omega (arith, h)) from) at-skippable

-- a closed set that has the places has all that they lead to at once
pub follow-least : (states staying wide skippable : ℕ) (all : ℕ → Bool) → IsClosedWord staying wide skippable all
    → ((i : ℕ) → i < 64 → has states i ≡ true → all i ≡ true)
    → (i : ℕ) → i < 64 → followed states staying wide skippable i ≡ true → all i ≡ true
follow-least states staying wide skippable all closed least zero h leads =
    elim (or_cases (has states 0) false leads) [
      | inl p ↦ least 0 h p
      | inr wrong ↦ absurd (false≢true wrong)
    ]
follow-least states staying wide skippable all closed least (suc zero) h leads =
    elim (or_cases (has states 1) _ leads) [
      | inl p ↦ least 1 h p
      | inr more ↦ elim (or_cases _ false more) [
        | inl next ↦ next-least states staying wide skippable all closed least 0 h next
        | inr wrong ↦ absurd (false≢true wrong)
      ]
    ]
follow-least states staying wide skippable all closed least (suc (suc i)) h leads =
    elim (or_cases (has states (suc (suc i))) _ leads) [
      | inl p ↦ least (suc (suc i)) h p
      | inr more ↦ elim (or_cases _ (has states i && has skippable i) more) [
        | inl next ↦ next-least states staying wide skippable all closed least (suc i) h next
        | inr over ↦ over-least states staying wide skippable all closed least i h over
      ]
    ]

-- places stay among those that they lead to
pub follow-includes : (states staying wide skippable i : ℕ) → has states i ≡ true → followed states staying wide skippable i ≡ true
follow-includes states staying wide skippable i h = rw h refl

-- ---- one word of a row

-- no place behind the tokens leads on
wide-within : (ts : List Token) (i : ℕ) → is_wide_at (drop i ts) ≡ true → i < length ts
wide-within ts i h = elim (cases_lt i (length ts)) [
  | inl l ↦ l
  | inr g ↦ absurd (false≢true (rw (drop_of_length-le ts {i = i} g) at h))
]

-- what holds at a place holds at one that is the same
moved : (f : ℕ → Bool) (i j : ℕ) → f i ≡ true → i ≡ j → f j ≡ true
moved f i j h e = sym (ap f e) ∙ h

-- a place is before a word, in it or behind it
by-word : (m i : ℕ) (Q : ℕ → Type 0) → (i < m → Q i) → ((k : ℕ) → k < 64 → i ≡ m + k → Q (m + k)) → ((j : ℕ) → i ≡ m + 64 + j → Q (m + 64 + j)) → Q i
by-word m i Q low word high = elim (cases_lt i m) [
  | inl l ↦ low l
  | inr g ↦ elim (cases_lt i (m + 64)) [
    | inl l ↦
        let e : i ≡ m + (i - m) = omega (arith, g) in
        rw e (word (i - m) (omega (arith, l, g)) e)
    | inr g ↦
        let e : i ≡ m + 64 + (i - (m + 64)) = omega (arith, g) in
        rw e (high (i - (m + 64)) e)
  ]
]

-- The second set is the first, but with the closure of one word in it, and a carry behind it.
pub record ClosesOne (mode : Mode) (ts : List Token) (m come staying wide skippable states after : ℕ) (old new stays : ℕ → Bool) : Type 0 where
  pub low : (i : ℕ) → i < m → new i ≡ old i
  pub comes : (k : ℕ) → k < 64 → m + k ≤ length ts → old (m + k) ≡ has come k
  pub put : (k : ℕ) → k < 64 → m + k ≤ length ts → new (m + k) ≡ has states k
  pub high : (j : ℕ) → new (m + 64 + j) ≡ (old (m + 64 + j) || has after j)
  pub stay : (k : ℕ) → k < 64 → m + k < length ts → stays (m + k) ≡ has staying k
  pub at_wide : (k : ℕ) → k < 64 → m + k < length ts → has wide k ≡ is_wide_at (drop (m + k) ts)
  pub at_overs : (k : ℕ) → k < 64 → m + k < length ts → has skippable k ≡ may_pass_over_at mode (drop (m + k) ts)
  pub includes : (k : ℕ) → k < 64 → has come k ≡ true → has states k ≡ true
  pub closed : IsClosedWord staying wide skippable (has states)
  pub least : (all : ℕ → Bool) → ((k : ℕ) → k < 64 → has come k ≡ true → all k ≡ true)
      → IsClosedWord staying wide skippable all
      → (k : ℕ) → k < 64 → has states k ≡ true → all k ≡ true
  pub carry : has after 0 ≡ (((has states 63 || has staying 63) && has wide 63) || (has states 62 && has skippable 62))
  pub carry_second : has after 1 ≡ (has states 63 && has skippable 63)
  pub carry_few : (j : ℕ) → has after (suc (suc j)) ≡ false

-- no place is lost
pub one-includes : {mode : Mode} {ts : List Token} {m come staying wide skippable states after : ℕ} {old new stays : ℕ → Bool}
    → ClosesOne mode ts m come staying wide skippable states after old new stays
    → Includes (length ts) new old
one-includes {ts = ts} {m = m} {old = old} {new = new} one i within held =
    by-word m i (λ i. i ≤ length ts → old i ≡ true → new i ≡ true)
    (λ l _ h. one.low i l ∙ h)
    (λ k l e w h. one.put k l w ∙ one.includes k l (sym (one.comes k l w) ∙ h))
    (λ j e w h. one.high j ∙ rw h refl)
    within held

-- what is closed before the word is closed before the next one then
pub one-closed : {mode : Mode} {ts : List Token} {m come staying wide skippable states after : ℕ} {old new stays : ℕ → Bool}
    → ClosesOne mode ts m come staying wide skippable states after old new stays
    → IsClosedBefore m mode ts old stays → IsClosedBefore (m + 64) mode ts new stays
one-closed {mode = mode} {ts = ts} {m = m} {staying = staying} {wide = wide} {skippable = skippable} {states = states} {after = after} {old = old} {new = new} {stays = stays} one before =
    let more = one-includes one in
    record {
      next = λ i h from leads.
          let within = wide-within ts i leads in
          by-word m i (λ i. i < m + 64 → i < length ts → (new i || stays i) ≡ true → is_wide_at (drop i ts) ≡ true → new (suc i) ≡ true)
          (λ l _ w f s. more (suc i) (omega (arith, w)) (before.next i l (rw (sym (one.low i l)) f) s))
          (λ k l e _ w f s.
          let stands : (has states k || has staying k) ≡ true = rw (one.put k l (omega (arith, w)), one.stay k l w) at f in
          let at-wide : has wide k ≡ true = one.at_wide k l w ∙ s in
          elim (cases_lt (suc k) 64) [
            | inl l2 ↦ moved new (m + suc k) (suc (m + k)) (one.put (suc k) l2 (omega (arith, w)) ∙ one.closed.next k l2 stands at-wide) (omega arith)
            | inr g ↦
                let last : k ≡ 63 = omega (arith, l, g) in
                let carried : has after 0 ≡ true = one.carry ∙ rw (rw last at stands, rw last at at-wide) refl in
                moved new (m + 64 + 0) (suc (m + k)) (one.high 0 ∙ rw carried (or-true (old (m + 64 + 0)))) (omega (arith, last))
          ])
          (λ j e l w f s. absurd (let no : ⊥ = omega (arith, l) in no))
          h within from leads;
      over = λ i h from leads.
          let within = over-next mode i ts leads in
          by-word m i (λ i. i < m + 64 → suc i < length ts → new i ≡ true → may_pass_over_at mode (drop i ts) ≡ true → new (suc (suc i)) ≡ true)
          (λ l _ w f s. more (suc (suc i)) (omega (arith, w)) (before.over i l (sym (one.low i l) ∙ f) s))
          (λ k l e _ w f s.
          let stands : has states k ≡ true = sym (one.put k l (omega (arith, w))) ∙ f in
          let at-skippable : has skippable k ≡ true = one.at_overs k l (omega (arith, w)) ∙ s in
          elim (cases_lt (suc (suc k)) 64) [
            | inl l2 ↦ moved new (m + suc (suc k)) (suc (suc (m + k))) (one.put (suc (suc k)) l2 (omega (arith, w)) ∙ one.closed.over k l2 stands at-skippable) (omega arith)
            | inr g ↦ elim (cases_lt k 63) [
              | inl l3 ↦
                  let last : k ≡ 62 = omega (arith, l3, g) in
                  let carried : has after 0 ≡ true = one.carry ∙ rw (rw last at stands, rw last at at-skippable) (or-true ((has states 63 || has staying 63) && has wide 63)) in
                  moved new (m + 64 + 0) (suc (suc (m + k))) (one.high 0 ∙ rw carried (or-true (old (m + 64 + 0)))) (omega (arith, last))
              | inr g3 ↦
                  let last : k ≡ 63 = omega (arith, l, g3) in
                  let carried : has after 1 ≡ true = one.carry_second ∙ rw (rw last at stands, rw last at at-skippable) refl in
                  moved new (m + 64 + 1) (suc (suc (m + k))) (one.high 1 ∙ rw carried (or-true (old (m + 64 + 1)))) (omega (arith, last))
            ]
          ])
          (λ j e l w f s. absurd (let no : ⊥ = omega (arith, l) in no))
          h within from leads;
    }

-- the places of a word in a set, and all behind the tokens
abbrev word-of : ℕ → ℕ → (ℕ → Bool) → ℕ → Bool
word-of n m all k = all (m + k) || nat_lt n (m + k)

word-held : (n m : ℕ) (all : ℕ → Bool) (k : ℕ) → m + k ≤ n → word-of n m all k ≡ true → all (m + k) ≡ true
word-held n m all k within h = sym (or-false (all (m + k))) ∙ (rw (le-ltb n (m + k) within) at h)

word-holds : (n m : ℕ) (all : ℕ → Bool) (k : ℕ) → (m + k ≤ n → all (m + k) ≡ true) → word-of n m all k ≡ true
word-holds n m all k held = elim (cases_lt n (m + k)) [
  | inl l ↦ rw (lt-ltb n (m + k) l) (or-true (all (m + k)))
  | inr g ↦ rw (held g) refl
]

-- a closed set holds the word's closure
one-word : {mode : Mode} {ts : List Token} {m come staying wide skippable states after : ℕ} {old new stays : ℕ → Bool} (all : ℕ → Bool)
    → ClosesOne mode ts m come staying wide skippable states after old new stays
    → Includes (length ts) all old → IsClosedBefore (length ts) mode ts all stays
    → (k : ℕ) → k < 64 → m + k ≤ length ts → has states k ≡ true → all (m + k) ≡ true
one-word {ts = ts} {m = m} {come = come} {staying = staying} {wide = wide} {skippable = skippable} {states = states} {stays = stays} all one includes closed k l within held =
    let n = length ts in
    let word = word-of n m all in
    let comes : (k : ℕ) → k < 64 → has come k ≡ true → word k ≡ true = λ k l h.
    word-holds n m all k (λ w. includes (m + k) w (one.comes k l w ∙ h)) in
    let closes : IsClosedWord staying wide skippable word = record {
      next = λ k l from at-wide. word-holds n m all (suc k) (λ w.
          let short : m + k < n = omega (arith, w) in
          let low : k < 64 = omega (arith, l) in
          let stands : (all (m + k) || stays (m + k)) ≡ true = elim (or_cases (word k) (has staying k) from) [
            | inl p ↦ rw (word-held n m all k (omega (arith, short)) p) refl
            | inr s ↦ rw (one.stay k low short ∙ s) (or-true (all (m + k)))
          ] in
          moved all (suc (m + k)) (m + suc k) (closed.next (m + k) short stands (sym (one.at_wide k low short) ∙ at-wide)) (omega arith));
      over = λ k l from at-skippable. word-holds n m all (suc (suc k)) (λ w.
          let short : m + k < n = omega (arith, w) in
          let low : k < 64 = omega (arith, l) in
          let stands : all (m + k) ≡ true = word-held n m all k (omega (arith, short)) from in
          moved all (suc (suc (m + k))) (m + suc (suc k)) (closed.over (m + k) short stands (sym (one.at_overs k low short) ∙ at-skippable)) (omega arith));
    } in
    word-held n m all k within (one.least word comes closes k l held)

-- a closed set holds what the word leads to behind it
one-carry : {mode : Mode} {ts : List Token} {m come staying wide skippable states after : ℕ} {old new stays : ℕ → Bool} (all : ℕ → Bool)
    → ClosesOne mode ts m come staying wide skippable states after old new stays
    → Includes (length ts) all old → IsClosedBefore (length ts) mode ts all stays
    → (j : ℕ) → m + 64 + j ≤ length ts → has after j ≡ true → all (m + 64 + j) ≡ true
one-carry {ts = ts} {m = m} {staying = staying} {wide = wide} {skippable = skippable} {states = states} {stays = stays} all one includes closed zero within held =
    let short : m + 63 < length ts = omega (arith, within) in
    let held_word = one-word all one includes closed in
    elim (or_cases ((has states 63 || has staying 63) && has wide 63) (has states 62 && has skippable 62) (sym one.carry ∙ held)) [
      | inl next ↦
          let (from, at-wide) = and_parts (has states 63 || has staying 63) (has wide 63) next in
          let stands : (all (m + 63) || stays (m + 63)) ≡ true = elim (or_cases (has states 63) (has staying 63) from) [
            | inl p ↦ rw (held_word 63 (omega arith) (omega (arith, short)) p) refl
            | inr s ↦ rw (one.stay 63 (omega arith) short ∙ s) (or-true (all (m + 63)))
          ] in
          moved all (suc (m + 63)) (m + 64 + 0) (closed.next (m + 63) short stands (sym (one.at_wide 63 (omega arith) short) ∙ at-wide)) (omega arith)
      | inr over ↦
          let (from, at-skippable) = and_parts (has states 62) (has skippable 62) over in
          let short2 : m + 62 < length ts = omega (arith, within) in
          moved all (suc (suc (m + 62))) (m + 64 + 0) (closed.over (m + 62) short2 (held_word 62 (omega arith) (omega (arith, short2)) from) (sym (one.at_overs 62 (omega arith) short2) ∙ at-skippable)) (omega arith)
    ]
one-carry {ts = ts} {m = m} {staying = staying} {wide = wide} {skippable = skippable} {states = states} {stays = stays} all one includes closed (suc zero) within held =
    let short : m + 63 < length ts = omega (arith, within) in
    let held_word = one-word all one includes closed in
    let (from, at-skippable) = and_parts (has states 63) (has skippable 63) (sym one.carry_second ∙ held) in
    moved all (suc (suc (m + 63))) (m + 64 + 1) (closed.over (m + 63) short (held_word 63 (omega arith) (omega (arith, short)) from) (sym (one.at_overs 63 (omega arith) short) ∙ at-skippable)) (omega arith)
one-carry all one includes closed (suc (suc j)) within held =
    absurd (false≢true (sym (one.carry_few j) ∙ held))

-- a closed set that includes the old one includes the new one
pub one-least : {mode : Mode} {ts : List Token} {m come staying wide skippable states after : ℕ} {old new stays : ℕ → Bool} (all : ℕ → Bool)
    → ClosesOne mode ts m come staying wide skippable states after old new stays
    → Includes (length ts) all old → IsClosedBefore (length ts) mode ts all stays
    → Includes (length ts) all new
one-least {ts = ts} {m = m} {after = after} {old = old} {new = new} all one includes closed i within held =
    by-word m i (λ i. i ≤ length ts → new i ≡ true → all i ≡ true)
    (λ l w h. includes i w (sym (one.low i l) ∙ h))
    (λ k l e w h. one-word all one includes closed k l w (sym (one.put k l w) ∙ h))
    (λ j e w h. elim (or_cases (old (m + 64 + j)) (has after j) (sym (one.high j) ∙ h)) [
      | inl o ↦ includes (m + 64 + j) w o
      | inr c ↦ one-carry all one includes closed j w c
    ])
    within held

-- ---- a word of a row, with a carry

has-above : (n i : ℕ) → n < 2 ^ 64 → 64 ≤ i → has n i ≡ false
has-above n i fits h = ap (λ x. x == 1) (bit_at_above n 64 i fits h)

-- what a word leads to in the next
abbrev pub carry_of : ℕ → ℕ → ℕ → ℕ → ℕ
carry_of states staying wide skippable = bit_or (bit_and (bit_or states staying) wide / 2 ^ 63) (bit_and states skippable / 2 ^ 62)

has-carry : (states staying wide skippable j : ℕ) → has (carry_of states staying wide skippable) j
    ≡ (((has states (63 + j) || has staying (63 + j)) && has wide (63 + j)) || (has states (62 + j) && has skippable (62 + j)))
has-carry states staying wide skippable j =
    let next = bit_and (bit_or states staying) wide in
    let over = bit_and states skippable in
    has-or (next / 2 ^ 63) (over / 2 ^ 62) j
    ∙ rw (has-shr next 63 j, has-shr over 62 j, has-and (bit_or states staying) wide (63 + j), has-or states staying (63 + j), has-and states skippable (62 + j)) refl

has-carry_second : (states staying wide skippable : ℕ) → wide < 2 ^ 64 → has (carry_of states staying wide skippable) 1 ≡ (has states 63 && has skippable 63)
has-carry_second states staying wide skippable fits =
    let none : has wide 64 ≡ false = has-above wide 64 fits (omega arith) in
    has-carry states staying wide skippable 1
    ∙ ap (λ x. ((has states 64 || has staying 64) && x) || (has states 63 && has skippable 63)) none
    ∙ ap (λ x. x || (has states 63 && has skippable 63)) (and-false (has states 64 || has staying 64))

has-carry_few : (states staying wide skippable j : ℕ) → wide < 2 ^ 64 → skippable < 2 ^ 64 → has (carry_of states staying wide skippable) (suc (suc j)) ≡ false
has-carry_few states staying wide skippable j wide_fits overs_fits =
    let i = 63 + suc (suc j) in
    let k = 62 + suc (suc j) in
    let none : has wide i ≡ false = has-above wide i wide_fits (omega arith) in
    let no_over : has skippable k ≡ false = has-above skippable k overs_fits (omega arith) in
    has-carry states staying wide skippable (suc (suc j))
    ∙ ap (λ x. ((has states i || has staying i) && x) || (has states k && has skippable k)) none
    ∙ ap (λ x. ((has states i || has staying i) && false) || (has states k && x)) no_over
    ∙ rw (and-false (has states i || has staying i), and-false (has states k)) refl

-- an empty carry changes nothing
pub carry-none : (index : ℕ) (row : List Bool) (i : ℕ) → with_carry index 0 row i ≡ holds row i
carry-none index row i = rw (has-zero (i - index * 64), and-false (not (nat_lt i (index * 64)))) (or-false (holds row i))

-- a carry changes nothing before its word
pub carry-before : (index carry : ℕ) (row : List Bool) (i : ℕ) → i < index * 64 → with_carry index carry row i ≡ holds row i
carry-before index carry row i h = rw (lt-ltb i (index * 64) h) (or-false (holds row i))

-- a place that is neither come to nor stays isn't active
pub unheld : (e s : Bool) → e ≡ false → s ≡ false → (e || s) ≡ true → ⊥
unheld e s off none on = true≢false (sym on ∙ or_from e s off none)

-- from its word on, a carry adds its places
carry-word : (index carry : ℕ) (row : List Bool) (i k : ℕ) → i ≡ index * 64 + k → with_carry index carry row i ≡ (holds row i || has carry k)
carry-word index carry row i k e =
    let behind : index * 64 ≤ i = omega (arith, e) in
    let place : i - index * 64 ≡ k = omega (arith, e) in
    rw (le-ltb i (index * 64) behind, place) refl

-- the closure of a word, put in its row, makes such a set
pub word-closes : (parts : TokenList) (index before come_word staying_word wide_word overs_word states : ℕ) (old new staying wide skippable : List Bool)
    → length parts.tokens < length old → length parts.tokens ≤ length staying → length wide ≡ length parts.tokens → length skippable ≡ length wide
    → before < 2 ^ 64 → wide_word < 2 ^ 64 → overs_word < 2 ^ 64
    → ((i : ℕ) → i < length parts.tokens → holds wide i ≡ is_wide_at (drop i parts.tokens))
    → ((i : ℕ) → i < length parts.tokens → holds skippable i ≡ may_pass_over_at parts.mode (drop i parts.tokens))
    → ((i : ℕ) → i < 64 → index * 64 + i < length old → has come_word i ≡ holds old (index * 64 + i))
    → ((i : ℕ) → i < 64 → index * 64 + i < length staying → has staying_word i ≡ holds staying (index * 64 + i))
    → ((i : ℕ) → i < 64 → index * 64 + i < length wide → has wide_word i ≡ holds wide (index * 64 + i))
    → ((i : ℕ) → i < 64 → index * 64 + i < length skippable → has overs_word i ≡ holds skippable (index * 64 + i))
    → ((i : ℕ) → i < 64 → has (bit_or come_word before) i ≡ true → has states i ≡ true)
    → IsClosedWord staying_word wide_word overs_word (has states)
    → ((all : ℕ → Bool) → ((i : ℕ) → i < 64 → has (bit_or come_word before) i ≡ true → all i ≡ true)
    → IsClosedWord staying_word wide_word overs_word all
    → (i : ℕ) → i < 64 → has states i ≡ true → all i ≡ true)
    → ((i : ℕ) → i < 64 → index * 64 + i < length old → holds new (index * 64 + i) ≡ has states i)
    → ((i : ℕ) → i < index * 64 → holds new i ≡ holds old i)
    → ((i : ℕ) → suc index * 64 ≤ i → holds new i ≡ holds old i)
    → ClosesOne parts.mode parts.tokens (index * 64) (bit_or come_word before) staying_word wide_word overs_word states (carry_of states staying_word wide_word overs_word)
    (with_carry index before old) (with_carry (suc index) (carry_of states staying_word wide_word overs_word) new) (holds staying)
word-closes parts index before come_word staying_word wide_word overs_word states old new staying wide skippable long staying_long wide_long overs_long before_fits wide_fits overs_fits
    wide_is overs_is come_is staying_is wide_word_is overs_word_is includes closed least there new_before new_behind =
    let after = carry_of states staying_word wide_word overs_word in
    record {
      low = λ i l. carry-before (suc index) after new i (omega (arith, l)) ∙ new_before i l ∙ sym (carry-before index before old i l);
      comes = λ k l w. carry-word index before old (index * 64 + k) k refl
          ∙ sym (has-or come_word before k ∙ ap (λ x. x || has before k) (come_is k l (omega (arith, w, long))));
      put = λ k l w. carry-before (suc index) after new (index * 64 + k) (omega (arith, l)) ∙ there k l (omega (arith, w, long));
      high = λ j.
          let i = index * 64 + 64 + j in
          let none : has before (64 + j) ≡ false = has-above before (64 + j) before_fits (omega arith) in
          let same : with_carry index before old i ≡ holds old i = carry-word index before old i (64 + j) (omega arith) ∙ ap (λ x. holds old i || x) none ∙ or-false (holds old i) in
          carry-word (suc index) after new i j (omega arith) ∙ ap (λ x. x || has after j) (new_behind i (omega arith) ∙ sym same);
      stay = λ k l w. sym (staying_is k l (omega (arith, w, staying_long)));
      at_wide = λ k l w. wide_word_is k l (omega (arith, w, wide_long)) ∙ wide_is (index * 64 + k) w;
      at_overs = λ k l w. overs_word_is k l (omega (arith, w, wide_long, overs_long)) ∙ overs_is (index * 64 + k) w;
      includes = includes;
      closed = closed;
      least = least;
      carry = has-carry states staying_word wide_word overs_word 0;
      carry_second = has-carry_second states staying_word wide_word overs_word wide_fits;
      carry_few = λ j. has-carry_few states staying_word wide_word overs_word j wide_fits overs_fits;
    }

-- what is closed before a place is closed before each that isn't behind it
pub closed-to : (a b : ℕ) (mode : Mode) (ts : List Token) (states stays : ℕ → Bool) → b ≤ a → IsClosedBefore a mode ts states stays → IsClosedBefore b mode ts states stays
closed-to a b mode ts states stays e closed = record {
  next = λ i h from leads. closed.next i (omega (arith, h, e)) from leads;
  over = λ i h from leads. closed.over i (omega (arith, h, e)) from leads;
}

-- a word whose closure was put in it is closed
pub closes-word : (parts : TokenList) (index before come staying wide skippable states : ℕ) (old new : StateSet)
    → ClosesOne parts.mode parts.tokens (index * 64) come staying wide skippable states (carry_of states staying wide skippable)
    (with_carry index before old.entered) (with_carry (suc index) (carry_of states staying wide skippable) new.entered) (holds old.staying)
    → ClosesWord parts index before (carry_of states staying wide skippable) old new
closes-word parts index before come staying wide skippable states old new one =
    let m = index * 64 in
    let after = carry_of states staying wide skippable in
    let new_set = with_carry (suc index) after new.entered in
    let stays = holds old.staying in
    record {
      includes = one-includes one;
      closed = λ closed. closed-to (m + 64) (suc index * 64) parts.mode parts.tokens new_set stays (omega arith)
          (one-closed one closed);
      least = λ all includes closed. one-least all one includes closed;
    }
