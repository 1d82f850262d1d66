-- Each round puts in the next byte, where the class has it.
use Rattle.std.proofs.Common.{◌≡◌, ◌+◌, ◌==◌, ◌||◌, ◌&&◌, ℕ, Bool, true, false, nat_lt, ◌∙◌, inl, inr, refl, arith}
use Rattle.std.proofs.lemmas.Bool.{cases_eq, cases_lt, eq-eqb, ne_eqb, lt-ltb, le-ltb}
use Rattle.pathspec_glob.proofs.Words.{class_name, passes, class_of}
use Rattle.pathspec_glob.proofs.sets.ByteSet.insert_class.Goals.{then-holds, else-holds}
use Rattle.pathspec_glob.proofs.sets.ByteSet.insert_class.Goals as goal

one-more : (has : ℕ → Bool) (byte b : ℕ) (x : Bool) → has byte ≡ true
    → ((x || (nat_lt b byte && has b)) || byte == b) ≡ (x || (nat_lt b (byte + 1) && has b))
one-more has byte b x on = elim (cases_eq b byte) [
  | inl e ↦ rw (e, on, eq-eqb byte byte refl, lt-ltb byte (byte + 1) (omega arith)) (grind arith)
  | inr d ↦ rw (ne_eqb byte b (λ e. d (cc))) (elim (cases_lt b byte) [
    | inl l ↦ rw (lt-ltb b byte l, lt-ltb b (byte + 1) (omega (arith, l))) (grind arith)
    | inr g ↦ rw (le-ltb b byte g, le-ltb b (byte + 1) (omega (arith, g, d))) (grind arith)
  ])
]

no-more : (has : ℕ → Bool) (byte b : ℕ) (x : Bool) → has byte ≡ false
    → (x || (nat_lt b byte && has b)) ≡ (x || (nat_lt b (byte + 1) && has b))
no-more has byte b x off = elim (cases_eq b byte) [
  | inl e ↦ rw (e, off) (grind arith)
  | inr d ↦ elim (cases_lt b byte) [
    | inl l ↦ rw (lt-ltb b byte l, lt-ltb b (byte + 1) (omega (arith, l))) refl
    | inr g ↦ rw (le-ltb b byte g, le-ltb b (byte + 1) (omega (arith, g, d))) refl
  ]
]

pub loop-byte-preserved : goal.loop-byte-preserved
loop-byte-preserved c b =
    let byte = c.loop-byte.byte in
    let has : ℕ → Bool = passes (class_of (class_name c.args.class)) in
    let before = c.loop-byte.invariant b in
    elim c.if-holds.branch [
      | then-holds w ↦ rw (w.self-is, w.insert.ensures b, before) (one-more has byte b _ (cc (c.holds.ensures, w.if-holds.true)))
      | else-holds w ↦ rw (w.self-is, before) (no-more has byte b _ (cc (c.holds.ensures, w.if-holds.false)))
    ]

-- The round of the last byte is the end.
pub returns-after-holds : goal.returns-after-holds
returns-after-holds c b low =
    let byte = c.loop-byte.byte in
    let has : ℕ → Bool = passes (class_of (class_name c.args.class)) in
    let before = c.loop-byte.invariant b in
    let all : nat_lt b (byte + 1) ≡ true = lt-ltb b (byte + 1) (omega (arith, low)) in
    elim c.if-holds.branch [
      | then-holds w ↦ rw (w.self-is, w.insert.ensures b, before) (one-more has byte b _ (cc (c.holds.ensures, w.if-holds.true)) ∙ rw all refl)
      | else-holds w ↦ rw (w.self-is, before) (no-more has byte b _ (cc (c.holds.ensures, w.if-holds.false)) ∙ rw all refl)
    ]

pub returns : goal.returns
returns c = absurd (omega arith)
