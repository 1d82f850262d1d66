use Rattle.std.proofs.Common.{◌≡◌, ◌<◌, ◌+◌, ◌==◌, ℕ, Bool, length, arith, sym, ◌∙◌, inl, inr, if◌then◌else◌, bit_and, ◌-◌, ◌^◌}
use Rattle.std.proofs.lemmas.Bool.{cases_lt}
use Rattle.std.proofs.lemmas.Nat.{and_le_r}
use Rattle.std.specs.Int.Count.{count_trailing_zeros}
use Rattle.pathspec_glob.specs.GlobSteps.{token_takes}
use Rattle.pathspec_glob.specs.GlobCells.{has}
use Rattle.pathspec_glob.proofs.StepProofs.{IsNext, behind-none, next-open, next-taken, put-taken, leave-taken, all-taken, lowest-from, open-lowest, taken-lowest, first-open, first-taken}
use Rattle.pathspec_glob.proofs.BitProofs.{below-lowest}
use Rattle.pathspec_glob.proofs.state_set.step.taken.Goals.{then-test, else-test, In-loop-open}
use Rattle.pathspec_glob.proofs.state_set.step.taken.Goals as goal

-- the place that comes next
the-next : (c : In-loop-open) → IsNext c.args.active (count_trailing_zeros 64 c.loop-open.«open») c.loop-open.«open» (count_trailing_zeros 64 c.loop-open.«open»)
the-next c = next-open c.args.active (count_trailing_zeros 64 c.loop-open.«open») c.loop-open.«open» (omega (arith, c.loop-open-test.true)) (omega (arith, c.loop-open.auto.open-fits)) c.loop-open.invariant.opened

pub overflow_add-from : goal.overflow_add-from
overflow_add-from c =
    let next = the-next (goal.at.overflow_add-from c).In-loop-open in
    omega (arith, next.fits, c.requires.small)

pub returns-then-from-bit-clause-taken : goal.returns-then-from-bit-clause-taken
returns-then-from-bit-clause-taken c =
    let next = the-next (goal.at.returns-then-from-bit-clause-taken c).In-loop-open in
    let parts = c.args.tokens.now in
    all-taken c.args.active (count_trailing_zeros 64 c.loop-open.«open») c.loop-open.«open» (count_trailing_zeros 64 c.loop-open.«open») c.loop-open.taken c.args.from (length parts.tokens)
    (λ i. token_takes parts c.args.case (c.args.from + i) c.args.byte) next c.loop-open.invariant.taken
    (λ i past. behind-none parts c.args.case (c.args.from + i) c.args.byte past) (omega (arith, c.if-from-bit.true, c.len.ensures))

pub returns-then-from-bit-clause-none : goal.returns-then-from-bit-clause-none
returns-then-from-bit-clause-none c same i h within =
    let next = the-next (goal.at.returns-then-from-bit-clause-none c).In-loop-open in
    elim (cases_lt i (count_trailing_zeros 64 c.loop-open.«open»)) [
      | inl l ↦ c.loop-open.invariant.none same i l
      | inr g ↦ next.between i g (omega (arith, within, c.if-from-bit.true, c.len.ensures))
    ]

pub test-requires-clause-room : goal.test-requires-clause-room
test-requires-clause-room c =
    let next = the-next (goal.at.test-requires-clause-room c).In-loop-open in
    omega (arith, c.loop-open.invariant.most, next.fits, c.requires.small)

pub loop-open-init : goal.loop-open-init
loop-open-init c =
    let held = c.args.active in
    let fits : held < 2 ^ 64 = omega (arith, c.ranges.active.fits) in
    let takes : ℕ → Bool = λ i. token_takes c.args.tokens.now c.args.case (c.args.from + i) c.args.byte in
    record {
      opened = open-lowest held 0 held fits (omega arith) (first-open held);
      taken = taken-lowest held takes 0 held 0 fits (omega arith) (first-open held) (first-taken held takes);
      rises = omega arith;
      most = omega (arith, c.requires.tests);
      within = omega (arith, c.requires.from, c.requires.tests);
      alone = c.requires.alone;
      none = λ same i l. below-lowest held i fits l;
    }

pub loop-open-preserved : goal.loop-open-preserved
loop-open-preserved c =
    let next = the-next (goal.at.loop-open-preserved c).In-loop-open in
    let held = c.args.active in
    let rest = c.loop-open.«open» in
    let bit = count_trailing_zeros 64 rest in
    let left = bit_and rest (rest - 1) in
    let fits : left < 2 ^ 64 = omega (arith, c.loop-open.auto.open-fits, and_le_r rest (rest - 1)) in
    let further = lowest-from held (bit + 1) left (omega (arith, next.fits)) fits next.further in
    let taken = c.loop-open.taken in
    let invariant = c.loop-open.invariant in
    let takes : ℕ → Bool = λ i. token_takes c.args.tokens.now c.args.case (c.args.from + i) c.args.byte in
    let put : (i : ℕ) → i < 64 → has c.if-test.taken i ≡ (if i == bit then takes bit else has taken i) = elim c.if-test.branch [
      | then-test w ↦ rw w.taken-is (put-taken held bit rest bit taken takes next (sym c.test.ensures.answer ∙ w.if-test.true))
      | else-test w ↦ rw w.taken-is (leave-taken held bit rest bit taken takes next invariant.taken (sym c.test.ensures.answer ∙ w.if-test.false))
    ] in
    record {
      opened = open-lowest held (bit + 1) left fits further next.further;
      taken = taken-lowest held takes (bit + 1) left c.if-test.taken fits further next.further (next-taken held bit rest bit taken c.if-test.taken takes next invariant.taken put);
      rises = omega (arith, invariant.rises, c.test.ensures.count);
      most = omega (arith, invariant.most, further, c.test.ensures.count);
      within = omega (arith, invariant.most, next.from, c.if-from-bit.false, c.len.ensures, c.test.ensures.count);
      alone = c.test.ensures.tokens;
      none = λ same. absurd (let no : ⊥ = omega (arith, same, invariant.rises, c.test.ensures.count) in no);
    }
