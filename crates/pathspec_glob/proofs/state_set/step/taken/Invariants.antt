use Rattle.std.proofs.Common.{◌≡◌, ◌≤◌, ◌<◌, ◌+◌, ℕ, false, length}
use Rattle.std.specs.Int.Count.{count_trailing_zeros}
use Rattle.pathspec_glob.specs.GlobSteps.{token_takes}
use Rattle.pathspec_glob.specs.GlobCells.{has}
use Rattle.pathspec_glob.proofs.StepProofs.{IsOpen, IsTaken}
use Rattle.pathspec_glob.proofs.state_set.step.taken.Given as goal

-- the places before the lowest that is left are done
abbrev pub invariant-loop-open : goal.invariant-loop-open
invariant-loop-open l = record {
  opened : IsOpen l.active (count_trailing_zeros 64 l.«open») l.«open»;
  taken : IsTaken l.active (λ i. token_takes l.tokens l.case (l.from + i) l.byte) (count_trailing_zeros 64 l.«open») l.taken;
  rises : l.fn.tests.count ≤ l.tests.count;
  most : l.tests.count ≤ l.from + count_trailing_zeros 64 l.«open»;
  within : l.tests.count ≤ length l.tokens.tokens;
  alone : l.tests.tokens ≡ 1;
  none : l.tests.count ≡ l.fn.tests.count → (i : ℕ) → i < count_trailing_zeros 64 l.«open» → has l.active i ≡ false;
}

-- each round has a place less
abbrev pub decreases-loop-open : goal.decreases-loop-open
decreases-loop-open l = l.«open»
