use Rattle.std.proofs.Common.{◌≡◌, ℕ, ◌<◌, ◌≤◌, ◌-◌, ◌^◌, true, Bool}
use Rattle.pathspec_glob.specs.GlobCells.{has}
use Rattle.pathspec_glob.specs.StateSets.{IsClosedWord}
use Rattle.pathspec_glob.proofs.ClosureProofs.{followed}
use Rattle.pathspec_glob.proofs.state_set.closure.Given as goal

abbrev pub invariant-loop-more : goal.invariant-loop-more
invariant-loop-more l = record {
  includes : (i : ℕ) → i < 64 → has l.come i ≡ true → has l.states i ≡ true;
  follows : (i : ℕ) → i < 64 → has l.more i ≡ followed l.states l.staying l.wide l.skippable i;
  below : l.states ≤ l.more;
  least : (all : ℕ → Bool) → ((i : ℕ) → i < 64 → has l.come i ≡ true → all i ≡ true)
      → IsClosedWord l.staying l.wide l.skippable all
      → (i : ℕ) → i < 64 → has l.states i ≡ true → all i ≡ true;
}

abbrev pub decreases-loop-more : goal.decreases-loop-more
decreases-loop-more l = 2 ^ 64 - l.states
