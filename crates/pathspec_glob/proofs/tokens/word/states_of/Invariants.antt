use Rattle.std.proofs.Common.{◌≡◌, ℕ, ◌<◌, ◌≤◌, length, drop}
use Rattle.pathspec_glob.specs.GlobCells.{has, set_of}
use Rattle.pathspec_glob.proofs.tokens.word.states_of.Given as goal

abbrev pub invariant-loop-place : goal.invariant-loop-place
invariant-loop-place l = record {
  word : (i : ℕ) → i < 64 → has l.word i ≡ set_of l.tokens.mode l.question (drop l.place l.tokens.tokens) i;
  within : l.place ≤ length l.tokens.tokens;
}

abbrev pub decreases-loop-place : goal.decreases-loop-place
decreases-loop-place l = l.place
