use Rattle.std.proofs.Common.{◌≡◌, ℕ, ◌<◌, ◌+◌, length}
use Rattle.pathspec_glob.specs.BitVecs.{holds}
use Rattle.pathspec_glob_set.specs.Questions.{answer_of}
use Rattle.pathspec_glob_set.specs.Sets.{size_of}
use Rattle.pathspec_glob_set.proofs.columns.add.Given as goal

abbrev pub invariant-loop-place : goal.invariant-loop-place
invariant-loop-place l = record {
  there : (i k : ℕ) → i < l.place → k + i ≡ l.end → holds l.column k ≡ answer_of l.question l.glob i;
  others : (k : ℕ) → k + size_of l.glob < l.end → holds l.column k ≡ holds l.fn.column k;
  len : length l.column ≡ length l.fn.column;
}
