use Rattle.std.proofs.Common.{◌≡◌, ℕ, ◌≤◌, length}
use Rattle.pathspec_glob.specs.BitVecs.{holds}
use Rattle.pathspec_glob_set.proofs.table.row.forget_behind.Given as goal

abbrev pub invariant-loop-index : goal.invariant-loop-index
invariant-loop-index l = record {
  kept : (i : ℕ) → i ≤ l.last → holds l.row i ≡ holds l.fn.row i;
  len : length l.row ≡ length l.fn.row;
}
