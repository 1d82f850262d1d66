use Rattle.std.proofs.Common.{◌≡◌, ℕ, ◌<◌, ◌≤◌, ◌*◌, ◌||◌, length}
use Rattle.pathspec_glob.specs.BitVecs.{holds}
use Rattle.pathspec_glob_set.specs.Rows.{leads_on, IsCarried}
use Rattle.pathspec_glob_set.proofs.table.row.close.Given as goal

abbrev pub invariant-loop-index : goal.invariant-loop-index
invariant-loop-index l = record {
  done : (i : ℕ) → i < l.index * 64 → i < length l.fn.row → holds l.row i ≡ (holds l.fn.row i || leads_on (holds l.wide) (holds l.over) (holds l.row) i);
  behind : (i : ℕ) → l.index * 64 ≤ i → holds l.row i ≡ holds l.fn.row i;
  carried : l.index * 64 < length l.fn.row → IsCarried (holds l.wide) (holds l.over) (holds l.row) (l.index * 64) l.carry;
  len : length l.row ≡ length l.fn.row;
}
