use Rattle.std.proofs.Common.{◌≡◌, ℕ, suc, false, ◌<◌, ◌*◌, ◌||◌, ◌&&◌, length}
use Rattle.pathspec_glob.specs.BitVecs.{holds}
use Rattle.pathspec_glob.specs.GlobCells.{further, has}
use Rattle.pathspec_glob_set.specs.Rows.{taken_of}
use Rattle.pathspec_glob_set.proofs.table.row.enter.Given as goal

abbrev pub invariant-loop-index : goal.invariant-loop-index
invariant-loop-index l = record {
  done : (i : ℕ) → i < l.index * 64 → i < length l.old → holds l.row i ≡ (further false (taken_of l.takes l.old) i || (taken_of l.takes l.old i && holds l.wide i));
  first : l.index * 64 < length l.old → has l.carry 0 ≡ further false (taken_of l.takes l.old) (l.index * 64);
  none : (k : ℕ) → has l.carry (suc k) ≡ false;
  len : length l.row ≡ length l.old;
}
