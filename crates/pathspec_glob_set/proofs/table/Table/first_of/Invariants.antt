use Rattle.std.proofs.Common.{◌≡◌, ℕ, false, ◌+◌, ◌<◌, ◌≤◌, get_or}
use Rattle.pathspec_glob.specs.BitVecs.{holds}
use Rattle.pathspec_glob.specs.Counts.{Counts}
use Rattle.pathspec_glob_set.specs.Tables.{row_of}
use Rattle.pathspec_glob_set.proofs.table.Table.first_of.Given as goal

abbrev pub invariant-loop-glob : goal.invariant-loop-glob
invariant-loop-glob l = record {
  looks : l.looks + l.from ≡ l.glob;
  total : Counts l.fn.total l.looks l.total;
  none : (g : ℕ) → l.from ≤ g → g < l.glob → holds (row_of l.self l.row) (get_or l.self.moves.ends.items g 0) ≡ false;
}
