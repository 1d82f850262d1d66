use Rattle.std.proofs.Common.{◌≡◌, ℕ, ◌<◌, length}
use Rattle.pathspec_glob_set.specs.Sizes.{row_at}
use Rattle.pathspec_glob_set.proofs.table.copies_of.Given as goal

abbrev pub invariant-loop-index : goal.invariant-loop-index
invariant-loop-index l = record {
  len : length l.rows.items ≡ l._index;
  rows : (r : ℕ) → r < l._index → row_at l.rows.items r ≡ l.row;
}
