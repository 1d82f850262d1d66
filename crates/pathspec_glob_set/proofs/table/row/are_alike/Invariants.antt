use Rattle.std.proofs.Common.{◌≡◌, ℕ, ◌<◌, ◌*◌, length}
use Rattle.pathspec_glob_set.specs.Rows.{taken_of}
use Rattle.pathspec_glob_set.proofs.table.row.are_alike.Given as goal

abbrev pub invariant-loop-index : goal.invariant-loop-index
invariant-loop-index l = (i : ℕ) → i < l.index * 64 → i < length l.row → taken_of l.some l.row i ≡ taken_of l.others l.row i
