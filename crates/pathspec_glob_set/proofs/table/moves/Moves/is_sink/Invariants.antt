use Rattle.std.proofs.Common.{◌≡◌, ℕ, ◌<◌, length}
use Rattle.pathspec_glob_set.specs.Rows.{taken_of}
use Rattle.pathspec_glob_set.specs.Sizes.{row_at}
use Rattle.pathspec_glob_set.proofs.table.moves.Moves.is_sink.Given as goal

abbrev pub invariant-loop-other : goal.invariant-loop-other
invariant-loop-other l = (c : ℕ) → c < l.other → (i : ℕ) → i < length l.row → taken_of (row_at l.self.takes.items l.class) l.row i ≡ taken_of (row_at l.self.takes.items c) l.row i
