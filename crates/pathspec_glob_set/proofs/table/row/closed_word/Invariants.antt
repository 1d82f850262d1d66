use Rattle.std.proofs.Common.{◌≡◌, ℕ, ◌<◌, ◌||◌}
use Rattle.pathspec_glob.specs.GlobCells.{has}
use Rattle.pathspec_glob_set.specs.Rows.{leads_on}
use Rattle.pathspec_glob_set.proofs.table.row.closed_word.Given as goal

abbrev pub invariant-loop-round : goal.invariant-loop-round
invariant-loop-round l = (i : ℕ) → i < l._round → has l.row i ≡ (has l.entered i || leads_on (has l.wide) (has l.over) (has l.row) i)
