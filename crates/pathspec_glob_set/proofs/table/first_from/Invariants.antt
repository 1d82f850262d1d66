use Rattle.std.proofs.Common.{◌≡◌, ℕ, false, ◌<◌, ◌≤◌, get_or}
use Rattle.pathspec_glob.specs.BitVecs.{holds}
use Rattle.pathspec_glob_set.proofs.table.first_from.Given as goal

abbrev pub invariant-loop-glob : goal.invariant-loop-glob
invariant-loop-glob l = (g : ℕ) → l.from ≤ g → g < l.glob → holds l.row (get_or l.ends g 0) ≡ false
