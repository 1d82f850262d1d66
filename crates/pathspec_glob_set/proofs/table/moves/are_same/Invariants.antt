use Rattle.std.proofs.Common.{◌≡◌, ℕ, ◌<◌}
use Rattle.pathspec_glob_set.specs.Sizes.{row_at}
use Rattle.pathspec_glob_set.proofs.table.moves.are_same.Given as goal

abbrev pub invariant-loop-place : goal.invariant-loop-place
invariant-loop-place l = (c : ℕ) → c < l.place → row_at l.some c ≡ row_at l.others c
