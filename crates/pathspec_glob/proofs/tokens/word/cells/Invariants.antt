use Rattle.std.proofs.Common.{◌≡◌, ◌+◌, ◌≤◌, drop}
use Rattle.pathspec_glob.specs.GlobCells.{cell_count}
use Rattle.pathspec_glob.proofs.tokens.word.cells.Given as goal

abbrev pub invariant-loop-place : goal.invariant-loop-place
invariant-loop-place l = record {
  count : l.count + cell_count (drop l.place l.tokens.tokens) ≡ cell_count l.tokens.tokens;
  within : l.count ≤ l.place;
}
