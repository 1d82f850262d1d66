use Rattle.std.proofs.Common.{◌≡◌, take}
use Rattle.pathspec_glob_set.proofs.table.moves.Moves.copy.Given as goal

abbrev pub invariant-loop-column : goal.invariant-loop-column
invariant-loop-column l = l.takes.items ≡ take l.column-index l.column-items
