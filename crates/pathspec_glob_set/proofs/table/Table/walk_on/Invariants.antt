use Rattle.std.proofs.Common.{◌<◌, ◌+◌, ◌-◌, ◌++◌, ℕ, List, length, drop}
use Rattle.pathspec_glob_set.specs.Moves.{LeadsTo}
use Rattle.pathspec_glob_set.specs.declared.table.Table.{Table}
use Rattle.pathspec_glob_set.specs.Tables.{row_of, AreFewSteps, ClearsWhenFull, IsTable, KeepsRoom}
use Rattle.pathspec_glob_set.proofs.table.Table.walk_on.Given as goal

abbrev pub invariant-loop-back : goal.invariant-loop-back
invariant-loop-back l = record {
  table : IsTable l.self;
  row : l.row < l.self.used;
  leads : (behind : List ℕ) → LeadsTo l.fn.self.moves behind (row_of l.fn.self l.fn.from) → LeadsTo l.self.moves (drop (length l.text - l.back) l.text ++ behind) (row_of l.self l.row);
  steps : (before : ℕ) → AreFewSteps (length l.fn.self.moves.wide) before l.fn.self → AreFewSteps (length l.fn.self.moves.wide) (before + l.back) l.self;
  room : KeepsRoom l.fn.self l.self;
  cleared : (before : Table) → KeepsRoom before l.fn.self → ClearsWhenFull l.fn.self.misses before l.fn.self → ClearsWhenFull l.self.misses before l.self;
}
