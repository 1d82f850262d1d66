use Rattle.std.proofs.Common.{◌≡◌, ◌/◌, ◌++◌, ℕ, List, drop}
use Rattle.pathspec_glob.proofs.Words.{Mode, Case}
use Rattle.pathspec_glob.specs.GlobCells.{has, Cell, SelfLoop, Masked, set_leads}
use Rattle.pathspec_glob.proofs.tokens.word.step.reach.Given as goal

abbrev pub invariant-loop-position : goal.invariant-loop-position
invariant-loop-position l = record {
  bytes : l.tests.count ≡ l.position;
  tokens : l.tests.tokens ≡ l.table.tokens;
  leads : (mode : Mode) (case : Case) (cells : List Cell) (end : SelfLoop) (all : ℕ) (rest : List ℕ) → Masked mode case cells end l.table.rows.items l.self_loops l.slash_loops all → l.skippable / 2 ≡ all / 2
      → set_leads mode case cells end (has l.states) (drop l.position l.text ++ rest) ≡ set_leads mode case cells end (has l.from) (l.text ++ rest);
}
