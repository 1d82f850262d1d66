use Rattle.std.proofs.Common.{◌≡◌, ℕ, List, true, drop, length}
use Rattle.pathspec_glob.proofs.Words.{Mode, Case}
use Rattle.pathspec_glob.specs.GlobCells.{has, not_free, Cell, SelfLoop, Masked, LoopAtEnds, set_leads}
use Rattle.pathspec_glob.proofs.tokens.word.step.leads_to_last.Given as goal

abbrev pub invariant-loop-position : goal.invariant-loop-position
invariant-loop-position l = record {
  bytes : l.tests.count ≡ l.position;
  tokens : l.tests.tokens ≡ l.table.tokens;
  leads : (mode : Mode) (case : Case) (cells : List Cell) (end : SelfLoop) (self_loops slash_loops skippable : ℕ)
      → Masked mode case cells end l.table.rows.items self_loops slash_loops skippable → length cells ≡ l.last
      → LoopAtEnds self_loops slash_loops skippable l.last l.last_loops l.last_loops_at_slash → has l.states 0 ≡ true → record {
        first : not_free l.free l.end l.last 0 ≡ true;
        leads : set_leads mode case cells end (not_free l.free l.end l.last) (drop l.position l.text) ≡ set_leads mode case cells end (has l.states) l.text;
      };
}
