-- Word automata.
use Rattle.std.specs.Prelude.{◌≡◌, ℕ, suc, ◌<◌, ◌&&◌, true, false, length}
use Rattle.pathspec_glob.specs.declared.Case.TheVariants.{Sensitive, Fold}
use Rattle.pathspec_glob.specs.declared.tokens.word.WordAutomaton.{WordAutomaton}
use Rattle.pathspec_glob.specs.declared.tokens.word.Question.TheVariants.{Loops, Skips}
use Rattle.pathspec_glob.specs.Bytes.{slash}
use Rattle.pathspec_glob.specs.GlobSteps.{TokenList}
use Rattle.pathspec_glob.specs.GlobCells.{has, set_of, cell_count, alternates_behind, IsLoopKind, IsTable}

-- the automaton is that of the tokens: its words hold the states whose tokens don't take a byte, that loop at a byte other than a slash and at a slash, and that may be skipped; its loop can go over any text
pub record IsAutomatonOf (parts : TokenList) (word : WordAutomaton) : Type 0 where
  pub last : word.last ≡ cell_count parts.tokens
  pub some : 0 < cell_count parts.tokens
  pub tokens : word.exact.tokens ≡ length parts.tokens
  pub alternate : alternates_behind false parts.tokens ≡ true
  pub exact : IsTable parts Sensitive word.exact.rows.items
  pub folded : IsTable parts Fold word.folded.rows.items
  pub self_loops : (i : ℕ) → i < 64 → has word.self_loops i ≡ set_of parts.mode (Loops 0) parts.tokens i
  pub slash_loops : (i : ℕ) → i < 64 → has word.slash_loops i ≡ set_of parts.mode (Loops slash) parts.tokens i
  pub skippable : (i : ℕ) → i < 64 → has word.skippable i ≡ set_of parts.mode Skips parts.tokens i
  pub loop_kind : IsLoopKind word.self_loops word.slash_loops word.skippable word.last word.loop_kind
  pub apart : (i : ℕ) → (has word.skippable i && has word.skippable (suc i)) ≡ false
