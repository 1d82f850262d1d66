use Rattle.std.proofs.Common.{◌≡◌, ℕ, ◌<◌, not, get_or, vec_len}
use Rattle.pathspec_glob.specs.GlobCells.{has, set_of}
use Rattle.pathspec_glob.specs.declared.tokens.word.Question.TheVariants.{Takes}
use Rattle.pathspec_glob.proofs.tokens.word.rows.Given as goal

abbrev pub invariant-loop-byte : goal.invariant-loop-byte
invariant-loop-byte l = record {
  len : vec_len l.rows ≡ l.byte;
  table : (b i : ℕ) → b < l.byte → i < 64 → has (get_or l.rows.items b 0) i ≡ not (set_of l.tokens.mode (Takes b l.case) l.tokens.tokens i);
}
