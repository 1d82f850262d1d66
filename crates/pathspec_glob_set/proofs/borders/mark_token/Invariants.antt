use Rattle.std.proofs.Common.{◌≡◌, ℕ, suc, ◌<◌, false, get_or, length}
use Rattle.pathspec_glob.specs.GlobSteps.{token_takes}
use Rattle.pathspec_glob_set.specs.Questions.{LeavesUnmarked}
use Rattle.pathspec_glob_set.proofs.borders.mark_token.Given as goal

abbrev pub invariant-loop-byte : goal.invariant-loop-byte
invariant-loop-byte l = record {
  before : (b : ℕ) → suc b ≡ l.byte → l.before ≡ token_takes l.glob.tokens l.glob.case l.place b;
  marked : (b : ℕ) → suc b < l.byte → get_or l.borders (suc b) false ≡ false → token_takes l.glob.tokens l.glob.case l.place (suc b) ≡ token_takes l.glob.tokens l.glob.case l.place b;
  only : LeavesUnmarked (token_takes l.glob.tokens l.glob.case l.place) l.fn.borders l.borders;
  kept : (b : ℕ) → get_or l.borders b false ≡ false → get_or l.fn.borders b false ≡ false;
  all : length l.borders ≡ 256;
}
