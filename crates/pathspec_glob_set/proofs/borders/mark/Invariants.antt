use Rattle.std.proofs.Common.{◌≡◌, ℕ, suc, ◌<◌, false, get_or}
use Rattle.pathspec_glob.specs.GlobSteps.{token_takes}
use Rattle.pathspec_glob_set.specs.Questions.{IsTakenAlike}
use Rattle.pathspec_glob_set.proofs.borders.mark.Given as goal

abbrev pub invariant-loop-place : goal.invariant-loop-place
invariant-loop-place l = record {
  marked : (b i : ℕ) → suc b < 256 → get_or l.borders (suc b) false ≡ false → i < l.place → token_takes l.glob.tokens l.glob.case i (suc b) ≡ token_takes l.glob.tokens l.glob.case i b;
  only : (b : ℕ) → IsTakenAlike l.glob (suc b) b → get_or l.fn.borders (suc b) false ≡ false → get_or l.borders (suc b) false ≡ false;
  kept : (b : ℕ) → get_or l.borders b false ≡ false → get_or l.fn.borders b false ≡ false;
}
