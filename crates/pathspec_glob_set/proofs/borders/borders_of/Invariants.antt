use Rattle.std.proofs.Common.{◌≡◌, ℕ, suc, ◌<◌, false, get_or}
use Rattle.pathspec_glob_set.specs.declared.member.Member.{Member}
use Rattle.pathspec_glob_set.specs.Questions.{AreTakenAlike, IsTakenAlike}
use Rattle.pathspec_glob_set.specs.Sets.{IsAt}
use Rattle.pathspec_glob_set.proofs.borders.borders_of.Given as goal

abbrev pub invariant-loop-glob : goal.invariant-loop-glob
invariant-loop-glob l = record {
  marked : (b g : ℕ) (glob : Member) → suc b < 256 → get_or l.borders (suc b) false ≡ false → g < l.glob-index → IsAt l.globs g glob → IsTakenAlike glob (suc b) b;
  only : (b : ℕ) → AreTakenAlike l.globs (suc b) b → get_or l.borders (suc b) false ≡ false;
}
