-- The word has just the places before the next that is asked for.
use Rattle.std.proofs.Common.{◌≡◌, ℕ, ◌<◌, ◌≤◌, ◌-◌, true}
use Rattle.pathspec_glob.specs.GlobCells.{has}
use Rattle.pathspec_heads.specs.Groups.{IsInChain}
use Rattle.pathspec_heads.proofs.places.PlacesByHead.word_of.Given as goal

abbrev pub invariant-loop-place : goal.invariant-loop-place
invariant-loop-place l = record {
  within : l.from ≤ 64;
  only : (p : ℕ) → has l.word p ≡ true → IsInChain l.self.heads l.self.starts l.self.order l.head p;
  all : (p : ℕ) → p < l.from → IsInChain l.self.heads l.self.starts l.self.order l.head p → has l.word p ≡ true;
}

abbrev pub decreases-loop-place : goal.decreases-loop-place
decreases-loop-place l = 64 - l.from
