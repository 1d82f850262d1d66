use Rattle.std.proofs.Common.{◌-◌, ◌≤◌, ℕ}
use Rattle.pathspec_glob.specs.Counts.{Counts}
use Rattle.pathspec_heads.specs.Heads.{IsSearched}
use Rattle.pathspec_heads.proofs.SearchProofs.{IsLeft}
use Rattle.pathspec_heads.proofs.sorted_texts.SortedTexts.search_on.Given as goal

abbrev pub invariant-loop-range : goal.invariant-loop-range
invariant-loop-range g l = record {
  so_far : IsSearched l.self (g.P.Probe.text l.probe) l.range.low l.range.high l.range.agreed;
  counted : (before : ℕ) → Counts before 1 l.fn.scratch → Counts before l.compared l.scratch;
  asked : 1 ≤ l.compared;
  cost : IsLeft (l.fn.left.high - l.fn.left.low) (l.range.high - l.range.low) l.compared;
}

abbrev pub decreases-loop-range : goal.decreases-loop-range
decreases-loop-range g l = l.range.high - l.range.low
