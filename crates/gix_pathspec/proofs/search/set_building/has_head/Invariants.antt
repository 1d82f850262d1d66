use Rattle.std.proofs.Common.{◌≡◌, ◌<◌, ℕ, List, get_or}
use Rattle.gix_pathspec.specs.HeadSets.{set_heads}
use Rattle.gix_pathspec.proofs.search.set_building.has_head.Given as goal

abbrev pub invariant-loop-set : goal.invariant-loop-set
invariant-loop-set l = (k : ℕ) (d : List ℕ) → k < l.set-index → get_or (set_heads l.sets) k d ≡ l.head → ⊥
