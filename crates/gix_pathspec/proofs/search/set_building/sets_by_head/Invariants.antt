use Rattle.std.proofs.Common.{◌≡◌, map, take}
use Rattle.gix_pathspec.specs.HeadSets.{set_heads}
use Rattle.gix_pathspec.proofs.search.set_building.sets_by_head.Given as goal

abbrev pub invariant-loop-set : goal.invariant-loop-set
invariant-loop-set l = map (λ head. head.now) l.heads.items ≡ set_heads (take l.set-index l.sets)
