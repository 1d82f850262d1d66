use Rattle.std.proofs.Common.{◌≡◌, map, take}
use Rattle.gix_pathspec.specs.Effort.{heads_in_order}
use Rattle.gix_pathspec.proofs.search.init.heads_in_order.Given as goal

abbrev pub invariant-loop-spec : goal.invariant-loop-spec
invariant-loop-spec l = map (λ head. head.now) l.heads.items ≡ heads_in_order (take l.spec-index l.specs)
