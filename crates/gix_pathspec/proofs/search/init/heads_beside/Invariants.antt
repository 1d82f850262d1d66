use Rattle.std.proofs.Common.{◌≡◌, List, map, take, true}
use Rattle.gix_pathspec.specs.Beside.{head_beside}
use Rattle.gix_pathspec.specs.HeadSets.{AreHeadSetsOf}
use Rattle.gix_pathspec.specs.SetSources.{SetSource}
use Rattle.gix_pathspec.proofs.search.init.heads_beside.Given as goal

abbrev pub invariant-loop-spec : goal.invariant-loop-spec
invariant-loop-spec l = (sources : List SetSource) → AreHeadSetsOf sources l.sets → map (λ head. head.items) l.heads.items ≡ map (λ n. head_beside true sources n.spec) (take l.spec-index l.specs)
