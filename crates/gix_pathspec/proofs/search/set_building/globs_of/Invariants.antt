use Rattle.std.proofs.Common.{◌≡◌, map, take}
use Rattle.gix_pathspec.specs.SetSources.{member_behind, sources_behind}
use Rattle.gix_pathspec.proofs.search.set_building.globs_of.Given as goal

abbrev pub invariant-loop-number : goal.invariant-loop-number
invariant-loop-number l = l.globs.items ≡ map member_behind (take l.number-index (sources_behind l.head l.sources))
