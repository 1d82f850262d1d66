use Rattle.std.proofs.Common.{◌≡◌, ◌≤◌, length, take}
use Rattle.gix_pathspec.specs.SetSources.{all_sources}
use Rattle.gix_pathspec.proofs.search.counted.are_headed_members.Given as goal

abbrev pub invariant-loop-spec : goal.invariant-loop-spec
invariant-loop-spec l = record {
  rank : l.rank ≤ length l.sources;
  so_far : take l.rank l.sources ≡ all_sources (take l.spec-index l.specs);
}
