use Rattle.std.proofs.Common.{◌≡◌, take}
use Rattle.gix_pathspec.specs.SetSources.{all_sources}
use Rattle.gix_pathspec.proofs.search.set_sources.headed_members.Given as goal

abbrev pub invariant-loop-spec : goal.invariant-loop-spec
invariant-loop-spec l = l.sources.items ≡ all_sources (take l.spec-index l.specs)
