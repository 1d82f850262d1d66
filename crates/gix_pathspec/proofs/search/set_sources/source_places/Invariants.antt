use Rattle.std.proofs.Common.{◌≡◌, take}
use Rattle.gix_pathspec.specs.SetSources.{source_places}
use Rattle.gix_pathspec.proofs.search.set_sources.source_places.Given as goal

abbrev pub invariant-loop-place : goal.invariant-loop-place
invariant-loop-place l = l.places.items ≡ source_places (take l.place l.specs)
