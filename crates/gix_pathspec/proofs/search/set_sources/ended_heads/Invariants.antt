use Rattle.std.proofs.Common.{◌≡◌, map, take}
use Rattle.gix_pathspec.specs.SetSources.{ended_heads}
use Rattle.gix_pathspec.proofs.search.set_sources.ended_heads.Given as goal

abbrev pub invariant-loop-source : goal.invariant-loop-source
invariant-loop-source l = map (λ text. text.items) l.texts.items ≡ ended_heads (take l.source-index l.sources)
