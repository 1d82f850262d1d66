use Rattle.std.proofs.Common.{◌≡◌, take}
use Rattle.gix_pathspec.specs.Room.{member_sources}
use Rattle.gix_pathspec.proofs.search.members.sources.Given as goal

abbrev pub invariant-loop-spec : goal.invariant-loop-spec
invariant-loop-spec l = l.sources.items ≡ member_sources (take l.spec-index l.specs)
