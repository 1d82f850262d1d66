use Rattle.std.proofs.Common.{◌≡◌, length, take}
use Rattle.gix_pathspec.specs.Room.{member_sources}
use Rattle.gix_pathspec.proofs.search.members.has_set.Given as goal

abbrev pub invariant-loop-spec : goal.invariant-loop-spec
invariant-loop-spec l = l.count ≡ length (member_sources (take l.spec-index l.specs))
