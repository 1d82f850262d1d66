use Rattle.std.proofs.Common.{◌≡◌, map, take}
use Rattle.gix_pathspec.specs.Sets.{member_from}
use Rattle.gix_pathspec.proofs.search.members.make_members.Given as goal

abbrev pub invariant-loop-source : goal.invariant-loop-source
invariant-loop-source l = l.members.items ≡ map member_from (take l.source-index l.sources)
