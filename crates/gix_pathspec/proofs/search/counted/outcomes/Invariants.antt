use Rattle.std.proofs.Common.{◌≡◌, map, take}
use Rattle.pathspec_parts.specs.Outcomes.{names_of}
use Rattle.gix_pathspec.specs.Room.{names_in_order}
use Rattle.gix_pathspec.proofs.search.counted.outcomes.Given as goal

abbrev pub invariant-loop-spec : goal.invariant-loop-spec
invariant-loop-spec l = map names_of l.outcomes.items ≡ names_in_order (take l.spec-index l.specs)
