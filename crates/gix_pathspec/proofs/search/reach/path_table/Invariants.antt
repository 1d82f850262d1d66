use Rattle.std.proofs.Common.{◌≡◌, take}
use Rattle.gix_pathspec.specs.Reach.{taken_paths}
use Rattle.gix_pathspec.specs.Search.{specs_of}
use Rattle.gix_pathspec.proofs.search.reach.path_table.Given as goal

abbrev pub invariant-loop-spec : goal.invariant-loop-spec
invariant-loop-spec l = l.paths.items ≡ taken_paths (specs_of (take l.spec-index l.specs))
