use Rattle.std.proofs.Common.{◌≡◌, take}
use Rattle.gix_pathspec.specs.Reach.{stems_of}
use Rattle.gix_pathspec.specs.Search.{specs_of}
use Rattle.gix_pathspec.proofs.search.reach.stem_table.Given as goal

abbrev pub invariant-loop-spec : goal.invariant-loop-spec
invariant-loop-spec l = l.stems.items ≡ stems_of l.shadowed (specs_of l.specs) (specs_of (take l.spec-index l.specs))
