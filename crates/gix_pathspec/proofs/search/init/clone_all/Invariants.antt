use Rattle.std.proofs.Common.{◌≡◌, take}
use Rattle.gix_pathspec.proofs.search.init.clone_all.Given as goal

abbrev pub invariant-loop-spec : goal.invariant-loop-spec
invariant-loop-spec l = l.copies.items ≡ take l.spec-index l.specs
