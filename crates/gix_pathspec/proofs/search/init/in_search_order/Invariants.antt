use Rattle.std.specs.Vec.Iter.{into_iter_items}
use Rattle.gix_pathspec.proofs.BuildingProofs.{Splits}
use Rattle.gix_pathspec.proofs.search.init.in_search_order.Given as goal

abbrev pub invariant-loop-spec : goal.invariant-loop-spec
invariant-loop-spec l = Splits l.fn.specs.items l.ordered.items l.includes.items (into_iter_items l.spec-iterator)
