-- The texts so far store the specs that stand in front of those that are left.
use Rattle.std.proofs.Common.{◌≡◌, ◌++◌, List, map, length}
use Rattle.bstr.specs.Owned.{bstring_bytes}
use Rattle.gix_pathspec.specs.Specs.{Spec}
use Rattle.gix_pathspec.specs.Search.{specs_of}
use Rattle.pathspec_callers.specs.Stores.{StoreEach}
use Rattle.pathspec_callers.proofs.store.stored_texts.Given as goal

abbrev pub invariant-loop-pattern : goal.invariant-loop-pattern
invariant-loop-pattern l = (front : List Spec) × (front ++ l.patterns ≡ specs_of l.search.specs) × StoreEach front (map bstring_bytes l.texts.items)

abbrev pub decreases-loop-pattern : goal.decreases-loop-pattern
decreases-loop-pattern l = length l.patterns
