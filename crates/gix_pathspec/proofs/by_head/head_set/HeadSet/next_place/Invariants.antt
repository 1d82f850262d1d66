use Rattle.std.proofs.Common.{◌≡◌, ◌-◌, ℕ, Bool, List, length}
use Rattle.gix_pathspec.specs.Attributes.{Table}
use Rattle.gix_pathspec.specs.Paths.{IsBytes}
use Rattle.gix_pathspec.specs.HeadSets.{IsNextOf, StaysAsked}
use Rattle.gix_pathspec.specs.Search.{Numbered}
use Rattle.gix_pathspec.specs.SetSources.{source_places}
use Rattle.gix_pathspec.specs.Sets.{NoneBefore}
use Rattle.gix_pathspec.proofs.by_head.head_set.HeadSet.next_place.Given as goal

abbrev pub invariant-loop-self : goal.invariant-loop-self
invariant-loop-self l = record {
  stays : StaysAsked l.fn.self l.self;
  next : (specs : List Numbered) (path : List ℕ) (table : Table) (is_dir : Bool) → IsBytes path → l.places ≡ source_places specs → NoneBefore table specs path is_dir l.from
      → IsNextOf specs path l.from l.fn.self → IsNextOf specs path l.from l.self;
}

abbrev pub decreases-loop-self : goal.decreases-loop-self
decreases-loop-self l = length l.self.numbers.items - l.self.next
