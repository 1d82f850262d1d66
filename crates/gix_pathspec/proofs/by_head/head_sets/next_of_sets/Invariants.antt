-- Of the sets so far the next spec is known.
use Rattle.std.proofs.Common.{◌≡◌, ◌-◌, ◌≤◌, ℕ, Bool, All, List, length, take}
use Rattle.std.specs.Prelude.{IfSome}
use Rattle.gix_pathspec.specs.Attributes.{Table}
use Rattle.gix_pathspec.specs.HeadSets.{IsGlobHit, IsHeadSetOf, IsIdleBeside, IsLittleStepped, IsLongestOf, IsNextOf, begins_of, set_heads}
use Rattle.gix_pathspec.specs.Paths.{IsBytes}
use Rattle.gix_pathspec.specs.Search.{Numbered}
use Rattle.gix_pathspec.specs.SetSources.{is_of_heads, source_places, SetSource}
use Rattle.gix_pathspec.specs.Sets.{IsNext, NoneBefore}
use Rattle.gix_pathspec.proofs.by_head.head_sets.next_of_sets.Given as goal

abbrev pub invariant-loop-number : goal.invariant-loop-number
invariant-loop-number l = record {
  within : l.asked ≤ length l.sets;
  heads : set_heads l.sets ≡ set_heads l.fn.sets;
  own : (sources : List SetSource) → All (IsHeadSetOf sources) l.fn.sets → All (IsHeadSetOf sources) l.sets;
  few : (path : List ℕ) → All (IsLittleStepped path) l.fn.sets → All (IsLittleStepped path) l.sets;
  idle : (path : List ℕ) → IsLongestOf (set_heads l.fn.sets) path l.heads l.head → All (IsIdleBeside path) l.fn.sets → All (IsIdleBeside path) l.sets;
  begun : begins_of l.sets ≡ begins_of l.fn.sets;
  next : (specs : List Numbered) (path : List ℕ) (table : Table) (is_dir : Bool) → IsLongestOf (set_heads l.fn.sets) path l.heads l.head → IsBytes path → l.places ≡ source_places specs → NoneBefore table specs path is_dir l.from
      → All (IsNextOf specs path l.from) l.fn.sets → IsNext (is_of_heads (take l.asked (set_heads l.fn.sets))) specs path l.from l.next × All (IsNextOf specs path l.from) l.sets × IfSome l.next (IsGlobHit specs path);
}

abbrev pub decreases-loop-number : goal.decreases-loop-number
decreases-loop-number l = length l.sets - l.asked
