use Rattle.std.proofs.Common.{◌≡◌, ◌+◌, length}
use Rattle.pathspec_faults.specs.Places.{place_in_list}
use Rattle.pathspec_faults.specs.WantedViews.{wanted_view}
use Rattle.pathspec_faults.proofs.lists.place_in_list.Given as goal

abbrev pub invariant-loop-at : goal.invariant-loop-at
invariant-loop-at l = record {
  same : place_in_list (wanted_view l.wanted) l.from l.rest ≡ place_in_list (wanted_view l.wanted) l.fn.start l.fn.list;
  end : l.from + length l.rest ≡ l.fn.start + length l.fn.list;
}

abbrev pub decreases-loop-at : goal.decreases-loop-at
decreases-loop-at l = length l.rest
