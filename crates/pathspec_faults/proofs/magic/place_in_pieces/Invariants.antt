use Rattle.std.proofs.Common.{◌≡◌, ◌+◌, length}
use Rattle.pathspec_faults.specs.Places.{place_in_pieces}
use Rattle.pathspec_faults.specs.WantedViews.{wanted_view}
use Rattle.pathspec_faults.proofs.magic.place_in_pieces.Given as goal

abbrev pub invariant-loop-at : goal.invariant-loop-at
invariant-loop-at l = record {
  same : place_in_pieces (wanted_view l.wanted) l.from l.rest ≡ place_in_pieces (wanted_view l.wanted) l.fn.start l.fn.long;
  end : l.from + length l.rest ≡ l.fn.start + length l.fn.long;
}

abbrev pub decreases-loop-at : goal.decreases-loop-at
decreases-loop-at l = length l.rest
