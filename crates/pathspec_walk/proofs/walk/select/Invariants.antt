use Rattle.std.proofs.Common.{◌≡◌, ◌-◌, length, map}
use Rattle.std.specs.Box.{box_value}
use Rattle.pathspec_parts.specs.Cursors.{next_number}
use Rattle.gix_pathspec.specs.Room.{Fits}
use Rattle.gix_pathspec.specs.Search.{specs_of}
use Rattle.pathspec_walk.specs.Walks.{HasChosen}
use Rattle.pathspec_walk.proofs.walk.select.Given as goal

abbrev pub invariant-loop-place : goal.invariant-loop-place
invariant-loop-place g l = record {
  course : HasChosen (g.L.LookUp.table l.fn.look_up) (specs_of l.search.specs) (g.W.Walk.contents l.fn.cursor).entries (next_number (g.W.Walk.contents l.cursor))
      (map (g.W.Walk.number (g.W.Walk.contents l.fn.cursor).entries) l.given.items) (g.W.Walk.contents l.cursor).entered;
  tree : (g.W.Walk.contents l.cursor).entries ≡ (g.W.Walk.contents l.fn.cursor).entries;
  room : Fits l.search.specs (box_value l.scratch);
  table : g.L.LookUp.table l.look_up ≡ g.L.LookUp.table l.fn.look_up;
  count : g.L.LookUp.failures l.look_up ≡ g.L.LookUp.failures l.fn.look_up;
}

abbrev pub decreases-loop-place : goal.decreases-loop-place
decreases-loop-place g l = length (g.W.Walk.contents l.cursor).entries - next_number (g.W.Walk.contents l.cursor)
