use Rattle.std.proofs.Common.{◌≡◌, ◌≤◌, map, take}
use Rattle.gix_pathspec.specs.Room.{Fits}
use Rattle.pathspec_callers.specs.Selections.{selected_count}
use Rattle.pathspec_callers.proofs.search.count_selected.Given as goal

abbrev pub invariant-loop-file : goal.invariant-loop-file
invariant-loop-file g l = record {
  count : l.count ≡ selected_count (g.L.LookUp.table l.fn.look_up) l.search (map (λ file. file.now) (take l.file-index l.files));
  few : l.count ≤ l.file-index;
  fits : Fits l.search.specs l.scratch;
  room : l.scratch.room ≡ l.fn.scratch.room;
  table : g.L.LookUp.table l.look_up ≡ g.L.LookUp.table l.fn.look_up;
}
