use Rattle.std.proofs.Common.{◌≡◌, ◌+◌, ◌≤◌, take}
use Rattle.std.specs.List.{sum_by}
use Rattle.pathspec_glob_set.specs.Sets.{size_of}
use Rattle.pathspec_glob_set.specs.Sizes.{most_places}
use Rattle.pathspec_glob_set.proofs.table.building.are_few.Given as goal

abbrev pub invariant-loop-glob : goal.invariant-loop-glob
invariant-loop-glob l = record {
  sum : l.places ≡ sum_by (λ m. size_of m + 1) (take l.glob-index l.globs);
  few : l.places ≤ most_places;
}
