use Rattle.std.proofs.Common.{◌≡◌, ◌-◌, ◌≤◌, length, map, take}
use Rattle.gix_pathspec.specs.Bytes.{begins_with}
use Rattle.gix_pathspec.specs.SetSources.{positions_from}
use Rattle.gix_pathspec.proofs.search.set_building.numbers_of.Given as goal

abbrev pub invariant-loop-from : goal.invariant-loop-from
invariant-loop-from l = record {
  within : l.from ≤ length l.texts;
  so_far : l.numbers.items ≡ positions_from (begins_with l.text) 0 (take l.from (map (λ text. text.now) l.texts));
}

abbrev pub decreases-loop-from : goal.decreases-loop-from
decreases-loop-from l = length l.texts - l.from
