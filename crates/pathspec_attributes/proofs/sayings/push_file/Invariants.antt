use Rattle.std.proofs.Common.{◌≡◌, ◌≤◌, ◌++◌, length, map, reverse, take}
use Rattle.std.specs.List.{flat_map}
use Rattle.pathspec_attributes.specs.Sayings.{place_view, saying_view}
use Rattle.pathspec_attributes.proofs.FindingProofs.{line_says}
use Rattle.pathspec_attributes.proofs.sayings.push_file.Given as goal

abbrev pub invariant-loop-left : goal.invariant-loop-left
invariant-loop-left l = record {
  within : l.left ≤ length l.file.rules.items;
  found : map saying_view l.fn.found.items ++ flat_map (line_says l.asked.case l.asked.path.now l.asked.is_dir (place_view l.place)) (reverse l.file.rules.items)
      ≡ map saying_view l.found.items ++ flat_map (line_says l.asked.case l.asked.path.now l.asked.is_dir (place_view l.place)) (reverse (take l.left l.file.rules.items));
}

abbrev pub decreases-loop-left : goal.decreases-loop-left
decreases-loop-left l = l.left
