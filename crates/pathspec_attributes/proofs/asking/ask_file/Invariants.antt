use Rattle.std.proofs.Common.{◌≡◌, ◌≤◌, length, map, reverse, take}
use Rattle.std.specs.List.{flat_map}
use Rattle.pathspec_parts.specs.Outcomes.{names_of}
use Rattle.pathspec_attributes.specs.Files.{said_by_rule}
use Rattle.pathspec_attributes.specs.Leading.{Leads}
use Rattle.pathspec_attributes.specs.Views.{macros_view, marked, rule_in}
use Rattle.pathspec_attributes.proofs.asking.ask_file.Given as goal

abbrev pub invariant-loop-left : goal.invariant-loop-left
invariant-loop-left l = record {
  within : l.left ≤ length l.file.rules.items;
  leads : Leads (macros_view l.macros)
      (flat_map (said_by_rule l.asked.case l.base l.asked.path.now l.asked.is_dir) (reverse (map rule_in l.file.rules.items))) (marked l.fn.room.marks) l.fn.out
      (flat_map (said_by_rule l.asked.case l.base l.asked.path.now l.asked.is_dir) (reverse (take l.left (map rule_in l.file.rules.items)))) (marked l.room.marks) l.out;
  names : names_of l.out ≡ names_of l.fn.out;
}

abbrev pub decreases-loop-left : goal.decreases-loop-left
decreases-loop-left l = l.left
