use Rattle.std.proofs.Common.{◌≡◌, ◌≤◌, [], length, map, reverse, take}
use Rattle.pathspec_parts.specs.AttributeStates.{assignment_view}
use Rattle.pathspec_parts.specs.Outcomes.{names_of}
use Rattle.pathspec_attributes.specs.Leading.{Leads}
use Rattle.pathspec_attributes.specs.Views.{macros_view, marked}
use Rattle.pathspec_attributes.proofs.deciding.decide.Given as goal

abbrev pub invariant-loop-left : goal.invariant-loop-left
invariant-loop-left l = record {
  within : l.left ≤ length l.said;
  pending : l.room.pending.items ≡ [];
  leads : Leads (macros_view l.macros) (reverse (map assignment_view l.said)) (marked l.fn.room.marks) l.fn.out (reverse (take l.left (map assignment_view l.said))) (marked l.room.marks) l.out;
  names : names_of l.out ≡ names_of l.fn.out;
}

abbrev pub decreases-loop-left : goal.decreases-loop-left
decreases-loop-left l = l.left
