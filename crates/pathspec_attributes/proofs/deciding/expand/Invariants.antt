use Rattle.std.proofs.Common.{◌≡◌}
use Rattle.pathspec_parts.specs.Outcomes.{names_of}
use Rattle.pathspec_attributes.specs.Leading.{pending_said, weight, Leads}
use Rattle.pathspec_attributes.specs.Views.{macros_view, marked}
use Rattle.pathspec_attributes.proofs.deciding.expand.Given as goal

abbrev pub invariant-loop-next : goal.invariant-loop-next
invariant-loop-next l = record {
  leads : Leads (macros_view l.macros) (pending_said l.macros l.fn.room.pending.items) (marked l.fn.room.marks) l.fn.out (pending_said l.macros l.room.pending.items) (marked l.room.marks) l.out;
  names : names_of l.out ≡ names_of l.fn.out;
}

abbrev pub decreases-loop-next : goal.decreases-loop-next
decreases-loop-next l = weight l.macros l.room.pending.items (marked l.room.marks)
