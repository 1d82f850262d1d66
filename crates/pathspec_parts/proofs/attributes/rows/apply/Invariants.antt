use Rattle.std.proofs.Common.{◌≡◌, map, take}
use Rattle.pathspec_parts.specs.AttributeStates.{assignment_view}
use Rattle.pathspec_parts.specs.Outcomes.{names_of, apply_assignments}
use Rattle.pathspec_parts.proofs.attributes.rows.apply.Given as goal

abbrev pub invariant-loop-assignment : goal.invariant-loop-assignment
invariant-loop-assignment l = record {
  so_far : l.out ≡ apply_assignments l.fn.out (map assignment_view (take l.assignment-index l.assignments));
  names : names_of l.out ≡ names_of l.fn.out;
}
