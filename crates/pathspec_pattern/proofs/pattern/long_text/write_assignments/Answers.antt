-- One more assignment is written.
use Rattle.std.proofs.Common.{◌∙◌, refl, ap, map}
use Rattle.std.proofs.lemmas.Option.{slice_get_read, slice_get-map}
use Rattle.std.specs.Option.{option_map}
use Rattle.pathspec_parts.specs.AttributeStates.{assignment_view}
use Rattle.pathspec_pattern.proofs.LongTextProofs.{assignment-after}
use Rattle.pathspec_pattern.proofs.pattern.long_text.write_assignments.Goals as goal

pub loop-index-preserved : goal.loop-index-preserved
loop-index-preserved c =
    let here = slice_get-map assignment_view c.args.assignments.now c.loop-index.index ∙ ap (option_map assignment_view) (slice_get_read c.args.assignments.now _ c.loop-index.index c.index-assignments-index.result refl c.loop-index-test.true c.index-assignments-index.is) in
    assignment-after (map assignment_view c.args.assignments.now) c.loop-index.index (assignment_view c.index-assignments-index.result) _ _ _ _ c.loop-index.invariant c.in_ok-write_space.ensures c.in_ok-write_assignment.ensures here
