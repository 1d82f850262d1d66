use Rattle.std.proofs.Common.{◌≡◌, vec_len, map, take}
use Rattle.pathspec_parts.specs.AttributeStates.{AreCopies, state_ref_view, assignment_view}
use Rattle.pathspec_parts.specs.Outcomes.{name_count}
use Rattle.pathspec_parts.proofs.attributes.outcome.copies_for.Given as goal

abbrev pub invariant-loop-place : goal.invariant-loop-place
invariant-loop-place l = record {
  count : vec_len l.copies ≡ name_count (take l.place-index (map assignment_view l.places)) l.name;
  copies : AreCopies (state_ref_view l.state) l.copies.items;
}
