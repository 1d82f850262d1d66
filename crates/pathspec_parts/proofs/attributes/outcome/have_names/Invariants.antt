use Rattle.std.proofs.Common.{◌≡◌, map, take}
use Rattle.pathspec_parts.specs.AttributeStates.{assignment_view}
use Rattle.pathspec_parts.proofs.attributes.outcome.have_names.Given as goal

abbrev pub invariant-loop-place : goal.invariant-loop-place
invariant-loop-place l = map (λ a. (assignment_view a).name) (take l.place l.left) ≡ map (λ a. (assignment_view a).name) (take l.place l.right)
