-- The names of the assignments are those that the spec lists.
use Rattle.std.proofs.Common.{◌≡◌, ◌∙◌, ap, List, map}
use Rattle.std.proofs.lemmas.Result.{IfOk-weaker}
use Rattle.std.proofs.lemmas.Simd.{map-map}
use Rattle.pathspec_parts.specs.declared.attributes.state.Assignment.{Assignment}
use Rattle.pathspec_parts.specs.AttributeStates.{assignment_view}
use Rattle.pathspec_parts.specs.Outcomes.{names_of, reset_states}
use Rattle.gix_pathspec.specs.Patterns.{pattern_spec}
use Rattle.gix_pathspec.specs.Search.{Numbered}
use Rattle.gix_pathspec.specs.Room.{attribute_names}
use Rattle.gix_pathspec.proofs.search.spec.CompiledSpec.new_outcome.Goals as goal

reset-names : (xs ys : List Assignment) → xs ≡ ys → names_of (reset_states (map assignment_view xs)) ≡ map (λ a. a.name) (map assignment_view ys)
reset-names xs ys e = rw e (simp map-map)

pub returns : goal.returns
returns c =
    IfOk-weaker c.for_assignments.result _ _ (λ outcome e.
    let named : names_of outcome ≡ attribute_names (pattern_spec c.self.inside.pattern) = ap names_of e ∙ reset-names _ _ c.deref.ensures.value in
    named ∙ ap (λ (n : Numbered). attribute_names n.spec) c.self.view_is) c.for_assignments.ensures
