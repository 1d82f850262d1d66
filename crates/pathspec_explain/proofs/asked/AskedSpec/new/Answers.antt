-- The parts are those of the pattern.
use Rattle.std.proofs.Common.{◌≡◌, ◌∙◌, ap, List, map, arith}
use Rattle.std.proofs.lemmas.Simd.{map-map}
use Rattle.pathspec_glob.specs.Globs.{Room}
use Rattle.pathspec_parts.specs.declared.attributes.state.Assignment.{Assignment}
use Rattle.pathspec_parts.specs.AttributeStates.{assignment_view}
use Rattle.pathspec_parts.specs.Outcomes.{names_of, reset_states}
use Rattle.gix_pathspec.specs.Patterns.{pattern_spec}
use Rattle.gix_pathspec.specs.Room.{glob_size, tokens_of}
use Rattle.pathspec_explain.proofs.asked.AskedSpec.new.Goals as goal

reset-names : (xs ys : List Assignment) → xs ≡ ys → names_of (reset_states (map assignment_view xs)) ≡ map (λ a. a.name) (map assignment_view ys)
reset-names xs ys e = rw e (simp map-map)

pub invariant_of-result : goal.invariant_of-result
invariant_of-result c =
    let size : c.in_ok-globs.globs.tokens ≡ tokens_of (pattern_spec c.args.pattern.now) = ap (λ (r : Room). r.tokens) c.in_ok-globs.ensures ∙ (c.tokens.ensures ∙ ap glob_size c.in_ok-glob.ensures) in
    record {
      is_folded = c.in_ok-folded.ensures.ok;
      is_glob = c.in_ok-glob.ensures;
      has_room = omega (arith, size);
      has_names = ap names_of c.in_ok-outcome.ensures ∙ reset-names _ _ c.deref.ensures.value;
    }
