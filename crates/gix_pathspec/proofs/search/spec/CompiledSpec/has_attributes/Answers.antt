-- The reply of the look-up says which attributes a path has.
use Rattle.std.proofs.Common.{◌≡◌, ◌∙◌, refl, sym, ap, subst, false, map, ◌&&◌}
use Rattle.bstr.specs.BStr.{bstr_bytes}
use Rattle.gix_pathspec.specs.Bytes.{is_empty}
use Rattle.gix_pathspec.specs.AttributeStates.{assignment_view}
use Rattle.gix_pathspec.specs.Outcomes.{states_of}
use Rattle.gix_pathspec.specs.Matching.{has_attributes, have_states}
use Rattle.gix_pathspec.specs.Room.{attribute_names}
use Rattle.gix_pathspec.specs.Search.{Numbered}
use Rattle.gix_pathspec.specs.Patterns.{pattern_spec}
use Rattle.gix_pathspec.proofs.FoundProofs.{has_attributes-asked}
use Rattle.gix_pathspec.proofs.search.spec.CompiledSpec.has_attributes.Goals as goal
use Rattle.gix_pathspec.proofs.search.spec.CompiledSpec.has_attributes.Goals.{then-found, else-found}

pub returns-clause-answer : goal.returns-clause-answer
returns-clause-answer g c =
    let v = c.self.inside.pattern.attributes in
    let some : is_empty (map assignment_view v.items) ≡ false = ap (λ (n : Numbered). is_empty n.spec.attributes) c.self.view_is ∙ c.requires.listed in
    let asked = has_attributes-asked (g.L.LookUp.table c.args.look_up.now) (pattern_spec c.self.inside.pattern) (bstr_bytes c.args.path) c.args.is_dir c.in_ok-found.found c.reset.new.self c.look_up.new.out some (c.reset.ensures.names ∙ (c.requires.names ∙ ap (λ (n : Numbered). attribute_names n.spec) (sym c.self.view_is))) (c.in_ok-found.ensures.answer c.reset.ensures.is_reset) in
    let same : c.if-found.result ≡ (c.in_ok-found.found && have_states (states_of c.look_up.new.out) (map assignment_view v.items)) = elim c.if-found.branch [
      | then-found w ↦ w.result-is ∙ w.have_states.ensures ∙ ap (λ listed. have_states (states_of c.look_up.new.out) (map assignment_view listed)) w.deref.ensures.value ∙ (rw w.if-found.true refl)
      | else-found w ↦ w.result-is ∙ (rw w.if-found.false refl)
    ] in
    subst (λ (n : Numbered). c.if-found.result ≡ has_attributes (g.L.LookUp.table c.args.look_up.now) n.spec (bstr_bytes c.args.path) c.args.is_dir) c.self.view_is (same ∙ asked)
