-- The pattern lists no attributes, or the reply decides.
use Rattle.std.proofs.Common.{◌≡◌, ◌∙◌, sym, subst, true, false, map, ◌&&◌, arith, refl}
use Rattle.std.proofs.lemmas.List.{length-map}
use Rattle.bstr.specs.BStr.{bstr_bytes}
use Rattle.gix_pathspec.specs.Bytes.{is_empty}
use Rattle.gix_pathspec.specs.AttributeStates.{assignment_view}
use Rattle.gix_pathspec.specs.Outcomes.{states_of}
use Rattle.gix_pathspec.specs.Matching.{have_states}
use Rattle.gix_pathspec.specs.Patterns.{pattern_spec}
use Rattle.gix_pathspec.proofs.FoundProofs.{is_empty-counted, has_attributes-unlisted, has_attributes-asked}
use Rattle.pathspec_explain.specs.Reasons.{DifferAt}
use Rattle.pathspec_explain.proofs.StateProofs.{reply-is, says-no_states, says-other_state}
use Rattle.pathspec_explain.proofs.states.reason_where_it_fits.Goals as goal

pub returns-then-is_empty-clause-reason : goal.returns-then-is_empty-clause-reason
returns-then-is_empty-clause-reason g c =
    let v = c.args.pattern.now.attributes in
    let none : is_empty (map assignment_view v.items) ≡ true = is_empty-counted (map assignment_view v.items) v.len (omega (arith, length-map v.items assignment_view)) ∙ sym c.is_empty.ensures ∙ c.if-is_empty.true in
    (c.requires.fits, sym (has_attributes-unlisted (g.L.LookUp.table c.args.look_up.now) (pattern_spec c.args.pattern.now) (bstr_bytes c.args.path) c.args.is_dir none))

pub returns-then-not-found-clause-reason : goal.returns-then-not-found-clause-reason
returns-then-not-found-clause-reason g c =
    let v = c.args.pattern.now.attributes in
    let some : is_empty (map assignment_view v.items) ≡ false = is_empty-counted (map assignment_view v.items) v.len (omega (arith, length-map v.items assignment_view)) ∙ sym c.is_empty.ensures ∙ c.if-is_empty.false in
    let table = g.L.LookUp.table c.args.look_up.now in
    let s = pattern_spec c.args.pattern.now in
    let path = bstr_bytes c.args.path in
    let reply = reply-is table s path c.args.is_dir c.in_ok-found.found c.reset.new.self c.look_up.new.out (c.reset.ensures.names ∙ c.requires.names) (c.in_ok-found.ensures.answer c.reset.ensures.is_reset) in
    says-no_states table s path c.args.is_dir c.in_ok-found.found c.args.kind c.look_up.new.out c.requires.fits reply c.if-not-found.true some

pub returns-in-Some-clause-reason : goal.returns-in-Some-clause-reason
returns-in-Some-clause-reason g c =
    let table = g.L.LookUp.table c.args.look_up.now in
    let s = pattern_spec c.args.pattern.now in
    let path = bstr_bytes c.args.path in
    let reply = reply-is table s path c.args.is_dir c.in_ok-found.found c.reset.new.self c.look_up.new.out (c.reset.ensures.names ∙ c.requires.names) (c.in_ok-found.ensures.answer c.reset.ensures.is_reset) in
    says-other_state table s path c.args.is_dir c.in_ok-found.found c.args.kind c.look_up.new.out c.requires.fits reply c.if-not-found.false c.in-Some.place
    (subst (λ listed. DifferAt (states_of c.look_up.new.out) (map assignment_view listed) c.in-Some.place) c.deref.ensures.value c.in-Some.ensures)

pub returns-in-None-clause-reason : goal.returns-in-None-clause-reason
returns-in-None-clause-reason g c =
    let v = c.args.pattern.now.attributes in
    let some : is_empty (map assignment_view v.items) ≡ false = is_empty-counted (map assignment_view v.items) v.len (omega (arith, length-map v.items assignment_view)) ∙ sym c.is_empty.ensures ∙ c.if-is_empty.false in
    let asked = has_attributes-asked (g.L.LookUp.table c.args.look_up.now) (pattern_spec c.args.pattern.now) (bstr_bytes c.args.path) c.args.is_dir c.in_ok-found.found c.reset.new.self c.look_up.new.out some (c.reset.ensures.names ∙ c.requires.names) (c.in_ok-found.ensures.answer c.reset.ensures.is_reset) in
    let all : have_states (states_of c.look_up.new.out) (map assignment_view v.items) ≡ true = subst (λ listed. have_states (states_of c.look_up.new.out) (map assignment_view listed) ≡ true) c.deref.ensures.value c.in-None.ensures in
    let both : (c.in_ok-found.found && have_states (states_of c.look_up.new.out) (map assignment_view v.items)) ≡ true = rw (c.if-not-found.false, all) refl in
    (c.requires.fits, sym asked ∙ both)
