-- The next text says a spec, or its fault is the first.
use Rattle.std.proofs.Common.{◌≡◌, ℕ, ◌+◌, ap, sym, ◌∙◌, subst, map, length, Ok, Err, arith, rules, length-append, [], ◌∷◌}
use Rattle.std.proofs.lemmas.Result.{err_from_is_err_and}
use Rattle.gix_pathspec.specs.Patterns.{pattern_spec}
use Rattle.gix_pathspec.specs.Reading.{reading}
use Rattle.gix_pathspec.specs.Search.{at_number}
use Rattle.gix_pathspec.specs.Lines.{readings_from}
use Rattle.gix_pathspec.proofs.BuildingProofs.{onto, tells-on}
use Rattle.gix_pathspec.proofs.LineProofs.{readings-fail, readings-more, pushed}
use Rattle.pathspec_parts.proofs.RecordProofs.{records-first}
use Rattle.pathspec_c.specs.Calls.{texts_in}
use Rattle.pathspec_c.proofs.build.parse_texts.Goals as goal

pub returns-in_err-pattern : goal.returns-in_err-pattern
returns-in_err-pattern c =
    let p = err_from_is_err_and c.from_residual.result c.from_residual.ensures.1 in
    let before = c.loop-rest.patterns.items in
    let text = c.at_first.result.0.now in
    let count : c.len.result ≡ length before = search rules in
    let some = sym c.is_empty.ensures ∙ c.loop-rest-test.true in
    let cut = records-first 0 c.loop-rest.rest.now text c.at_first.result.1.now some c.at_first.ensures.before c.at_first.ensures.after in
    rw (p.1, p.2)
    (tells-on _ _ _ (λ fault h. readings-fail c.args.defaults (length before) (map pattern_spec before) _ (texts_in c.loop-rest.rest.now) c.loop-rest.invariant text (texts_in c.at_first.result.1.now) fault cut (subst (λ (k : ℕ). at_number k (reading c.args.defaults text) ≡ Err fault) count h)) c.in_err-pattern.ensures)

pub loop-rest-preserved : goal.loop-rest-preserved
loop-rest-preserved c =
    let before = c.loop-rest.patterns.items in
    let after = c.push.new.self.items in
    let text = c.at_first.result.0.now in
    let spec = pattern_spec c.in_ok-pattern.pattern in
    let count : c.len.result ≡ length before = search rules in
    let some = sym c.is_empty.ensures ∙ c.loop-rest-test.true in
    let cut = records-first 0 c.loop-rest.rest.now text c.at_first.result.1.now some c.at_first.ensures.before c.at_first.ensures.after in
    let said : at_number (length before) (reading c.args.defaults text) ≡ Ok spec = subst (λ (k : ℕ). at_number k (reading c.args.defaults text) ≡ Ok spec) count c.in_ok-pattern.ensures in
    let grown : length before + 1 ≡ length after = omega (arith, ap length c.in_ok-push.ensures.items, length-append before (c.in_ok-pattern.pattern ∷ [])) in
    subst (λ (k : ℕ). readings_from 0 c.args.defaults (texts_in c.args.texts.now) ≡ onto (map pattern_spec after) (readings_from k c.args.defaults (texts_in c.at_first.result.1.now))) grown
    (readings-more c.args.defaults (length before) (map pattern_spec before) _ (texts_in c.loop-rest.rest.now) c.loop-rest.invariant text (texts_in c.at_first.result.1.now) spec (map pattern_spec after) cut said (pushed pattern_spec before after c.in_ok-pattern.pattern c.in_ok-push.ensures.items))
