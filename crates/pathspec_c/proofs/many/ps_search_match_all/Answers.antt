-- One answer more, by a handle that keeps what it holds.
use Rattle.std.proofs.Common.{◌+◌, ◌<◌, ◌==◌, not, sym, ◌∙◌, ap, inl, inr, length, length-drop, arith, rules}
use Rattle.std.proofs.lemmas.Bool.{or_cases, not-true, eqb-false}
use Rattle.std.specs.List.{position_or_len, slice_set}
use Rattle.pathspec_parts.proofs.RecordProofs.{records-first}
use Rattle.pathspec_c.specs.Calls.{texts_in}
use Rattle.pathspec_c.proofs.ManyProofs.{keeps-same, keeps-on, keeps-answer, keeps-given, answered-none, answered-more}
use Rattle.pathspec_c.proofs.many.ps_search_match_all.Goals as goal

pub loop-rest-init : goal.loop-rest-init
loop-rest-init c = record {
  keeps = keeps-same c.args.search.now.searcher;
  answered = answered-none c.args.search.now.searcher c.args.paths.now c.args.answers.now;
  fits = omega arith;
  given = λ f. search rules;
}

pub loop-rest-preserved : goal.loop-rest-preserved
loop-rest-preserved c =
    let held = c.args.search.now.searcher in
    let old = c.loop-rest.invariant in
    let text = c.at_first.result.0.now in
    let others = c.at_first.result.1.now in
    let some = sym c.is_empty.ensures ∙ c.loop-rest-test.true in
    let cut = records-first 0 c.loop-rest.rest.now text others some c.at_first.ensures.before c.at_first.ensures.after in
    let cut_off = length-drop (position_or_len (λ b. b == 0) c.loop-rest.rest.now + 1) c.loop-rest.rest.now in
    let shorter : length others < length c.loop-rest.rest.now = omega (arith, ap length c.at_first.ensures.after, cut_off, eqb-false (length c.loop-rest.rest.now) 0 some) in
    record {
      keeps = keeps-on held c.loop-rest.search.searcher c.answer.new.search.searcher old.keeps c.answer.ensures.stays;
      answered = answered-more held (texts_in c.args.paths.now) c.args.answers.now c.loop-rest.rest.now c.loop-rest.number c.loop-rest.failed c.loop-rest.answers old.answered text others cut c.answer.result c.answer.new.answers
          (λ t. c.answer.ensures.known t ∙ ap (λ b. slice_set c.loop-rest.answers c.loop-rest.number b) (keeps-answer held c.loop-rest.search.searcher old.keeps text))
          c.answer.ensures.unknown;
      fits = omega (arith, old.fits, shorter);
      given = λ f. elim (or_cases c.loop-rest.failed (not c.answer.result) f) [
        | inl e ↦ old.given e
        | inr e ↦ keeps-given held c.loop-rest.search.searcher old.keeps (c.answer.ensures.failed (not-true c.answer.result e))
      ];
    }
