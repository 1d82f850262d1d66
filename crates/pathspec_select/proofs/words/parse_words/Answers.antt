-- The next word is read, or its fault is the first.
use Rattle.std.proofs.Common.{◌≡◌, ◌∙◌, ap, map, not, true, is_ok, string_bytes}
use Rattle.std.proofs.lemmas.Result.{err_from_is_err_and}
use Rattle.gix_pathspec.specs.Patterns.{pattern_spec}
use Rattle.gix_pathspec.proofs.LineProofs.{pushed}
use Rattle.pathspec_select.proofs.WordProofs.{words-more, words-fail, tells-on}
use Rattle.pathspec_select.proofs.words.parse_words.Goals as goal

pub returns-in_err-pattern : goal.returns-in_err-pattern
returns-in_err-pattern c =
    let p = err_from_is_err_and c.from_residual.result c.from_residual.ensures.1 in
    rw (p.1, p.2) (tells-on _ _ _ (λ fault h. words-fail string_bytes c.args.defaults c.args.texts.now c.loop-number.number (map pattern_spec c.loop-number.patterns.items) _ c.loop-number.invariant c.index-texts-number.result fault c.loop-number-test.true c.index-texts-number.is h) c.in_err-pattern.ensures)

pub loop-number-preserved : goal.loop-number-preserved
loop-number-preserved c =
    let ok : is_ok c.push.result ≡ true = c.is_err.ensures.negation ∙ ap not c.if-is_err.false in
    words-more string_bytes c.args.defaults c.args.texts.now c.loop-number.number (map pattern_spec c.loop-number.patterns.items) _ c.loop-number.invariant c.index-texts-number.result (pattern_spec c.in_ok-pattern.pattern) _ c.loop-number-test.true c.index-texts-number.is c.in_ok-pattern.ensures
    (pushed pattern_spec c.loop-number.patterns.items c.push.new.self.items c.in_ok-pattern.pattern (rw ok at c.push.ensures.items))
