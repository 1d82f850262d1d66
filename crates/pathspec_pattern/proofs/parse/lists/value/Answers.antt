-- Each byte is skipped, taken or refused.
use Rattle.std.proofs.Common.{◌≡◌, ◌++◌, ◌∷◌, [], List, Result, Ok, Err, false, get_or, refl, sym, ◌∙◌, ap, arith}
use Rattle.std.proofs.lemmas.Result.{err_from_is_err_and}
use Rattle.pathspec_pattern.proofs.ListProofs.{in_front, value_from, value-skips, value-takes, value-refuses, value-trailing, value-all}
use Rattle.pathspec_pattern.proofs.parse.lists.value.Goals.{then-not-escaped+in_ok-value_byte+in_ok-push, else-not-escaped}
use Rattle.pathspec_pattern.proofs.parse.lists.value.Goals as goal

-- nothing is made yet
front-nothing : {A E : Type 0} (coming : Result (List A) E) → coming ≡ in_front [] coming
front-nothing (Ok more) = refl
front-nothing (Err e) = refl

pub loop-byte-init : goal.loop-byte-init
loop-byte-init c = rw c.new-value.ensures.items (front-nothing (value_from c.args.written.now false c.args.written.now))

pub returns-in_err-value_byte : goal.returns-in_err-value_byte
returns-in_err-value_byte c =
    let p = err_from_is_err_and c.from_residual.result c.from_residual.ensures.1 in
    rw (p.1, p.2, c.in_err-value_byte.ensures.err) (value-refuses c.args.written.now c.loop-byte.value.items c.loop-byte.byte-index c.loop-byte.escaped c.loop-byte-test.true c.loop-byte.invariant (sym c.is_escape-escaped.ensures ∙ c.if-not-escaped.true) c.in_err-value_byte.ensures.refused)

pub loop-byte-preserved : goal.loop-byte-preserved
loop-byte-preserved c = elim c.if-not-escaped.branch [
  | then-not-escaped+in_ok-value_byte+in_ok-push w ↦
      let taken = value-takes c.args.written.now c.loop-byte.value.items c.loop-byte.byte-index c.loop-byte.escaped c.loop-byte-test.true c.loop-byte.invariant (sym c.is_escape-escaped.ensures ∙ w.if-not-escaped.true) w.in_ok-value_byte.ensures.ok.1 in
      let items : w.push.new.self.items ≡ c.loop-byte.value.items ++ get_or c.args.written.now c.loop-byte.byte-index 0 ∷ [] = w.in_ok-push.ensures.items ∙ ap (λ y. c.loop-byte.value.items ++ y ∷ []) w.in_ok-value_byte.ensures.ok.0 in
      rw (w.value-is, items, w.if-not-escaped.true) taken
  | else-not-escaped w ↦
      rw (w.value-is, w.if-not-escaped.false) (value-skips c.args.written.now c.loop-byte.value.items c.loop-byte.byte-index c.loop-byte.escaped c.loop-byte-test.true c.loop-byte.invariant (sym c.is_escape-escaped.ensures ∙ w.if-not-escaped.false))
]

pub returns-then-escaped : goal.returns-then-escaped
returns-then-escaped c = rw c.in_ok-to_vec.ensures.ok (value-trailing c.args.written.now c.loop-byte.value.items c.loop-byte.byte-index c.loop-byte.escaped (omega (arith, c.loop-byte-test.false, c.loop-byte.auto.byte-index-end)) c.loop-byte.invariant c.if-escaped.true)

pub returns : goal.returns
returns c = value-all c.args.written.now c.loop-byte.value.items c.loop-byte.byte-index c.loop-byte.escaped (omega (arith, c.loop-byte-test.false, c.loop-byte.auto.byte-index-end)) c.loop-byte.invariant c.if-escaped.false
