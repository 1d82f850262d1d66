-- A copy more where the place has the name, and none elsewhere.
use Rattle.std.proofs.Common.{◌∙◌, sym, arith, rules}
use Rattle.std.proofs.lemmas.Grind.{common_steps}
use Rattle.pathspec_parts.proofs.OutcomeProofs.{has_name-at, name_count-named, name_count-other}
use Rattle.pathspec_parts.proofs.attributes.outcome.copies_for.Goals as goal
use Rattle.pathspec_parts.proofs.attributes.outcome.copies_for.Goals.{then-is_named+in_ok-to_state+in_ok-push, else-is_named}

pub returns-in_err-to_state-clause-refused : goal.returns-in_err-to_state-clause-refused
returns-in_err-to_state-clause-refused c =
    let has = has_name-at c.args.places.now c.args.name.now c.loop-place.place-index c.place-item.result c.loop-place-test.true c.place-item.is (sym c.is_named.ensures ∙ c.if-is_named.true) in search (rules, has)

pub returns-in_err-push-clause-refused : goal.returns-in_err-push-clause-refused
returns-in_err-push-clause-refused c =
    let has = has_name-at c.args.places.now c.args.name.now c.loop-place.place-index c.place-item.result c.loop-place-test.true c.place-item.is (sym c.is_named.ensures ∙ c.if-is_named.true) in search (rules, has)

pub loop-place-preserved : goal.loop-place-preserved
loop-place-preserved c =
    elim c.if-is_named.branch [
      | then-is_named+in_ok-to_state+in_ok-push w ↦
          let more = name_count-named c.args.places.now c.args.name.now c.loop-place.place-index c.place-item.result c.loop-place-test.true c.place-item.is (sym c.is_named.ensures ∙ w.if-is_named.true) in
          record { count = grind (arith, common_steps, more); copies = grind (arith, common_steps) }
      | else-is_named w ↦
          let same = name_count-other c.args.places.now c.args.name.now c.loop-place.place-index c.place-item.result c.loop-place-test.true c.place-item.is (sym c.is_named.ensures ∙ w.if-is_named.false) in
          record { count = grind (arith, common_steps, same); copies = grind (arith, common_steps) }
    ]
