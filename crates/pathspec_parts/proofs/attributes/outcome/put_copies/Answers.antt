-- A place with the name takes a copy, and the others are as they were.
use Rattle.std.proofs.Common.{◌∙◌, sym, arith}
use Rattle.std.proofs.lemmas.Grind.{common_steps}
use Rattle.std.proofs.lemmas.List.{set-get_or}
use Rattle.pathspec_parts.proofs.OutcomeProofs.{put-named, put-other, put-left}
use Rattle.pathspec_parts.proofs.attributes.outcome.put_copies.Goals as goal
use Rattle.pathspec_parts.proofs.attributes.outcome.put_copies.Goals.{then-is_named+in-Some+in-Value-1, then-is_named+in-Some+in-Set-1, then-is_named+in_default, else-is_named}

pub loop-place-preserved : goal.loop-place-preserved
loop-place-preserved c =
    elim c.if-is_named.branch [
      | then-is_named+in-Some+in-Value-1 w ↦ rw (w.places-is, w.copies-is)
          (put-named c.args.places.now c.loop-place.places c.args.name.now c.args.copies.items c.loop-place.copies.items w.pop.new.self.items c.loop-place.place-index c.place-item.result w.in-Some.copy c.loop-place.invariant c.loop-place-test.true c.loop-place.auto.places (sym c.is_named.ensures ∙ w.if-is_named.true) w.in-Some.ensures.items)
      | then-is_named+in-Some+in-Set-1 w ↦ rw (w.places-is, w.copies-is)
          (put-named c.args.places.now c.loop-place.places c.args.name.now c.args.copies.items c.loop-place.copies.items w.pop.new.self.items c.loop-place.place-index c.place-item.result w.in-Some.copy c.loop-place.invariant c.loop-place-test.true c.loop-place.auto.places (sym c.is_named.ensures ∙ w.if-is_named.true) w.in-Some.ensures.items)
      | then-is_named+in_default w ↦
          let left = put-left c.args.places.now c.loop-place.places c.args.name.now c.args.copies.items c.loop-place.copies.items c.loop-place.place-index c.place-item.result c.loop-place.invariant c.loop-place-test.true c.loop-place.auto.places (sym c.is_named.ensures ∙ w.if-is_named.true) in
          absurd (let no : ⊥ = grind (arith, common_steps, left, w.pop.ensures.variant) in no)
      | else-is_named w ↦ rw (w.places-is, w.copies-is, set-get_or)
          (put-other c.args.places.now c.loop-place.places c.args.name.now c.args.copies.items c.loop-place.copies.items c.loop-place.place-index c.place-item.result c.loop-place.invariant c.loop-place-test.true c.loop-place.auto.places (sym c.is_named.ensures ∙ w.if-is_named.false))
    ]
