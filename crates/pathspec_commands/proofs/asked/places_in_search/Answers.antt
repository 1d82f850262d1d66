-- Each spec's place is kept as the loop comes to it.
use Rattle.std.proofs.Common.{ap, ◌∙◌, arith}
use Rattle.std.proofs.lemmas.List.{take_all}
use Rattle.pathspec_commands.proofs.SpecPlaceProofs.{places_from, few, room_include, placed_none, placed_exclude, placed_include, are_places}
use Rattle.pathspec_commands.proofs.asked.places_in_search.Goals as goal
use Rattle.pathspec_commands.proofs.asked.places_in_search.Goals.{then-is_exclude+in_ok-push, else-is_exclude+in_ok-push-2}

pub loop-is_exclude-init : goal.loop-is_exclude-init
loop-is_exclude-init c = rw c.new-places.ensures.items (placed_none c.args.excludes.now c.count_excludes-included.result)

pub overflow_add-excluded : goal.overflow_add-excluded
overflow_add-excluded c = omega (arith, c.loop-is_exclude.invariant.excluded_is, few (λ b. b) c.args.excludes.now c.loop-is_exclude.is_exclude-index (omega arith))

pub overflow_add-included : goal.overflow_add-included
overflow_add-included c = omega (arith, room_include c.args.excludes.now c.loop-is_exclude.is_exclude-index c.count_excludes-included.result c.loop-is_exclude.places.items c.loop-is_exclude.excluded c.loop-is_exclude.included c.loop-is_exclude-test.true c.if-is_exclude.false c.count_excludes-included.ensures c.loop-is_exclude.invariant)

pub loop-is_exclude-preserved : goal.loop-is_exclude-preserved
loop-is_exclude-preserved c =
    let l = c.loop-is_exclude in
    elim c.if-is_exclude.branch [
      | then-is_exclude+in_ok-push w ↦ rw (w.places-is, w.excluded-is, w.included-is, w.in_ok-push.ensures.items) (placed_exclude c.args.excludes.now l.is_exclude-index c.count_excludes-included.result l.places.items l.excluded l.included c.loop-is_exclude-test.true w.if-is_exclude.true l.invariant)
      | else-is_exclude+in_ok-push-2 w ↦ rw (w.places-is, w.excluded-is, w.included-is, w.in_ok-push-2.ensures.items) (placed_include c.args.excludes.now l.is_exclude-index c.count_excludes-included.result l.places.items l.excluded l.included c.loop-is_exclude-test.true w.if-is_exclude.false l.invariant)
    ]

pub returns : goal.returns
returns c =
    let l = c.loop-is_exclude in
    are_places c.args.excludes.now l.places.items c.count_excludes-included.result c.count_excludes-included.ensures (l.invariant.places_are ∙ ap (places_from 0 c.count_excludes-included.result) (take_all l.is_exclude-index c.args.excludes.now (omega (arith, c.loop-is_exclude-test.false))))
