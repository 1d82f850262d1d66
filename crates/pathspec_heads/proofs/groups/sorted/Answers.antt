use Rattle.std.proofs.Common.{◌∙◌, arith, map, refl}
use Rattle.std.proofs.lemmas.List.{length-map}
use Rattle.pathspec_heads.proofs.PlacedProofs.{placed-next, placed-all, sorted_places}
use Rattle.pathspec_heads.proofs.groups.sorted.Goals as goal

pub loop-place-preserved : goal.loop-place-preserved
loop-place-preserved c = rw c.in_ok-push.ensures.items
    (placed-next (λ entry. (entry.0.now, entry.1)) (λ text. text.now) c.loop-place.entries.items _ c.args.texts.now c.loop-place.place _ c.loop-place.invariant c.loop-place-test.true refl)

pub returns : goal.returns
returns c =
    let texts = map (λ text. text.now) c.args.texts.now in
    let done = placed-all texts c.loop-place.place (omega (arith, c.loop-place-test.false, c.loop-place.auto.place-end, length-map c.args.texts.now (λ text. text.now))) in
    sorted_places (λ entry. (entry.0.now, entry.1)) texts c.loop-place.entries.items c.sort_unstable.new.self.items (c.loop-place.invariant ∙ done) c.sort_unstable.ensures.permutation c.sort_unstable.ensures.sorted
