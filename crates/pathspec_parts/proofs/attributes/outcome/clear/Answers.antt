use Rattle.pathspec_parts.proofs.OutcomeProofs.{cleared_more}
use Rattle.pathspec_parts.proofs.attributes.outcome.clear.Goals as goal

pub loop-place-preserved : goal.loop-place-preserved
loop-place-preserved c =
    cleared_more c.args.places.now c.loop-place.places c.loop-place.place-index c.place-item.result c.loop-place-test.true c.loop-place.auto.places c.loop-place.invariant
