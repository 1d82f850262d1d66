use Rattle.std.proofs.Common.{refl}
use Rattle.pathspec_select.proofs.NameProofs.{more_alike}
use Rattle.pathspec_select.proofs.listing.names.common_front.Goals as goal

pub loop-length-preserved : goal.loop-length-preserved
loop-length-preserved c = more_alike c.args.left.now c.args.right.now c.loop-length.length 8 c.loop-length.invariant (c.loop-length-test.ensures refl)
