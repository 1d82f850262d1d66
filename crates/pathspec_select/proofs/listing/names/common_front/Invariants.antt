use Rattle.std.proofs.Common.{◌-◌, length}
use Rattle.pathspec_select.specs.ListingAnswers.{HasCommonFront}
use Rattle.pathspec_select.proofs.listing.names.common_front.Given as goal

abbrev pub invariant-loop-length : goal.invariant-loop-length
invariant-loop-length l = HasCommonFront l.left l.right l.length

abbrev pub decreases-loop-length : goal.decreases-loop-length
decreases-loop-length l = length l.left - l.length
