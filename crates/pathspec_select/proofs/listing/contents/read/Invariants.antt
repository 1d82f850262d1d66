use Rattle.std.proofs.Common.{length}
use Rattle.pathspec_select.proofs.ReadProofs.{IsReadUpTo}
use Rattle.pathspec_select.proofs.listing.contents.read.Given as goal

abbrev pub invariant-loop-directory : goal.invariant-loop-directory
invariant-loop-directory l = IsReadUpTo l.bytes l.separator l.rest l.directory l.outline l.number

abbrev pub decreases-loop-directory : goal.decreases-loop-directory
decreases-loop-directory l = length l.rest
