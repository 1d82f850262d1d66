-- The lines so far are none that ends the specs.
use Rattle.std.proofs.Common.{length}
use Rattle.pathspec_select.proofs.InputProofs.{IsReadTo}
use Rattle.pathspec_select.proofs.input.divide.Given as goal

abbrev pub invariant-loop-line : goal.invariant-loop-line
invariant-loop-line l = IsReadTo l.input l.before l.lines

abbrev pub decreases-loop-line : goal.decreases-loop-line
decreases-loop-line l = length l.lines
