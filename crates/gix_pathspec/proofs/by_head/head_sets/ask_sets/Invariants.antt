-- The sets so far whose heads begin the path were asked, and the others are as they were.
use Rattle.std.proofs.Common.{◌-◌, length}
use Rattle.gix_pathspec.proofs.BegunSetProofs.{AskedSoFar}
use Rattle.gix_pathspec.proofs.by_head.head_sets.ask_sets.Given as goal

abbrev pub invariant-loop-number : goal.invariant-loop-number
invariant-loop-number l = AskedSoFar l.path l.fn.sets l.sets l.from l.tells l.gave_up

abbrev pub decreases-loop-number : goal.decreases-loop-number
decreases-loop-number l = length l.sets - l.from
