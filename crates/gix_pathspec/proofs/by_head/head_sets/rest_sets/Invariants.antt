-- The sets so far rest, and their efforts are counted.
use Rattle.std.proofs.Common.{◌-◌, length}
use Rattle.gix_pathspec.proofs.BegunSetProofs.{RestedSoFar}
use Rattle.gix_pathspec.proofs.by_head.head_sets.rest_sets.Given as goal

abbrev pub invariant-loop-number : goal.invariant-loop-number
invariant-loop-number l = RestedSoFar l.path l.fn.sets l.sets l.from l.effort

abbrev pub decreases-loop-number : goal.decreases-loop-number
decreases-loop-number l = length l.sets - l.from
