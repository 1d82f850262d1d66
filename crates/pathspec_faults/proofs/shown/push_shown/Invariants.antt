use Rattle.std.proofs.Common.{length}
use Rattle.pathspec_faults.proofs.shown.push_shown.Given as goal

abbrev pub decreases-loop-rest : goal.decreases-loop-rest
decreases-loop-rest l = length l.rest
