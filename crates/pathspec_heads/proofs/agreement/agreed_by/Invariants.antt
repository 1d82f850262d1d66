use Rattle.std.proofs.Common.{◌-◌, ◌≤◌}
use Rattle.pathspec_heads.specs.Agreement.{agreement}
use Rattle.pathspec_heads.proofs.agreement.agreed_by.Given as goal

abbrev pub invariant-loop-at : goal.invariant-loop-at
invariant-loop-at g l = l.at ≤ agreement l.left l.right

abbrev pub decreases-loop-at : goal.decreases-loop-at
decreases-loop-at g l = l.last - l.at
