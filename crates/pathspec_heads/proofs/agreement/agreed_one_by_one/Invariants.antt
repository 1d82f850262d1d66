use Rattle.std.proofs.Common.{◌≤◌}
use Rattle.pathspec_heads.specs.Agreement.{agreement}
use Rattle.pathspec_heads.proofs.agreement.agreed_one_by_one.Given as goal

abbrev pub invariant-loop-at : goal.invariant-loop-at
invariant-loop-at l = l.at ≤ agreement l.left l.right
