use Rattle.std.proofs.Common.{◌-◌, ◌≤◌, arith, nat_eq}
use Rattle.std.proofs.lemmas.List.{take_rest}
use Rattle.std.proofs.lemmas.List.Sums.{common_prefix_len-le}
use Rattle.pathspec_heads.specs.Agreement.{agreement}
use Rattle.pathspec_heads.proofs.LaneProofs.{agreement-drop}
use Rattle.pathspec_heads.proofs.agreement.agreed_by.Goals as goal

pub returns-then-agreed : goal.returns-then-agreed
returns-then-agreed g c =
    let more = agreement-drop c.loop-at.at c.args.left.now c.args.right.now c.loop-at.invariant in
    omega (arith, simp take_rest at c.agreed_lanes-agreed.ensures, c.if-agreed.true, more)

pub loop-at-preserved : goal.loop-at-preserved
loop-at-preserved g c =
    let more = agreement-drop c.loop-at.at c.args.left.now c.args.right.now c.loop-at.invariant in
    omega (arith, simp take_rest at c.agreed_lanes-agreed.ensures, c.if-agreed.false, more)

pub returns : goal.returns
returns g c =
    let last = c.args.shorter - g.row.LANES in
    let so_far : last ≤ agreement c.args.left.now c.args.right.now = omega (arith, c.loop-at-test.false, c.loop-at.invariant) in
    let more = agreement-drop last c.args.left.now c.args.right.now so_far in
    let within = common_prefix_len-le nat_eq c.args.left.now c.args.right.now in
    omega (arith, simp take_rest at c.agreed_lanes.ensures, c.requires.least, c.requires.shorter, more, within.0, within.1)
