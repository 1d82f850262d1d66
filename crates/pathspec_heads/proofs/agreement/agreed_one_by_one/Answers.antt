use Rattle.std.proofs.Common.{◌<◌, arith, length, nat_eq}
use Rattle.std.proofs.lemmas.List.Sums.{common_prefix_len-le}
use Rattle.pathspec_heads.proofs.AgreementProofs.{agreement-apart, agreement-more}
use Rattle.pathspec_heads.proofs.agreement.agreed_one_by_one.Goals as goal

pub returns-then-left-at : goal.returns-then-left-at
returns-then-left-at c =
    let left : c.loop-at.at < length c.args.left.now = omega (arith, c.loop-at-test.true, c.requires) in
    let right : c.loop-at.at < length c.args.right.now = omega (arith, c.loop-at-test.true, c.requires) in
    (agreement-apart c.args.left.now c.args.right.now c.loop-at.at c.loop-at.invariant left right c.if-left-at.true).0

pub loop-at-preserved : goal.loop-at-preserved
loop-at-preserved c =
    let left : c.loop-at.at < length c.args.left.now = omega (arith, c.loop-at-test.true, c.requires) in
    let right : c.loop-at.at < length c.args.right.now = omega (arith, c.loop-at-test.true, c.requires) in
    agreement-more c.args.left.now c.args.right.now c.loop-at.at c.loop-at.invariant left right c.if-left-at.false

pub returns : goal.returns
returns c =
    let within = common_prefix_len-le nat_eq c.args.left.now c.args.right.now in
    omega (arith, c.loop-at.invariant, c.loop-at.auto.at-end, c.loop-at-test.false, c.requires, within.0, within.1)
