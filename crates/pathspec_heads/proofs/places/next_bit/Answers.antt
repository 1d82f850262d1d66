use Rattle.std.proofs.Common.{◌<◌, ◌/◌, ◌^◌, arith}
use Rattle.std.proofs.Math.Nat.{div-le_self}
use Rattle.pathspec_heads.proofs.WordProofs.{least-bit, no-bit, no-rest}
use Rattle.pathspec_heads.proofs.places.next_bit.Goals as goal

pub returns-then-from-ge64 : goal.returns-then-from-ge64
returns-then-from-ge64 c = no-bit c.args.word c.args.from c.ranges.word.fits c.if-from-ge64.true

pub returns-then-rest-eq0 : goal.returns-then-rest-eq0
returns-then-rest-eq0 c = no-rest c.args.word c.args.from c.if-rest-eq0.true

pub returns : goal.returns
returns c =
    let rest = c.args.word / 2 ^ c.args.from in
    let some : 0 < rest = omega (arith, c.if-rest-eq0.false) in
    let fits : rest < 2 ^ 64 = omega (arith, div-le_self c.args.word (2 ^ c.args.from), c.ranges.word.fits) in
    least-bit c.args.word c.args.from fits some
