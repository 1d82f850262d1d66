use Rattle.std.proofs.Common.{arith}
use Rattle.pathspec_heads.proofs.LaneProofs.{agreement-cut}
use Rattle.pathspec_heads.proofs.probe.TextProbe.agreement.Goals as goal

pub returns-then-self-ge-ROOM : goal.returns-then-self-ge-ROOM
returns-then-self-ge-ROOM c =
    omega (arith, c.min.ensures, c.agreed_lanes.ensures, c.if-len-le-ROOM.true, agreement-cut c.args.len c.args.bytes.now c.args.self.now.0.now)
