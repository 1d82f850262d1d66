use Rattle.std.proofs.Common.{w8, sym}
use Rattle.std.proofs.lemmas.Bool.{cond-true, cond-false, eq-eqb, ne_eqb}
use Rattle.std.proofs.lemmas.Simd.{tops_compared}
use lib.Lanes.{chunk}
use Rattle.pathspec_heads.proofs.LaneProofs.{agreed_in_lanes, differ}
use Rattle.pathspec_heads.proofs.agreement.agreed_lanes.Goals as goal

pub returns-then-apart-eq0 : goal.returns-then-apart-eq0
returns-then-apart-eq0 g c =
    agreed_in_lanes c.args.left.now c.args.right.now g.row.LANES _ _ c.requires.left c.requires.right c.requires.few
    (sym (cond-true _ _ _ (eq-eqb _ _ c.if-apart-eq0.true)))
    (tops_compared w8 differ (chunk 0 g.row.LANES c.args.left.now) (chunk 0 g.row.LANES c.args.right.now))

pub returns-else-apart-eq0 : goal.returns-else-apart-eq0
returns-else-apart-eq0 g c =
    agreed_in_lanes c.args.left.now c.args.right.now g.row.LANES _ _ c.requires.left c.requires.right c.requires.few
    (sym (cond-false _ _ _ (ne_eqb _ _ c.if-apart-eq0.false)))
    (tops_compared w8 differ (chunk 0 g.row.LANES c.args.left.now) (chunk 0 g.row.LANES c.args.right.now))
