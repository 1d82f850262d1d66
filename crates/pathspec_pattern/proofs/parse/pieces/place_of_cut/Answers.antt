-- The first comma that cuts.
use Rattle.std.proofs.Common.{sym, ◌∙◌, arith}
use Rattle.pathspec_pattern.proofs.PiecesProofs.{at-next, at-cut, at-end}
use Rattle.pathspec_pattern.proofs.parse.pieces.place_of_cut.Goals as goal

pub returns-then-is_cut : goal.returns-then-is_cut
returns-then-is_cut c = (c.loop-at-test.true, at-cut c.args.long.now c.loop-at.at c.loop-at.escaped c.loop-at-test.true c.loop-at.invariant (sym c.is_cut.ensures ∙ c.if-is_cut.true))

pub loop-at-preserved : goal.loop-at-preserved
loop-at-preserved c = rw c.is_escape-escaped.ensures (at-next c.args.long.now c.loop-at.at c.loop-at.escaped c.loop-at-test.true c.loop-at.invariant (sym c.is_cut.ensures ∙ c.if-is_cut.false))

pub returns : goal.returns
returns c = at-end c.args.long.now c.loop-at.at c.loop-at.escaped (omega (arith, c.loop-at-test.false, c.loop-at.auto.at-end)) c.loop-at.invariant
