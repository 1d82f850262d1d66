-- The number of a bad record is at most that of the bytes.
use Rattle.std.proofs.Common.{ap, arith, length, subst, Bool}
use Rattle.pathspec_filter.specs.Places.{chooses}
use Rattle.pathspec_filter.specs.Passes.{HasPassed}
use Rattle.pathspec_filter.proofs.PassProofs.{passed-room}
use Rattle.pathspec_filter.proofs.pass.Taker.take_whole.Goals as goal

pub overflow_add-result : goal.overflow_add-result
overflow_add-result g c =
    let passed = c.in_ok-passed.passed in
    let takes = chooses (g.L.LookUp.table c.args.look_up.now) c.args.self.now.chooser in
    let separator = c.args.self.now.chooser.separator in
    let bytes = c.bytes.result.now in
    let old = g.W.Write.contents c.args.writer.now in
    let new = g.W.Write.contents c.pass.new.writer in
    let before = c.args.self.now.counts in
    let after = c.pass.new.self.counts in
    let met = subst (λ (b : Bool). HasPassed takes separator bytes passed.length b old new before after) c.if-passed.true c.in_ok-passed.ensures.passed in
    omega (arith, passed-room takes separator bytes passed.length old new before after met, c.requires.room, ap length c.bytes.ensures)
