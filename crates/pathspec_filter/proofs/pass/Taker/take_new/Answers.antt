-- No new byte is the separator.
use Rattle.std.proofs.Common.{◌-◌, length}
use Rattle.pathspec_filter.specs.Places.{chooses}
use Rattle.pathspec_filter.proofs.PassProofs.{all-partial}
use Rattle.pathspec_filter.proofs.pass.Taker.take_new.Goals as goal

pub returns-then-not-holds_separator-clause-ends : goal.returns-then-not-holds_separator-clause-ends
returns-then-not-holds_separator-clause-ends g c =
    let chunk = c.args.chunk.now in
    all-partial (chooses (g.L.LookUp.table c.args.look_up.now) c.args.self.now.chooser) c.args.self.now.chooser.separator (g.W.Write.contents c.args.writer.now) c.args.self.now.counts chunk c.last.result.now (length chunk - c.args.count) c.requires.free c.last.ensures (c.holds_separator.ensures c.if-not-holds_separator.true)
