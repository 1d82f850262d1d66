-- There are no bytes, or memory ran out for the separator.
use Rattle.std.proofs.Common.{◌∙◌, sym}
use Rattle.std.proofs.lemmas.Result.{err_from_is_err_and}
use Rattle.pathspec_filter.specs.Places.{chooses}
use Rattle.pathspec_filter.specs.Passes.{with_end}
use Rattle.pathspec_filter.proofs.PassProofs.{all-none, stopped-none, empty-is}
use Rattle.pathspec_filter.proofs.pass.Taker.take_last.Goals as goal

pub returns-then-is_empty-clause-ends : goal.returns-then-is_empty-clause-ends
returns-then-is_empty-clause-ends g c =
    all-none (chooses (g.L.LookUp.table c.args.look_up.now) c.args.self.now.chooser) c.args.separator (g.W.Write.contents c.args.writer.now) c.args.self.now.counts c.args.chunk.now (empty-is c.bytes.result.now c.args.chunk.now (sym c.is_empty.ensures ∙ c.if-is_empty.true) c.bytes.ensures)

pub returns-in_err-push-clause-ends : goal.returns-in_err-push-clause-ends
returns-in_err-push-clause-ends g c =
    let p = err_from_is_err_and c.from_residual.result c.from_residual.ensures.1 in
    rw (p.1, p.2) (stopped-none (chooses (g.L.LookUp.table c.args.look_up.now) c.args.self.now.chooser) c.args.separator (g.W.Write.contents c.args.writer.now) c.args.self.now.counts (with_end c.args.separator c.args.chunk.now))
