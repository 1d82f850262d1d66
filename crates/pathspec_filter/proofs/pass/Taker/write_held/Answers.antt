-- The bytes are put after those that are held back, and then all are written.
use Rattle.std.proofs.Common.{◌++◌, subst}
use Rattle.std.proofs.lemmas.Result.{err_from_is_err_and}
use Rattle.std.specs.Io.KnownBytes.{Appends}
use Rattle.pathspec_parts.specs.Writing.{AppendsFront}
use Rattle.pathspec_parts.proofs.WritingProofs.{upto-all, written-buffered, front-buffered}
use Rattle.pathspec_filter.proofs.pass.Taker.write_held.Goals as goal

pub returns-in_err-write_whole-clause-front : goal.returns-in_err-write_whole-clause-front
returns-in_err-write_whole-clause-front g c =
    let old = g.W.Write.contents c.args.writer.now in
    let between = g.W.Write.contents c.hold.new.writer in
    let new = g.W.Write.contents c.write_whole.new.writer in
    let p = err_from_is_err_and c.from_residual-in_err-write_whole.result c.from_residual-in_err-write_whole.ensures.1 in
    rw p.1 (front-buffered old between new (c.args.self.now.held.items ++ c.args.run.now) c.hold.new.self.held.items c.in_ok-hold.ensures.written (subst (AppendsFront between new) c.deref.ensures.value c.in_err-write_whole.ensures.front))

pub returns-clause-written : goal.returns-clause-written
returns-clause-written g c =
    let old = g.W.Write.contents c.args.writer.now in
    let between = g.W.Write.contents c.hold.new.writer in
    let new = g.W.Write.contents c.write_whole.new.writer in
    let bs = c.args.self.now.held.items ++ c.args.run.now in
    upto-all old new bs (written-buffered old between new bs c.hold.new.self.held.items c.in_ok-hold.ensures.written (subst (Appends between new) c.deref.ensures.value c.in_ok-write_whole.ensures.whole))
