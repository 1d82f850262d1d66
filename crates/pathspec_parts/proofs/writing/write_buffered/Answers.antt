-- Where there is no room, what is buffered is written, and then the bytes.
use Rattle.std.proofs.Common.{subst}
use Rattle.std.proofs.lemmas.Result.{err_from_is_err_and}
use Rattle.std.specs.Io.KnownBytes.{Appends}
use Rattle.pathspec_parts.specs.Writing.{AppendsFront}
use Rattle.pathspec_parts.proofs.WritingProofs.{upto-all, front-longer, then-put, then-front, all-put}
use Rattle.pathspec_parts.proofs.writing.write_buffered.Goals as goal

pub returns-in_err-write_whole-clause-front : goal.returns-in_err-write_whole-clause-front
returns-in_err-write_whole-clause-front g c =
    let p = err_from_is_err_and c.from_residual.result c.from_residual.ensures.1 in
    let buffered = c.args.buffer.now.items in
    rw p.1 (front-longer (g.W.Write.contents c.args.writer.now) (g.W.Write.contents c.write_whole.new.writer) buffered c.args.bytes.now
    (subst (AppendsFront (g.W.Write.contents c.args.writer.now) (g.W.Write.contents c.write_whole.new.writer)) c.as_slice.ensures.value c.in_err-write_whole.ensures.front))

pub returns-clause-written : goal.returns-clause-written
returns-clause-written g c =
    let old = g.W.Write.contents c.args.writer.now in
    let between = g.W.Write.contents c.write_whole.new.writer in
    let new = g.W.Write.contents c.write_whole-2.new.writer in
    let buffered = c.args.buffer.now.items in
    let before = upto-all old between buffered (subst (Appends old between) c.as_slice.ensures.value c.in_ok-write_whole.ensures.whole) in
    then-put old between new buffered _ c.args.bytes.now before c.clear.new.self.items c.write_whole-2.result (all-put between new c.args.bytes.now c.clear.new.self.items c.clear.ensures.items c.write_whole-2.result c.write_whole-2.ensures.whole)

pub returns-clause-front : goal.returns-clause-front
returns-clause-front g c =
    let old = g.W.Write.contents c.args.writer.now in
    let between = g.W.Write.contents c.write_whole.new.writer in
    let new = g.W.Write.contents c.write_whole-2.new.writer in
    let buffered = c.args.buffer.now.items in
    let before = upto-all old between buffered (subst (Appends old between) c.as_slice.ensures.value c.in_ok-write_whole.ensures.whole) in
    then-front old between new buffered _ c.args.bytes.now before c.write_whole-2.result c.write_whole-2.ensures.front
