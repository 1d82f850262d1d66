-- The record is written, and then the separator.
use Rattle.std.proofs.Common.{◌++◌, ◌∷◌, [], subst, ℕ, List}
use Rattle.std.proofs.lemmas.Result.{err_from_is_err_and}
use Rattle.std.specs.Prelude.{OnOk, OnErr}
use Rattle.pathspec_parts.specs.Writing.{AppendsUpTo, AppendsFront}
use Rattle.pathspec_parts.proofs.WritingProofs.{front-longer, then-put, then-front}
use Rattle.pathspec_select.proofs.OutputProofs.{written-some}
use Rattle.pathspec_select.proofs.output.write_record.Goals as goal

pub returns-in_err-write_buffered-clause-front : goal.returns-in_err-write_buffered-clause-front
returns-in_err-write_buffered-clause-front g c =
    let p = err_from_is_err_and c.from_residual.result c.from_residual.ensures.1 in
    let front = front-longer (g.W.Write.contents c.args.writer.now) (g.W.Write.contents c.write_buffered.new.writer) (c.args.buffer.now.items ++ c.as_bytes.result.now) (c.args.separator ∷ []) c.in_err-write_buffered.ensures.front in
    rw p.1 (subst (AppendsFront (g.W.Write.contents c.args.writer.now) (g.W.Write.contents c.write_buffered.new.writer))
    (written-some c.args.buffer.now.items c.as_bytes.result.now c.args.separator c.args.text c.in-Some.text c.in-Some.is c.as_bytes.ensures) front)

pub returns-clause-written : goal.returns-clause-written
returns-clause-written g c =
    let old = g.W.Write.contents c.args.writer.now in
    let between = g.W.Write.contents c.write_buffered.new.writer in
    let new = g.W.Write.contents c.write_buffered-2.new.writer in
    let left = c.write_buffered-2.new.buffer.items in
    subst (λ (bs : List ℕ). OnOk c.write_buffered-2.result (AppendsUpTo old new bs left)) (written-some c.args.buffer.now.items c.as_bytes.result.now c.args.separator c.args.text c.in-Some.text c.in-Some.is c.as_bytes.ensures)
    (then-put old between new (c.args.buffer.now.items ++ c.as_bytes.result.now) c.write_buffered.new.buffer.items (c.args.separator ∷ []) c.in_ok-write_buffered.ensures.written left c.write_buffered-2.result c.write_buffered-2.ensures.written)

pub returns-clause-front : goal.returns-clause-front
returns-clause-front g c =
    let old = g.W.Write.contents c.args.writer.now in
    let between = g.W.Write.contents c.write_buffered.new.writer in
    let new = g.W.Write.contents c.write_buffered-2.new.writer in
    subst (λ (bs : List ℕ). OnErr c.write_buffered-2.result (AppendsFront old new bs)) (written-some c.args.buffer.now.items c.as_bytes.result.now c.args.separator c.args.text c.in-Some.text c.in-Some.is c.as_bytes.ensures)
    (then-front old between new (c.args.buffer.now.items ++ c.as_bytes.result.now) c.write_buffered.new.buffer.items (c.args.separator ∷ []) c.in_ok-write_buffered.ensures.written c.write_buffered-2.result c.write_buffered-2.ensures.front)
