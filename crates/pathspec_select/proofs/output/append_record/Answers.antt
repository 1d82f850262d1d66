-- What a buffer holds, then the piece, and then the record.
use Rattle.std.proofs.Common.{◌++◌, [], List, ℕ, sym, ◌∙◌, ap, subst, append_assoc}
use Rattle.std.proofs.lemmas.List.{append-nil}
use Rattle.std.proofs.lemmas.Result.{err_from_is_err_and}
use Rattle.std.specs.Prelude.{OnOk, OnErr}
use Rattle.pathspec_select.specs.Listing.{mark_at, written_of}
use Rattle.pathspec_select.specs.Outlines.{with_piece, bytes_of}
use Rattle.pathspec_parts.specs.Writing.{AppendsUpTo, AppendsFront}
use Rattle.pathspec_select.proofs.OutlineProofs.{piece-more}
use Rattle.pathspec_parts.proofs.WritingProofs.{appends-none, front-longer, longer-put, longer-front, then-put, then-front}
use Rattle.pathspec_select.proofs.output.append_record.Given.{Over}
use Rattle.pathspec_select.proofs.output.append_record.Goals.{After-write_record}
use Rattle.pathspec_select.proofs.output.append_record.Goals as goal

-- what was put before the record: the buffer and the piece
before : (g : Over) (c : After-write_record g) → AppendsUpTo (g.W.Write.contents c.args.writer.now) (g.W.Write.contents c.write_buffered.new.writer) (with_piece c.args.buffer.now.items c.args.outline.now.bytes c.args.piece.now) c.write_buffered.new.buffer.items
before g c = subst (λ t. AppendsUpTo (g.W.Write.contents c.args.writer.now) (g.W.Write.contents c.write_buffered.new.writer) (c.args.buffer.now.items ++ t) c.write_buffered.new.buffer.items) c.bytes_of.ensures c.in_ok-write_buffered.ensures.written

pub returns-in_err-write_buffered-clause-front : goal.returns-in_err-write_buffered-clause-front
returns-in_err-write_buffered-clause-front g c =
    let p = err_from_is_err_and c.from_residual.result c.from_residual.ensures.1 in
    let front = subst (λ t. AppendsFront (g.W.Write.contents c.args.writer.now) (g.W.Write.contents c.write_buffered.new.writer) (c.args.buffer.now.items ++ t)) c.bytes_of.ensures c.in_err-write_buffered.ensures.front in
    rw p.1 (front-longer _ _ _ (written_of c.args.separator (mark_at c.args.outline.now.marks c.args.entry)) front)

pub returns-in_default-clause-written : goal.returns-in_default-clause-written
returns-in_default-clause-written g c =
    let old = g.W.Write.contents c.args.writer.now in
    let between = g.W.Write.contents c.write_buffered.new.writer in
    let new = g.W.Write.contents c.write_record.new.writer in
    let left = c.write_record.new.buffer.items in
    let behind = subst (λ m. OnOk c.write_record.result (AppendsUpTo between new (c.write_buffered.new.buffer.items ++ written_of c.args.separator m) left)) c.record.ensures c.write_record.ensures.written in
    rw (append-nil left) (then-put old between new _ _ _ (before g c) left c.write_record.result behind)

pub returns-in_default-clause-front : goal.returns-in_default-clause-front
returns-in_default-clause-front g c =
    let old = g.W.Write.contents c.args.writer.now in
    let between = g.W.Write.contents c.write_buffered.new.writer in
    let new = g.W.Write.contents c.write_record.new.writer in
    let behind = subst (λ m. OnErr c.write_record.result (AppendsFront between new (c.write_buffered.new.buffer.items ++ written_of c.args.separator m))) c.record.ensures c.write_record.ensures.front in
    then-front old between new _ _ _ (before g c) c.write_record.result behind

pub returns-then-record-before-clause-written : goal.returns-then-record-before-clause-written
returns-then-record-before-clause-written g c =
    let held = c.args.buffer.now.items in
    let bytes = c.args.outline.now.bytes in
    let r = c.in-Some.ensures in
    let whole = ap (λ t. bytes_of bytes c.args.piece.now ++ t) (sym r.written) ∙ piece-more bytes c.args.piece.now c.in-Some.record c.requires.piece r.lies c.if-record-before.true in
    ([], append_assoc held (bytes_of bytes c.args.piece.now) (written_of c.args.separator (mark_at c.args.outline.now.marks c.args.entry)) ∙ ap (λ t. held ++ t) whole, appends-none (g.W.Write.contents c.args.writer.now))

pub returns-clause-front : goal.returns-clause-front
returns-clause-front g c =
    let old = g.W.Write.contents c.args.writer.now in
    let new = g.W.Write.contents c.write_buffered-2.new.writer in
    let front = subst (λ t. OnErr c.write_buffered-2.result (AppendsFront old new (c.args.buffer.now.items ++ t))) c.bytes_of-2.ensures c.write_buffered-2.ensures.front in
    longer-front old new _ (written_of c.args.separator (mark_at c.args.outline.now.marks c.args.entry)) c.write_buffered-2.result front

pub returns-clause-written : goal.returns-clause-written
returns-clause-written g c =
    let old = g.W.Write.contents c.args.writer.now in
    let new = g.W.Write.contents c.write_buffered-2.new.writer in
    let left = c.write_buffered-2.new.buffer.items in
    let text = with_piece c.args.buffer.now.items c.args.outline.now.bytes c.args.piece.now in
    let record_text = written_of c.args.separator (mark_at c.args.outline.now.marks c.args.entry) in
    let put = subst (λ t. OnOk c.write_buffered-2.result (AppendsUpTo old new (c.args.buffer.now.items ++ t) left)) c.bytes_of-2.ensures c.write_buffered-2.ensures.written in
    subst (λ (t : List ℕ). OnOk c.write_buffered-2.result (AppendsUpTo old new (text ++ record_text) (left ++ t))) (sym c.in-Some.ensures.written) (longer-put old new text record_text left c.write_buffered-2.result put)
