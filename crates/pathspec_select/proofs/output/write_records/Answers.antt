-- After each record what was written, what is buffered and the piece are what is written for the entries so far.
use Rattle.std.proofs.Common.{◌+◌, ◌++◌, refl, sym, ap, subst, take, arith}
use Rattle.std.specs.Prelude.{get_or}
use Rattle.std.proofs.lemmas.Result.{err_from_is_err_and}
use Rattle.pathspec_select.specs.Listing.{mark_at, written_of, written_entries}
use Rattle.pathspec_select.specs.Outlines.{with_piece}
use Rattle.pathspec_parts.specs.Writing.{AppendsUpTo, AppendsFront}
use Rattle.pathspec_parts.proofs.WritingProofs.{upto-more, upto-on, front-more, written-buffered, front-buffered}
use Rattle.pathspec_select.proofs.OutputProofs.{front-count, written-more, upto-end}
use Rattle.pathspec_select.proofs.output.write_records.Goals as goal
use Rattle.pathspec_select.proofs.output.write_records.Given.{Over}
use Rattle.pathspec_select.proofs.output.write_records.Goals.{After-bytes_of, After-as_slice}

pub loop-index-preserved : goal.loop-index-preserved
loop-index-preserved g c =
    let old = g.W.Write.contents c.args.writer.now in
    let between = g.W.Write.contents c.loop-index.writer in
    let new = g.W.Write.contents c.append_record.new.writer in
    let marks = c.args.listing.now.marks in
    let entries = c.args.entries.now in
    let n = c.loop-index.index in
    let held = with_piece c.loop-index.buffer.items c.outline-outline.result.now.bytes c.loop-index.piece in
    let left = with_piece c.append_record.new.buffer.items c.outline-outline.result.now.bytes c.append_record.new.piece in
    let mark = mark_at marks (get_or entries n 0) in
    let more = subst (λ ms. AppendsUpTo between new (held ++ written_of c.args.separator (mark_at ms (get_or entries n 0))) left) (ap (λ o. o.marks) c.outline-outline.ensures) c.in_ok-append_record.ensures.written in
    record {
      few = omega (arith, c.loop-index-test.true);
      piece = c.append_record.ensures.piece;
      written =
          subst (λ bs. AppendsUpTo old new bs left) (written-more c.args.separator marks entries n mark (omega (arith, c.loop-index-test.true)) refl)
          (upto-more old between new (written_entries c.args.separator marks (take n entries)) held (written_of c.args.separator mark) left c.loop-index.invariant.written more);
    }

pub returns-in_err-append_record : goal.returns-in_err-append_record
returns-in_err-append_record g c =
    let old = g.W.Write.contents c.args.writer.now in
    let between = g.W.Write.contents c.loop-index.writer in
    let new = g.W.Write.contents c.append_record.new.writer in
    let marks = c.args.listing.now.marks in
    let entries = c.args.entries.now in
    let n = c.loop-index.index in
    let text = written_entries c.args.separator marks (take n entries) in
    let held = with_piece c.loop-index.buffer.items c.outline-outline.result.now.bytes c.loop-index.piece in
    let mark = mark_at marks (get_or entries n 0) in
    let p = err_from_is_err_and c.from_residual-in_err-append_record.result c.from_residual-in_err-append_record.ensures.1 in
    let more = subst (λ ms. AppendsFront between new (held ++ written_of c.args.separator (mark_at ms (get_or entries n 0)))) (ap (λ o. o.marks) c.outline-outline.ensures) c.in_err-append_record.ensures.front in
    let front = front-more old between new text held (written_of c.args.separator mark) c.loop-index.invariant.written more in
    rw (p.1, p.2) (front-count old new (text ++ written_of c.args.separator mark) c.args.separator marks entries (n + 1) (written-more c.args.separator marks entries n mark (omega (arith, c.loop-index-test.true)) refl) front)

-- what is kept back when no entry is left
kept : (g : Over) (c : After-bytes_of g) → AppendsUpTo (g.W.Write.contents c.args.writer.now) (g.W.Write.contents c.loop-index.writer) (written_entries c.args.separator c.args.listing.now.marks c.args.entries.now) (c.loop-index.buffer.items ++ c.bytes_of.result.now)
kept g c =
    upto-end (g.W.Write.contents c.args.writer.now) (g.W.Write.contents c.loop-index.writer) c.args.separator c.args.listing.now.marks c.args.entries.now c.loop-index.index (with_piece c.loop-index.buffer.items c.outline-outline.result.now.bytes c.loop-index.piece) _ (omega (arith, c.loop-index-test.false))
    c.loop-index.invariant.written (ap (λ t. c.loop-index.buffer.items ++ t) c.bytes_of.ensures)

pub returns-in_err-write_buffered : goal.returns-in_err-write_buffered
returns-in_err-write_buffered g c =
    let old = g.W.Write.contents c.args.writer.now in
    let p = err_from_is_err_and c.from_residual-in_err-write_buffered.result c.from_residual-in_err-write_buffered.ensures.1 in
    rw (p.1, p.2) (front-buffered old _ (g.W.Write.contents c.write_buffered.new.writer) _ _ (kept g (goal.at.returns-in_err-write_buffered g c).After-bytes_of) c.in_err-write_buffered.ensures.front)

-- what is buffered then
buffered : (g : Over) (c : After-as_slice g) → AppendsUpTo (g.W.Write.contents c.args.writer.now) (g.W.Write.contents c.write_buffered.new.writer) (written_entries c.args.separator c.args.listing.now.marks c.args.entries.now) c.as_slice.result.now
buffered g c =
    subst (AppendsUpTo (g.W.Write.contents c.args.writer.now) (g.W.Write.contents c.write_buffered.new.writer) (written_entries c.args.separator c.args.listing.now.marks c.args.entries.now)) (sym c.as_slice.ensures.value)
    (upto-on (g.W.Write.contents c.args.writer.now) (g.W.Write.contents c.loop-index.writer) (g.W.Write.contents c.write_buffered.new.writer) _ _ _ (kept g (goal.at.After-as_slice g c).After-bytes_of) c.in_ok-write_buffered.ensures.written)

pub returns-in_err-write_whole : goal.returns-in_err-write_whole
returns-in_err-write_whole g c =
    let old = g.W.Write.contents c.args.writer.now in
    let p = err_from_is_err_and c.from_residual-in_err-write_whole.result c.from_residual-in_err-write_whole.ensures.1 in
    rw (p.1, p.2) (front-buffered old _ (g.W.Write.contents c.write_whole.new.writer) _ _ (buffered g (goal.at.returns-in_err-write_whole g c).After-as_slice) c.in_err-write_whole.ensures.front)

pub returns : goal.returns
returns g c =
    let old = g.W.Write.contents c.args.writer.now in
    written-buffered old _ (g.W.Write.contents c.write_whole.new.writer) _ _ (buffered g (goal.at.returns g c).After-as_slice) c.in_ok-write_whole.ensures.whole
