-- Before each read the whole records so far were taken, and what is selected of them is written.
use Rattle.std.proofs.Common.{◌≡◌, ◌+◌, ◌∙◌, sym, ap, arith, subst, refl, ℕ, Option, Ok, Err, take, length, ◌-◌}
use Rattle.std.proofs.lemmas.Result.{err_from_is_err_and}
use Rattle.std.specs.Prelude.{IfSome}
use Rattle.pathspec_parts.specs.RecordParts.{IsFreeOf}
use Rattle.pathspec_filter.specs.Places.{Choice, is_taken}
use Rattle.pathspec_filter.specs.Chunks.{HasRead}
use Rattle.pathspec_filter.specs.Passes.{with_end}
use Rattle.pathspec_filter.proofs.EndProofs.{ends-none, filtered-start, filtered-early, filtered-few, filtered-room, filtered-room_last, filtered-free, filtered-taken, filtered-refused, filtered-refused_last, filtered-well, well-counted, moved-taking}
use Rattle.pathspec_filter.proofs.filtering.filter.Goals as goal

pub returns-in_err-chunk-clause-ends : goal.returns-in_err-chunk-clause-ends
returns-in_err-chunk-clause-ends g c =
    let p = err_from_is_err_and c.from_residual.result c.from_residual.ensures.1 in
    rw (p.1, p.2) (ends-none (is_taken (g.L.LookUp.table c.args.look_up.now) (record { specs = c.args.search.now.specs; selection = c.args.selection })) c.args.separator (g.R.Read.remaining c.args.reader.now) (g.W.Write.contents c.args.writer.now))

pub returns-in_err-taker-clause-ends : goal.returns-in_err-taker-clause-ends
returns-in_err-taker-clause-ends g c =
    let p = err_from_is_err_and c.from_residual-in_err-taker.result c.from_residual-in_err-taker.ensures.1 in
    rw (p.1, p.2) (ends-none (is_taken (g.L.LookUp.table c.args.look_up.now) (record { specs = c.args.search.now.specs; selection = c.args.selection })) c.args.separator (g.R.Read.remaining c.args.reader.now) (g.W.Write.contents c.args.writer.now))

pub loop-taker-init : goal.loop-taker-init
loop-taker-init g c = record {
  state = filtered-start (is_taken (g.L.LookUp.table c.args.look_up.now) (record { specs = c.args.search.now.specs; selection = c.args.selection })) c.args.separator (g.R.Read.remaining c.args.reader.now) (g.W.Write.contents c.args.writer.now) c.in_ok-chunk.chunk c.in_ok-taker.taker.counts _ c.in_ok-chunk.ensures c.in_ok-taker.ensures.records c.in_ok-taker.ensures.selected refl;
  asked = c.in_ok-taker.ensures.asked;
  separator = c.in_ok-taker.ensures.separator;
  held = c.in_ok-taker.ensures.held;
  table = refl;
  count = refl;
}

pub returns-in_err-count-clause-ends : goal.returns-in_err-count-clause-ends
returns-in_err-count-clause-ends g c =
    let p = err_from_is_err_and c.from_residual-in_err-count.result c.from_residual-in_err-count.ensures.1 in
    rw (p.1, p.2) (filtered-early (is_taken (g.L.LookUp.table c.args.look_up.now) (record { specs = c.args.search.now.specs; selection = c.args.selection })) c.args.separator (g.R.Read.remaining c.args.reader.now) (g.R.Read.remaining c.loop-taker.reader) (g.W.Write.contents c.args.writer.now) (g.W.Write.contents c.loop-taker.writer) c.loop-taker.chunk c.loop-taker.taker.counts c.loop-taker.left c.loop-taker.invariant.state)

pub returns-in_default-clause-ends : goal.returns-in_default-clause-ends
returns-in_default-clause-ends g c = filtered-early (is_taken (g.L.LookUp.table c.args.look_up.now) (record { specs = c.args.search.now.specs; selection = c.args.selection })) c.args.separator (g.R.Read.remaining c.args.reader.now) (g.R.Read.remaining c.loop-taker.reader) (g.W.Write.contents c.args.writer.now) (g.W.Write.contents c.loop-taker.writer) c.loop-taker.chunk c.loop-taker.taker.counts c.loop-taker.left c.loop-taker.invariant.state

pub returns-in-None-clause-ends : goal.returns-in-None-clause-ends
returns-in-None-clause-ends g c = filtered-early (is_taken (g.L.LookUp.table c.args.look_up.now) (record { specs = c.args.search.now.specs; selection = c.args.selection })) c.args.separator (g.R.Read.remaining c.args.reader.now) (g.R.Read.remaining c.loop-taker.reader) (g.W.Write.contents c.args.writer.now) (g.W.Write.contents c.loop-taker.writer) c.loop-taker.chunk c.loop-taker.taker.counts c.loop-taker.left c.loop-taker.invariant.state

pub take_last-requires-clause-room : goal.take_last-requires-clause-room
take_last-requires-clause-room g c =
    let r = subst (λ (o : Option ℕ). IfSome o (HasRead (g.R.Read.remaining c.loop-taker.reader) (g.R.Read.remaining c.fill.new.reader) c.loop-taker.chunk c.fill.new.self)) c.in-Some.is c.in_ok-count.ensures in
    filtered-room_last (is_taken (g.L.LookUp.table c.args.look_up.now) (record { specs = c.args.search.now.specs; selection = c.args.selection })) c.args.separator (g.R.Read.remaining c.args.reader.now) (g.R.Read.remaining c.loop-taker.reader) (g.W.Write.contents c.args.writer.now) (g.W.Write.contents c.loop-taker.writer) c.loop-taker.chunk c.loop-taker.taker.counts c.loop-taker.left c.loop-taker.invariant.state (g.R.Read.remaining c.fill.new.reader) c.fill.new.self c.in-Some.count r c.if-count-eq0.true

pub take_last-requires-clause-few : goal.take_last-requires-clause-few
take_last-requires-clause-few g c = filtered-few (is_taken (g.L.LookUp.table c.args.look_up.now) (record { specs = c.args.search.now.specs; selection = c.args.selection })) c.args.separator (g.R.Read.remaining c.args.reader.now) (g.R.Read.remaining c.loop-taker.reader) (g.W.Write.contents c.args.writer.now) (g.W.Write.contents c.loop-taker.writer) c.loop-taker.chunk c.loop-taker.taker.counts c.loop-taker.left c.loop-taker.invariant.state

pub take_new-requires-clause-few : goal.take_new-requires-clause-few
take_new-requires-clause-few g c = filtered-few (is_taken (g.L.LookUp.table c.args.look_up.now) (record { specs = c.args.search.now.specs; selection = c.args.selection })) c.args.separator (g.R.Read.remaining c.args.reader.now) (g.R.Read.remaining c.loop-taker.reader) (g.W.Write.contents c.args.writer.now) (g.W.Write.contents c.loop-taker.writer) c.loop-taker.chunk c.loop-taker.taker.counts c.loop-taker.left c.loop-taker.invariant.state

pub returns-in_err-take_last-clause-ends : goal.returns-in_err-take_last-clause-ends
returns-in_err-take_last-clause-ends g c =
    let r = subst (λ (o : Option ℕ). IfSome o (HasRead (g.R.Read.remaining c.loop-taker.reader) (g.R.Read.remaining c.fill.new.reader) c.loop-taker.chunk c.fill.new.self)) c.in-Some.is c.in_ok-count.ensures in
    let i = c.loop-taker.invariant in
    let e = c.in_err-take_last.field-0.0 in
    let p = err_from_is_err_and c.from_residual-in_err-take_last.result c.from_residual-in_err-take_last.ensures.1 in
    let h = moved-taking (g.L.LookUp.table c.args.look_up.now) (g.L.LookUp.table c.loop-taker.look_up) (record { specs = c.args.search.now.specs; selection = c.args.selection }) c.loop-taker.taker.chooser.asked c.args.separator c.args.separator (with_end c.args.separator c.fill.new.self) c.take_last.new.chunk (g.W.Write.contents c.loop-taker.writer) (g.W.Write.contents c.take_last.new.writer) c.loop-taker.taker.counts c.take_last.new.self.counts (Err e) i.table i.asked refl c.in_err-take_last.ensures.ends in
    rw (p.1, p.2) (filtered-refused_last (is_taken (g.L.LookUp.table c.args.look_up.now) (record { specs = c.args.search.now.specs; selection = c.args.selection })) c.args.separator (g.R.Read.remaining c.args.reader.now) (g.R.Read.remaining c.loop-taker.reader) (g.W.Write.contents c.args.writer.now) (g.W.Write.contents c.loop-taker.writer) c.loop-taker.chunk c.loop-taker.taker.counts c.loop-taker.left c.loop-taker.invariant.state (g.R.Read.remaining c.fill.new.reader) c.fill.new.self c.in-Some.count r (g.W.Write.contents c.take_last.new.writer) c.take_last.new.chunk c.take_last.new.self.counts c.if-count-eq0.true e h)

pub returns-then-count-eq0-clause-ends : goal.returns-then-count-eq0-clause-ends
returns-then-count-eq0-clause-ends g c =
    let r = subst (λ (o : Option ℕ). IfSome o (HasRead (g.R.Read.remaining c.loop-taker.reader) (g.R.Read.remaining c.fill.new.reader) c.loop-taker.chunk c.fill.new.self)) c.in-Some.is c.in_ok-count.ensures in
    let i = c.loop-taker.invariant in
    let h = moved-taking {F = Unit {0}} (g.L.LookUp.table c.args.look_up.now) (g.L.LookUp.table c.loop-taker.look_up) (record { specs = c.args.search.now.specs; selection = c.args.selection }) c.loop-taker.taker.chooser.asked c.args.separator c.args.separator (with_end c.args.separator c.fill.new.self) c.take_last.new.chunk (g.W.Write.contents c.loop-taker.writer) (g.W.Write.contents c.take_last.new.writer) c.loop-taker.taker.counts c.take_last.new.self.counts (Ok tt) i.table i.asked refl c.in_ok-take_last.ensures.ends in
    well-counted (is_taken (g.L.LookUp.table c.args.look_up.now) (record { specs = c.args.search.now.specs; selection = c.args.selection })) c.args.separator (g.R.Read.remaining c.args.reader.now) (g.W.Write.contents c.args.writer.now) (g.W.Write.contents c.take_last.new.writer) c.take_last.new.self.counts c.summary.result c.summary.ensures.records c.summary.ensures.selected
    (filtered-well (is_taken (g.L.LookUp.table c.args.look_up.now) (record { specs = c.args.search.now.specs; selection = c.args.selection })) c.args.separator (g.R.Read.remaining c.args.reader.now) (g.R.Read.remaining c.loop-taker.reader) (g.W.Write.contents c.args.writer.now) (g.W.Write.contents c.loop-taker.writer) c.loop-taker.chunk c.loop-taker.taker.counts c.loop-taker.left c.loop-taker.invariant.state (g.R.Read.remaining c.fill.new.reader) c.fill.new.self c.in-Some.count r (g.W.Write.contents c.take_last.new.writer) c.take_last.new.chunk c.take_last.new.self.counts c.if-count-eq0.true h)

pub take_new-requires-clause-free : goal.take_new-requires-clause-free
take_new-requires-clause-free g c =
    let r = subst (λ (o : Option ℕ). IfSome o (HasRead (g.R.Read.remaining c.loop-taker.reader) (g.R.Read.remaining c.fill.new.reader) c.loop-taker.chunk c.fill.new.self)) c.in-Some.is c.in_ok-count.ensures in
    let read = c.fill.new.self in
    subst (λ (s : ℕ). IsFreeOf s (take (length read - c.in-Some.count) read)) (sym c.loop-taker.invariant.separator) (filtered-free (is_taken (g.L.LookUp.table c.args.look_up.now) (record { specs = c.args.search.now.specs; selection = c.args.selection })) c.args.separator (g.R.Read.remaining c.args.reader.now) (g.R.Read.remaining c.loop-taker.reader) (g.W.Write.contents c.args.writer.now) (g.W.Write.contents c.loop-taker.writer) c.loop-taker.chunk c.loop-taker.taker.counts c.loop-taker.left c.loop-taker.invariant.state (g.R.Read.remaining c.fill.new.reader) c.fill.new.self c.in-Some.count r)

pub take_new-requires-clause-room : goal.take_new-requires-clause-room
take_new-requires-clause-room g c =
    let r = subst (λ (o : Option ℕ). IfSome o (HasRead (g.R.Read.remaining c.loop-taker.reader) (g.R.Read.remaining c.fill.new.reader) c.loop-taker.chunk c.fill.new.self)) c.in-Some.is c.in_ok-count.ensures in
    filtered-room (is_taken (g.L.LookUp.table c.args.look_up.now) (record { specs = c.args.search.now.specs; selection = c.args.selection })) c.args.separator (g.R.Read.remaining c.args.reader.now) (g.R.Read.remaining c.loop-taker.reader) (g.W.Write.contents c.args.writer.now) (g.W.Write.contents c.loop-taker.writer) c.loop-taker.chunk c.loop-taker.taker.counts c.loop-taker.left c.loop-taker.invariant.state (g.R.Read.remaining c.fill.new.reader) c.fill.new.self c.in-Some.count r c.in-Some-checked_sub.ensures.0

pub loop-taker-preserved : goal.loop-taker-preserved
loop-taker-preserved g c =
    let r = subst (λ (o : Option ℕ). IfSome o (HasRead (g.R.Read.remaining c.loop-taker.reader) (g.R.Read.remaining c.fill.new.reader) c.loop-taker.chunk c.fill.new.self)) c.in-Some.is c.in_ok-count.ensures in
    let i = c.loop-taker.invariant in
    let kept = c.in_ok-take_new.ensures.kept in
    let fewer : c.in-Some-checked_sub.left + c.in-Some.count ≡ c.loop-taker.left = omega (arith, c.in-Some-checked_sub.ensures.0, c.in-Some-checked_sub.ensures.1) in
    let h = moved-taking {F = Unit {0}} (g.L.LookUp.table c.args.look_up.now) (g.L.LookUp.table c.loop-taker.look_up) (record { specs = c.args.search.now.specs; selection = c.args.selection }) c.loop-taker.taker.chooser.asked c.args.separator c.loop-taker.taker.chooser.separator c.fill.new.self c.take_new.new.chunk (g.W.Write.contents c.loop-taker.writer) (g.W.Write.contents c.take_new.new.writer) c.loop-taker.taker.counts c.take_new.new.self.counts (Ok tt) i.table i.asked i.separator c.in_ok-take_new.ensures.ends in
    record {
      state = filtered-taken (is_taken (g.L.LookUp.table c.args.look_up.now) (record { specs = c.args.search.now.specs; selection = c.args.selection })) c.args.separator (g.R.Read.remaining c.args.reader.now) (g.R.Read.remaining c.loop-taker.reader) (g.W.Write.contents c.args.writer.now) (g.W.Write.contents c.loop-taker.writer) c.loop-taker.chunk c.loop-taker.taker.counts c.loop-taker.left c.loop-taker.invariant.state (g.R.Read.remaining c.fill.new.reader) c.fill.new.self c.in-Some.count r (g.W.Write.contents c.take_new.new.writer) c.take_new.new.chunk c.take_new.new.self.counts c.in-Some-checked_sub.left fewer h;
      asked = ap (λ (x : Choice). x.asked) kept ∙ i.asked;
      separator = ap (λ (x : Choice). x.separator) kept ∙ i.separator;
      held = c.in_ok-take_new.ensures.held;
      table = c.in_ok-take_new.ensures.table_stays ∙ i.table;
      count = c.in_ok-take_new.ensures.counts ∙ i.count;
    }

pub returns-in_err-take_new-clause-ends : goal.returns-in_err-take_new-clause-ends
returns-in_err-take_new-clause-ends g c =
    let r = subst (λ (o : Option ℕ). IfSome o (HasRead (g.R.Read.remaining c.loop-taker.reader) (g.R.Read.remaining c.fill.new.reader) c.loop-taker.chunk c.fill.new.self)) c.in-Some.is c.in_ok-count.ensures in
    let i = c.loop-taker.invariant in
    let e = c.in_err-take_new.field-0.0 in
    let p = err_from_is_err_and c.from_residual-in_err-take_new.result c.from_residual-in_err-take_new.ensures.1 in
    let h = moved-taking (g.L.LookUp.table c.args.look_up.now) (g.L.LookUp.table c.loop-taker.look_up) (record { specs = c.args.search.now.specs; selection = c.args.selection }) c.loop-taker.taker.chooser.asked c.args.separator c.loop-taker.taker.chooser.separator c.fill.new.self c.take_new.new.chunk (g.W.Write.contents c.loop-taker.writer) (g.W.Write.contents c.take_new.new.writer) c.loop-taker.taker.counts c.take_new.new.self.counts (Err e) i.table i.asked i.separator c.in_err-take_new.ensures.ends in
    rw (p.1, p.2) (filtered-refused (is_taken (g.L.LookUp.table c.args.look_up.now) (record { specs = c.args.search.now.specs; selection = c.args.selection })) c.args.separator (g.R.Read.remaining c.args.reader.now) (g.R.Read.remaining c.loop-taker.reader) (g.W.Write.contents c.args.writer.now) (g.W.Write.contents c.loop-taker.writer) c.loop-taker.chunk c.loop-taker.taker.counts c.loop-taker.left c.loop-taker.invariant.state (g.R.Read.remaining c.fill.new.reader) c.fill.new.self c.in-Some.count r (g.W.Write.contents c.take_new.new.writer) c.take_new.new.chunk c.take_new.new.self.counts e h)
