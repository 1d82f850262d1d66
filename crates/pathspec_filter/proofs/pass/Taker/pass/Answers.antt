-- After each record what was written, what is held back and the run are the output of the records so far.
use Rattle.std.proofs.Common.{◌+◌, ◌-◌, ◌∙◌, sym, ap, subst, refl, List, ℕ, true, false, arith, length}
use Rattle.std.proofs.lemmas.List.{take_rest}
use Rattle.std.proofs.lemmas.Result.{err_from_is_err_and}
use Rattle.pathspec_filter.specs.declared.answers.Counts.{Counts}
use Rattle.pathspec_filter.specs.Places.{chooses}
use Rattle.pathspec_filter.specs.Passes.{IsWithin, HasPassed}
use Rattle.pathspec_filter.proofs.PassProofs.{within-start, within-room, within-fits, within-few, within-yes, within-no, within-front, within-passed, found-good, found-none, found-one_bad}
use Rattle.pathspec_filter.proofs.pass.Taker.pass.Goals as goal

pub loop-record-init : goal.loop-record-init
loop-record-init g c = record {
  within = within-start (chooses (g.L.LookUp.table c.args.look_up.now) c.args.self.now.chooser) c.args.self.now.chooser.separator c.args.bytes.now c.args.self.now.held.items (g.W.Write.contents c.args.writer.now) c.args.self.now.counts c.requires.held;
  kept = refl;
  table = refl;
  count = refl;
}

pub counts_with-self-requires-clause-room : goal.counts_with-self-requires-clause-room
counts_with-self-requires-clause-room g c =
    let f = found-good (g.L.LookUp.table c.args.look_up.now) (g.L.LookUp.table c.loop-record.look_up) c.args.self.now.chooser c.loop-record.self.chooser c.loop-record.rest.now _ c.loop-record.run c.in_ok-record.field-0 c.loop-record.invariant.table c.loop-record.invariant.kept (take_rest c.loop-record.rest.now c.loop-record.run) c.in_ok-record.ensures.found c.in-Record.record c.in-Record.is in
    omega (arith, within-room (chooses (g.L.LookUp.table c.args.look_up.now) c.args.self.now.chooser) c.args.self.now.chooser.separator c.args.bytes.now c.loop-record.rest.now c.loop-record.run (g.W.Write.contents c.args.writer.now) (g.W.Write.contents c.loop-record.writer) c.loop-record.self.held.items c.args.self.now.counts c.loop-record.self.counts c.loop-record.invariant.within c.in-Record.record.length c.in-Record.record.is_taken f, c.requires.room)

pub counts_with-self-requires-clause-few : goal.counts_with-self-requires-clause-few
counts_with-self-requires-clause-few g c = within-few (chooses (g.L.LookUp.table c.args.look_up.now) c.args.self.now.chooser) c.args.self.now.chooser.separator c.args.bytes.now c.loop-record.rest.now c.loop-record.run (g.W.Write.contents c.args.writer.now) (g.W.Write.contents c.loop-record.writer) c.loop-record.self.held.items c.args.self.now.counts c.loop-record.self.counts c.loop-record.invariant.within c.requires.few

pub overflow_add-end : goal.overflow_add-end
overflow_add-end g c =
    let f = found-good (g.L.LookUp.table c.args.look_up.now) (g.L.LookUp.table c.loop-record.look_up) c.args.self.now.chooser c.loop-record.self.chooser c.loop-record.rest.now _ c.loop-record.run c.in_ok-record.field-0 c.loop-record.invariant.table c.loop-record.invariant.kept (take_rest c.loop-record.rest.now c.loop-record.run) c.in_ok-record.ensures.found c.in-Record.record c.in-Record.is in
    omega (arith, within-fits (chooses (g.L.LookUp.table c.args.look_up.now) c.args.self.now.chooser) c.args.self.now.chooser.separator c.args.bytes.now c.loop-record.rest.now c.loop-record.run (g.W.Write.contents c.args.writer.now) (g.W.Write.contents c.loop-record.writer) c.loop-record.self.held.items c.args.self.now.counts c.loop-record.self.counts c.loop-record.invariant.within c.in-Record.record.length c.in-Record.record.is_taken f, c.requires.room)

pub overflow_add-end-in-Record : goal.overflow_add-end-in-Record
overflow_add-end-in-Record g c =
    let f = found-good (g.L.LookUp.table c.args.look_up.now) (g.L.LookUp.table c.loop-record.look_up) c.args.self.now.chooser c.loop-record.self.chooser c.loop-record.rest.now _ c.loop-record.run c.in_ok-record.field-0 c.loop-record.invariant.table c.loop-record.invariant.kept (take_rest c.loop-record.rest.now c.loop-record.run) c.in_ok-record.ensures.found c.in-Record.record c.in-Record.is in
    omega (arith, within-fits (chooses (g.L.LookUp.table c.args.look_up.now) c.args.self.now.chooser) c.args.self.now.chooser.separator c.args.bytes.now c.loop-record.rest.now c.loop-record.run (g.W.Write.contents c.args.writer.now) (g.W.Write.contents c.loop-record.writer) c.loop-record.self.held.items c.args.self.now.counts c.loop-record.self.counts c.loop-record.invariant.within c.in-Record.record.length c.in-Record.record.is_taken f, c.requires.room)

pub loop-record-preserved-then-record : goal.loop-record-preserved-then-record
loop-record-preserved-then-record g c =
    let f = found-good (g.L.LookUp.table c.args.look_up.now) (g.L.LookUp.table c.loop-record.look_up) c.args.self.now.chooser c.loop-record.self.chooser c.loop-record.rest.now _ c.loop-record.run c.in_ok-record.field-0 c.loop-record.invariant.table c.loop-record.invariant.kept (take_rest c.loop-record.rest.now c.loop-record.run) c.in_ok-record.ensures.found c.in-Record.record c.in-Record.is in
    let counted = c.counts_with-self.ensures in
    record {
      within = within-yes (chooses (g.L.LookUp.table c.args.look_up.now) c.args.self.now.chooser) c.args.self.now.chooser.separator c.args.bytes.now c.loop-record.rest.now c.loop-record.run (g.W.Write.contents c.args.writer.now) (g.W.Write.contents c.loop-record.writer) c.loop-record.self.held.items c.args.self.now.counts c.loop-record.self.counts c.loop-record.invariant.within c.in-Record.record.length c.in-Record.record.is_taken f c.counts_with-self.result counted.records counted.selected c.if-record.true;
      kept = c.in_ok-record.ensures.kept ∙ c.loop-record.invariant.kept;
      table = c.in_ok-record.ensures.table_stays ∙ c.loop-record.invariant.table;
      count = c.in_ok-record.ensures.counts ∙ c.loop-record.invariant.count;
    }

pub returns-in_err-hold-in-Record-clause-stopped : goal.returns-in_err-hold-in-Record-clause-stopped
returns-in_err-hold-in-Record-clause-stopped g c =
    let p = err_from_is_err_and c.from_residual-in_err-hold-in-Record.result c.from_residual-in_err-hold-in-Record.ensures.1 in
    rw p.1 (within-front (chooses (g.L.LookUp.table c.args.look_up.now) c.args.self.now.chooser) c.args.self.now.chooser.separator c.args.bytes.now c.loop-record.rest.now c.loop-record.run (g.W.Write.contents c.args.writer.now) (g.W.Write.contents c.loop-record.writer) c.loop-record.self.held.items c.args.self.now.counts c.loop-record.self.counts c.loop-record.invariant.within _ c.in_err-hold-in-Record.ensures.front)

pub loop-record-preserved : goal.loop-record-preserved
loop-record-preserved g c =
    let f = found-good (g.L.LookUp.table c.args.look_up.now) (g.L.LookUp.table c.loop-record.look_up) c.args.self.now.chooser c.loop-record.self.chooser c.loop-record.rest.now _ c.loop-record.run c.in_ok-record.field-0 c.loop-record.invariant.table c.loop-record.invariant.kept (take_rest c.loop-record.rest.now c.loop-record.run) c.in_ok-record.ensures.found c.in-Record.record c.in-Record.is in
    let counted = c.counts_with-self.ensures in
    let same = c.in_ok-hold-in-Record.ensures.counts in
    let rest = c.loop-record.rest.now in
    let end = c.loop-record.run + c.in-Record.record.length + 1 in
    let next = within-no (chooses (g.L.LookUp.table c.args.look_up.now) c.args.self.now.chooser) c.args.self.now.chooser.separator c.args.bytes.now c.loop-record.rest.now c.loop-record.run (g.W.Write.contents c.args.writer.now) (g.W.Write.contents c.loop-record.writer) c.loop-record.self.held.items c.args.self.now.counts c.loop-record.self.counts c.loop-record.invariant.within c.in-Record.record.length c.in-Record.record.is_taken f c.hold.new.self.counts (ap (λ (x : Counts). x.records) same ∙ counted.records) (ap (λ (x : Counts). x.selected) same ∙ counted.selected) c.if-record.false (g.W.Write.contents c.hold.new.writer) c.hold.new.self.held.items c.in_ok-hold-in-Record.ensures.written in
    record {
      within = subst (λ (xs : List ℕ). IsWithin (chooses (g.L.LookUp.table c.args.look_up.now) c.args.self.now.chooser) c.args.self.now.chooser.separator c.args.bytes.now xs 0 (g.W.Write.contents c.args.writer.now) (g.W.Write.contents c.hold.new.writer) c.hold.new.self.held.items c.args.self.now.counts c.hold.new.self.counts) (sym (take_rest rest end)) next;
      kept = c.in_ok-hold-in-Record.ensures.chooser ∙ (c.in_ok-record.ensures.kept ∙ c.loop-record.invariant.kept);
      table = c.in_ok-record.ensures.table_stays ∙ c.loop-record.invariant.table;
      count = c.in_ok-record.ensures.counts ∙ c.loop-record.invariant.count;
    }

pub returns-in_err-write_held-in-Bad-clause-stopped : goal.returns-in_err-write_held-in-Bad-clause-stopped
returns-in_err-write_held-in-Bad-clause-stopped g c =
    let p = err_from_is_err_and c.from_residual-in_err-write_held-in-Bad.result c.from_residual-in_err-write_held-in-Bad.ensures.1 in
    rw p.1 (within-front (chooses (g.L.LookUp.table c.args.look_up.now) c.args.self.now.chooser) c.args.self.now.chooser.separator c.args.bytes.now c.loop-record.rest.now c.loop-record.run (g.W.Write.contents c.args.writer.now) (g.W.Write.contents c.loop-record.writer) c.loop-record.self.held.items c.args.self.now.counts c.loop-record.self.counts c.loop-record.invariant.within _ c.in_err-write_held-in-Bad.ensures.front)

pub returns-in-Bad-clause-passed : goal.returns-in-Bad-clause-passed
returns-in-Bad-clause-passed g c =
    let bad = found-one_bad (g.L.LookUp.table c.args.look_up.now) (g.L.LookUp.table c.loop-record.look_up) c.args.self.now.chooser c.loop-record.self.chooser c.loop-record.rest.now _ c.loop-record.run c.in_ok-record.field-0 c.loop-record.invariant.table c.loop-record.invariant.kept (take_rest c.loop-record.rest.now c.loop-record.run) c.in_ok-record.ensures.found c.in-Bad.is in
    let passed = within-passed (chooses (g.L.LookUp.table c.args.look_up.now) c.args.self.now.chooser) c.args.self.now.chooser.separator c.args.bytes.now c.loop-record.rest.now c.loop-record.run (g.W.Write.contents c.args.writer.now) (g.W.Write.contents c.loop-record.writer) c.loop-record.self.held.items c.args.self.now.counts c.loop-record.self.counts c.loop-record.invariant.within (g.W.Write.contents c.write_held.new.writer) c.in_ok-write_held-in-Bad.ensures.written (length c.args.bytes.now - (length c.loop-record.rest.now - c.loop-record.run)) refl true bad in
    subst (λ (x : Counts). HasPassed (chooses (g.L.LookUp.table c.args.look_up.now) c.args.self.now.chooser) c.args.self.now.chooser.separator c.args.bytes.now (length c.args.bytes.now - (length c.loop-record.rest.now - c.loop-record.run)) true (g.W.Write.contents c.args.writer.now) (g.W.Write.contents c.write_held.new.writer) c.args.self.now.counts x) (sym c.in_ok-write_held-in-Bad.ensures.counts) passed

pub returns-in_err-write_held-in-Partial-clause-stopped : goal.returns-in_err-write_held-in-Partial-clause-stopped
returns-in_err-write_held-in-Partial-clause-stopped g c =
    let p = err_from_is_err_and c.from_residual-in_err-write_held-in-Partial.result c.from_residual-in_err-write_held-in-Partial.ensures.1 in
    rw p.1 (within-front (chooses (g.L.LookUp.table c.args.look_up.now) c.args.self.now.chooser) c.args.self.now.chooser.separator c.args.bytes.now c.loop-record.rest.now c.loop-record.run (g.W.Write.contents c.args.writer.now) (g.W.Write.contents c.loop-record.writer) c.loop-record.self.held.items c.args.self.now.counts c.loop-record.self.counts c.loop-record.invariant.within _ c.in_err-write_held-in-Partial.ensures.front)

pub returns-in-Partial-clause-passed : goal.returns-in-Partial-clause-passed
returns-in-Partial-clause-passed g c =
    let none = found-none (g.L.LookUp.table c.args.look_up.now) (g.L.LookUp.table c.loop-record.look_up) c.args.self.now.chooser c.loop-record.self.chooser c.loop-record.rest.now _ c.loop-record.run c.in_ok-record.field-0 c.loop-record.invariant.table c.loop-record.invariant.kept (take_rest c.loop-record.rest.now c.loop-record.run) c.in_ok-record.ensures.found c.in-Partial.is in
    let passed = within-passed (chooses (g.L.LookUp.table c.args.look_up.now) c.args.self.now.chooser) c.args.self.now.chooser.separator c.args.bytes.now c.loop-record.rest.now c.loop-record.run (g.W.Write.contents c.args.writer.now) (g.W.Write.contents c.loop-record.writer) c.loop-record.self.held.items c.args.self.now.counts c.loop-record.self.counts c.loop-record.invariant.within (g.W.Write.contents c.write_held-in-Partial.new.writer) c.in_ok-write_held-in-Partial.ensures.written (length c.args.bytes.now - (length c.loop-record.rest.now - c.loop-record.run)) refl false none in
    subst (λ (x : Counts). HasPassed (chooses (g.L.LookUp.table c.args.look_up.now) c.args.self.now.chooser) c.args.self.now.chooser.separator c.args.bytes.now (length c.args.bytes.now - (length c.loop-record.rest.now - c.loop-record.run)) false (g.W.Write.contents c.args.writer.now) (g.W.Write.contents c.write_held-in-Partial.new.writer) c.args.self.now.counts x) (sym c.in_ok-write_held-in-Partial.ensures.counts) passed
