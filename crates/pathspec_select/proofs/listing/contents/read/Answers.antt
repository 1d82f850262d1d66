use Rattle.std.proofs.Common.{◌<◌, ◌+◌, ◌-◌, length, sym, ◌∙◌, subst, arith, refl}
use Rattle.std.proofs.lemmas.Bool.Decides.{nat_tests}
use Rattle.pathspec_parts.specs.Records.{records}
use Rattle.pathspec_parts.specs.RecordParts.{first_record, behind_record}
use Rattle.pathspec_select.specs.ListingAnswers.{RefusesRecords}
use Rattle.pathspec_select.proofs.ReadProofs.{read_none, record_at, read_one, read_refused, read_all}
use Rattle.pathspec_select.proofs.RecordProofs.{records_are_entries}
use Rattle.pathspec_select.proofs.listing.contents.read.Goals as goal

pub loop-directory-init : goal.loop-directory-init
loop-directory-init c = read_none c.args.bytes.now c.args.separator _ _ refl c.new-outline.ensures

pub add_first-requires-clause-record : goal.add_first-requires-clause-record
add_first-requires-clause-record c =
    let l = c.loop-directory in
    record_at c.args.bytes.now c.args.separator l.rest.now l.directory.now l.outline l.number l.invariant
    (first_record c.args.separator l.rest.now) (behind_record c.args.separator l.rest.now) (sym c.is_empty.ensures ∙ c.loop-directory-test.true) refl refl (length c.args.bytes.now - length l.rest.now) refl

pub loop-directory-preserved : goal.loop-directory-preserved
loop-directory-preserved c =
    let l = c.loop-directory in
    let e = c.in-Ok.ensures in
    read_one c.args.bytes.now c.args.separator l.rest.now l.directory.now l.outline l.number l.invariant
    (first_record c.args.separator l.rest.now) c.in-Ok.after.now (sym c.is_empty.ensures ∙ c.loop-directory-test.true) refl e.after
    c.in-Ok.open.now c.add_first.new.outline (l.number + 1) refl e.kept e.there e.tree e.marks e.names e.free e.answers

pub returns-in-Err-clause-answers : goal.returns-in-Err-clause-answers
returns-in-Err-clause-answers c =
    let l = c.loop-directory in
    subst (RefusesRecords (records c.args.separator c.args.bytes.now)) (sym c.refusal.ensures)
    (read_refused c.args.bytes.now c.args.separator l.rest.now l.directory.now l.outline l.number l.invariant
    (first_record c.args.separator l.rest.now) (behind_record c.args.separator l.rest.now) (sym c.is_empty.ensures ∙ c.loop-directory-test.true) refl refl c.in-Err.error (l.number + 1) refl c.in-Err.ensures.answers)

pub returns-in-Err-clause-entries : goal.returns-in-Err-clause-entries
returns-in-Err-clause-entries c = records_are_entries (records c.args.separator c.args.bytes.now)

pub returns-clause-contents : goal.returns-clause-contents
returns-clause-contents c =
    let l = c.loop-directory in
    (read_all c.args.bytes.now c.args.separator l.rest.now l.directory.now l.outline l.number l.invariant (sym c.is_empty.ensures ∙ c.loop-directory-test.false)).0

pub returns-clause-entries : goal.returns-clause-entries
returns-clause-entries c = records_are_entries (records c.args.separator c.args.bytes.now)

pub returns-clause-answers : goal.returns-clause-answers
returns-clause-answers c =
    let l = c.loop-directory in
    (read_all c.args.bytes.now c.args.separator l.rest.now l.directory.now l.outline l.number l.invariant (sym c.is_empty.ensures ∙ c.loop-directory-test.false)).1

pub overflow_sub-start : goal.overflow_sub-start
overflow_sub-start c = omega (arith, c.loop-directory.invariant.counted)

pub overflow_add-number : goal.overflow_add-number
overflow_add-number c =
    let some : 0 < length c.loop-directory.rest.now = grind (arith, nat_tests, c.is_empty.ensures, c.loop-directory-test.true) in
    omega (arith, some, c.loop-directory.invariant.counted)
