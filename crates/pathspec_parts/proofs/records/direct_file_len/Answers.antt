use Rattle.std.proofs.Common.{rules, ◌∙◌, sym}
use Rattle.memchr.specs.Find.{is_byte2}
use Rattle.pathspec_glob.specs.Bytes.{slash}
use Rattle.pathspec_parts.proofs.RecordPartProofs.{first_place, begins_with_file}
use Rattle.pathspec_parts.proofs.records.direct_file_len.Goals as goal

pub bounds-behind-length : goal.bounds-behind-length
bounds-behind-length c = (first_place (is_byte2 slash c.args.separator) c.in_ok-behind.behind.now c.in_ok-length.length c.next.new.self (sym c.memchr2_iter.ensures.value ∙ c.in_ok-length.ensures.steps)).1

pub overflow_add-result : goal.overflow_add-result
overflow_add-result c =
    let first = first_place (is_byte2 slash c.args.separator) c.in_ok-behind.behind.now c.in_ok-length.length c.next.new.self (sym c.memchr2_iter.ensures.value ∙ c.in_ok-length.ensures.steps) in
    let inside = first.1 in
    let total = c.in_ok-behind.ensures.cases.2 in
    search (rules, inside, total)

pub returns-then-behind-length : goal.returns-then-behind-length
returns-then-behind-length c =
    let s = c.in_ok-behind.ensures.cases in
    begins_with_file c.args.separator c.args.directory.now c.args.rest.now c.in_ok-behind.behind.now s.0 s.1 c.requires c.in_ok-length.length c.next.new.self (sym c.memchr2_iter.ensures.value ∙ c.in_ok-length.ensures.steps)
    c.if-length-ne0.true c.if-behind-length.true
