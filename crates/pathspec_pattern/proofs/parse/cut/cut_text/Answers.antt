-- The cut, by the tests that were made on the way.
use Rattle.std.proofs.Common.{sym, ◌∙◌}
use Rattle.pathspec_parts.specs.Bytes.{open_paren}
use Rattle.pathspec_pattern.proofs.CutProofs.{begins-first, begins-whole, cut-free, cut-body, cut-open, cut-closed}
use Rattle.pathspec_pattern.proofs.parse.cut.cut_text.Goals as goal

pub returns-in-Some : goal.returns-in-Some
returns-in-Some c = cut-free c.args.text.now _ _ _ c.after_first.ensures c.split_short.ensures.short c.split_short.ensures.rest c.in-Some.byte c.in-Some.ensures.free.0 c.in-Some.ensures.free.1

pub returns-in_default-strip_prefix : goal.returns-in_default-strip_prefix
returns-in_default-strip_prefix c =
    cut-body c.args.text.now _ _ _ c.after_first.ensures c.split_short.ensures.short c.split_short.ensures.rest c.in_default.ensures.none _ _ c.split_mark-ended.ensures.ended c.split_mark-ended.ensures.rest
    (sym (begins-first open_paren c.split_mark-ended.result.1.now) ∙ c.in_default-strip_prefix.ensures.cases)

pub returns-then-not-contains : goal.returns-then-not-contains
returns-then-not-contains c =
    rw (c.in_ok-to_vec.ensures.ok) (cut-open c.args.text.now _ _ _ c.after_first.ensures c.split_short.ensures.short c.split_short.ensures.rest c.in_default.ensures.none _ _ c.split_mark-ended.ensures.ended c.split_mark-ended.ensures.rest _
    (begins-whole open_paren _ _ c.in-Some-strip_prefix.ensures.cases.0 c.in-Some-strip_prefix.ensures.cases.1) (sym c.contains.ensures.value ∙ c.if-not-contains.true))

pub returns : goal.returns
returns c =
    rw (c.at_first.ensures.before, c.at_first.ensures.after) (cut-closed c.args.text.now _ _ _ c.after_first.ensures c.split_short.ensures.short c.split_short.ensures.rest c.in_default.ensures.none _ _ c.split_mark-ended.ensures.ended c.split_mark-ended.ensures.rest _
    (begins-whole open_paren _ _ c.in-Some-strip_prefix.ensures.cases.0 c.in-Some-strip_prefix.ensures.cases.1) (sym c.contains.ensures.value ∙ c.if-not-contains.false))
