-- Line by line, up to the first that ends the specs.
use Rattle.std.proofs.Common.{◌∙◌, sym, subst, List, ℕ}
use Rattle.pathspec_select.proofs.InputProofs.{IsReadTo, read-none, read-line, read-end, concat-of}
use Rattle.pathspec_select.proofs.input.divide.Goals as goal

pub loop-line-init : goal.loop-line-init
loop-line-init c = subst (λ (lines : List (List ℕ)). IsReadTo c.args.input.now 0 lines) (sym c.lines_with_terminator-lines.ensures.value) (read-none c.args.input.now)

pub returns-then-is_end_line-clause-listing : goal.returns-then-is_end_line-clause-listing
returns-then-is_end_line-clause-listing c =
    let end = read-end c.args.input.now c.loop-line.before c.in-Some.line.now c.loop-line.lines c.next.new.self c.loop-line.invariant c.in-Some.ensures.steps (sym c.is_end_line.ensures ∙ c.if-is_end_line.true) in
    concat-of c.as_bytes.result.now c.next.new.self c.as_bytes.ensures ∙ end.1

pub loop-line-preserved : goal.loop-line-preserved
loop-line-preserved c = read-line c.args.input.now c.loop-line.before c.in-Some.line.now c.loop-line.lines c.next.new.self c.loop-line.invariant c.in-Some.ensures.steps (sym c.is_end_line.ensures ∙ c.if-is_end_line.false)
