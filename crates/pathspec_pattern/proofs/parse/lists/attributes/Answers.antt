-- Each part is skipped, taken or refused.
use Rattle.std.proofs.Common.{◌≡◌, ◌++◌, ◌∷◌, [], sym, ◌∙◌}
use Rattle.std.proofs.lemmas.List.{map-append}
use Rattle.std.proofs.lemmas.Option.{IfSome_then}
use Rattle.std.proofs.lemmas.Result.{err_from_is_err_and}
use Rattle.pathspec_parts.specs.AttributeStates.{assignment_view}
use Rattle.pathspec_pattern.specs.Errors.{fault_of}
use Rattle.pathspec_pattern.proofs.ListProofs.{list-empty, list-filled, list-skips, list-takes, list-refuses, list-all}
use Rattle.pathspec_pattern.proofs.parse.lists.attributes.Goals as goal

pub returns-then-is_empty : goal.returns-then-is_empty
returns-then-is_empty c = list-empty c.args.list.now (sym c.is_empty.ensures ∙ c.if-is_empty.true)

pub returns-in_err-assignment : goal.returns-in_err-assignment
returns-in_err-assignment c =
    let p = err_from_is_err_and c.from_residual.result c.from_residual.ensures.1 in
    let filled = list-filled c.args.list.now (sym c.is_empty.ensures ∙ c.if-is_empty.false) in
    let refused = list-refuses c.args.list.now c.loop-rest.rest.now _ _ _ c.loop-rest.invariant c.at_first.ensures.before c.at_first.ensures.after in
    rw (p.1, p.2) (IfSome_then (fault_of c.in_err-assignment.field-0.0) c.in_err-assignment.ensures (λ fault said. filled ∙ refused fault (sym c.is_empty-in-loop-rest-2.ensures ∙ c.if-not-is_empty.true) said))

pub loop-rest-preserved-in_ok-push : goal.loop-rest-preserved-in_ok-push
loop-rest-preserved-in_ok-push c =
    let items : c.push.new.self.items ≡ c.loop-rest.assignments.items ++ c.in_ok-assignment.field-0 ∷ [] = c.in_ok-push.ensures.items in
    let taken = list-takes c.args.list.now c.loop-rest.rest.now _ _ _ c.loop-rest.invariant c.at_first.ensures.before c.at_first.ensures.after (assignment_view c.in_ok-assignment.field-0) (sym c.is_empty-in-loop-rest-2.ensures ∙ c.if-not-is_empty.true) c.in_ok-assignment.ensures in
    rw (items, map-append) taken

pub loop-rest-preserved : goal.loop-rest-preserved
loop-rest-preserved c = list-skips c.args.list.now c.loop-rest.rest.now _ _ _ c.loop-rest.invariant c.at_first.ensures.before c.at_first.ensures.after (sym c.is_empty-in-loop-rest-2.ensures ∙ c.if-not-is_empty.false)

pub returns : goal.returns
returns c = list-filled c.args.list.now (sym c.is_empty.ensures ∙ c.if-is_empty.false) ∙ list-all c.args.list.now c.loop-rest.rest.now _ c.loop-rest.invariant (sym c.is_empty-in-loop-rest.ensures ∙ c.loop-rest-test.false)
