-- The list can be read and its row is pushed, or it can't.
use Rattle.std.proofs.Common.{◌∙◌, sym, ap, map, Ok}
use Rattle.std.proofs.lemmas.Result.{err_from_is_err_and}
use Rattle.pathspec_parts.specs.AttributeStates.{assignment_view}
use Rattle.pathspec_select.proofs.RowProofs.{rows-more, rows-refused, usage-then}
use Rattle.pathspec_select.proofs.rows.add_row.Goals as goal

pub returns-in_err-assignments-clause-row : goal.returns-in_err-assignments-clause-row
returns-in_err-assignments-clause-row c = λ options h.
    let p = err_from_is_err_and c.from_residual.result c.from_residual.ensures.1 in
    rw (p.1, p.2) (usage-then c.in_err-assignments.field-0.0 _ _ (rows-refused options c.args.path.now c.args.list.now c.args.rows.now.rows h) c.in_err-assignments.ensures)

pub returns-clause-row : goal.returns-clause-row
returns-clause-row c = λ options h.
    rows-more options c.args.path.now c.args.list.now c.args.rows.now.rows h (map assignment_view c.in_ok-assignments.assignments.items) c.in_ok-assignments.ensures ∙ ap Ok (sym c.in_ok-push.ensures.ok)
