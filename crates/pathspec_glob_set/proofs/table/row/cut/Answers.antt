use Rattle.pathspec_glob_set.proofs.RowProofs.{cut-kept}
use Rattle.pathspec_glob_set.proofs.table.row.cut.Goals as goal

pub returns-then-settled-ends-clause-kept : goal.returns-then-settled-ends-clause-kept
returns-then-settled-ends-clause-kept c =
    cut-kept c.args.cuts.now c.args.ends.now c.args.row.now c.forget_behind.new.row c.first_settled-settled.result c.if-settled-ends.true
    (c.first_settled-settled.ensures.settled c.if-settled-ends.true) c.forget_behind.ensures.kept
