use Rattle.std.proofs.Common.{◌||◌, sym, ◌∙◌, ap, arith}
use Rattle.pathspec_glob.specs.GlobCells.{has}
use Rattle.pathspec_glob_set.proofs.RowProofs.{leads-same}
use Rattle.pathspec_glob_set.proofs.table.row.closed_word.Goals as goal

pub loop-round-preserved : goal.loop-round-preserved
loop-round-preserved c i h =
    let row = c.loop-round.row in
    let next = c.follow-next.result in
    let wide = c.args.wide in
    let over = c.args.over in
    let round = c.loop-round._round in
    c.follow-next.ensures i (omega (arith, h, c.loop-round-test.true))
    ∙ ap (λ x. has c.args.entered i || x) (leads-same (has wide) (has over) (has row) (has next) i (λ j l.
    c.loop-round.invariant j (omega (arith, h, l)) ∙ sym (c.follow-next.ensures j (omega (arith, h, l, c.loop-round-test.true)))))

pub returns : goal.returns
returns c i h = c.loop-round.invariant i (omega (arith, h, c.loop-round-test.false))
