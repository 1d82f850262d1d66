use Rattle.std.proofs.Common.{◌<◌, length, arith}
use Rattle.pathspec_glob.proofs.WordProofs.{cells-from}
use Rattle.pathspec_glob.proofs.tokens.word.cells.Goals.{then-not-is_wide, else-not-is_wide}
use Rattle.pathspec_glob.proofs.tokens.word.cells.Goals as goal

pub loop-place-preserved : goal.loop-place-preserved
loop-place-preserved c =
    let tokens = c.args.tokens.now.tokens in
    let within : c.loop-place.place < length tokens = omega (arith, c.loop-place-test.true, c.len-place-end.ensures) in
    let here = cells-from tokens c.loop-place.place c.is_wide.result within c.is_wide.ensures in
    elim c.if-not-is_wide.branch [
      | then-not-is_wide w ↦
          let more = rw w.if-not-is_wide.true at here in
          record { count = omega (arith, more, w.count-is, c.loop-place.invariant.count); within = omega (arith, w.count-is, c.loop-place.invariant.within) }
      | else-not-is_wide w ↦
          let more = rw w.if-not-is_wide.false at here in
          record { count = omega (arith, more, w.count-is, c.loop-place.invariant.count); within = omega (arith, w.count-is, c.loop-place.invariant.within) }
    ]
