use Rattle.std.proofs.Common.{arith, []}
use Rattle.std.proofs.lemmas.List.{ext_get_or}
use Rattle.pathspec_glob_set.proofs.table.moves.are_same.Goals as goal

pub returns : goal.returns
returns c h = ext_get_or [] c.args.some.now c.args.others.now (omega arith) (λ i l. c.loop-place.invariant i (omega arith))
