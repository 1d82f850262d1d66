-- The count is at most the number of specs so far.
use Rattle.std.proofs.Common.{arith}
use Rattle.pathspec_commands.proofs.SpecPlaceProofs.{few}
use Rattle.pathspec_commands.proofs.asked.count_excludes.Goals as goal

pub overflow_add-count : goal.overflow_add-count
overflow_add-count c = omega (arith, c.loop-is_exclude.invariant, few (λ b. b) c.args.excludes.now c.loop-is_exclude.is_exclude-index (omega arith))
