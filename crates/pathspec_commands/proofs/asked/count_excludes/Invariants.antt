-- The excludes so far.
use Rattle.std.proofs.Common.{◌≡◌, length, take, filter}
use Rattle.pathspec_commands.proofs.asked.count_excludes.Given as goal

abbrev pub invariant-loop-is_exclude : goal.invariant-loop-is_exclude
invariant-loop-is_exclude l = l.count ≡ length (filter (λ b. b) (take l.is_exclude-index l.excludes))
