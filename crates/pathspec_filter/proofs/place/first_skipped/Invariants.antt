use Rattle.std.proofs.Common.{◌≡◌, ◌-◌, ◌≤◌, length}
use Rattle.pathspec_filter.proofs.place.first_skipped.Given as goal

abbrev pub invariant-loop-length : goal.invariant-loop-length
invariant-loop-length l = record { inside : l.known ≤ length l.directory; kept : l.questions ≡ l.fn.questions }

abbrev pub decreases-loop-length : goal.decreases-loop-length
decreases-loop-length l = length l.directory - l.known
