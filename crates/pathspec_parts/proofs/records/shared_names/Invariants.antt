use Rattle.std.proofs.Common.{◌-◌, ◌≤◌, length}
use Rattle.pathspec_parts.proofs.records.shared_names.Given as goal

abbrev pub invariant-loop-length : goal.invariant-loop-length
invariant-loop-length l = record { in_left : l.length ≤ length l.left; in_right : l.length ≤ length l.right }

abbrev pub decreases-loop-length : goal.decreases-loop-length
decreases-loop-length l = length l.left - l.length
