use Rattle.std.proofs.Common.{◌-◌, ◌≤◌}
use Rattle.std.specs.List.{position_or_len}
use Rattle.pathspec_glob.specs.Bytes.{is_wildcard}
use Rattle.pathspec_glob.proofs.wildcards.plain_bytes.Given as goal

abbrev pub invariant-loop-at : goal.invariant-loop-at
invariant-loop-at l = l.at ≤ position_or_len is_wildcard l.text

abbrev pub decreases-loop-at : goal.decreases-loop-at
decreases-loop-at l = l.last - l.at
