-- So many slashes were at the end.
use Rattle.std.proofs.Common.{◌≡◌, ◌+◌, ◌≤◌, length, take}
use Rattle.std.specs.List.{suffix_len}
use Rattle.pathspec_parts.specs.Paths.{is_slash}
use Rattle.pathspec_c.proofs.many.without_slashes.Given as goal

abbrev pub invariant-loop-length : goal.invariant-loop-length
invariant-loop-length l = record {
  within : l.length ≤ length l.text;
  counted : l.length + suffix_len is_slash l.text ≡ length l.text + suffix_len is_slash (take l.length l.text);
}

abbrev pub decreases-loop-length : goal.decreases-loop-length
decreases-loop-length l = l.length
