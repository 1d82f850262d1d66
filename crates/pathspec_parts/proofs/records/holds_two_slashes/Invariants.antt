-- What follows a slash, and the rest, hold two as the whole does.
use Rattle.std.proofs.Common.{◌≡◌, drop, ◌&&◌, ◌||◌}
use Rattle.pathspec_glob.specs.Bytes.{first_is}
use Rattle.pathspec_parts.specs.Paths.{is_slash}
use Rattle.pathspec_parts.specs.Records.{holds_two_slashes}
use Rattle.pathspec_parts.proofs.records.holds_two_slashes.Given as goal

abbrev pub invariant-loop-byte : goal.invariant-loop-byte
invariant-loop-byte l = (l.after_slash && first_is is_slash (drop l.byte-index l.path) || holds_two_slashes (drop l.byte-index l.path)) ≡ holds_two_slashes l.path
