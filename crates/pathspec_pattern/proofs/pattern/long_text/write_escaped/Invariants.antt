use Rattle.std.proofs.Common.{◌≡◌, ◌++◌, take}
use Rattle.pathspec_pattern.specs.LongText.{with_escapes}
use Rattle.pathspec_pattern.proofs.pattern.long_text.write_escaped.Given as goal

abbrev pub invariant-loop-byte : goal.invariant-loop-byte
invariant-loop-byte l = l.text.items ≡ l.fn.text.items ++ with_escapes (take l.byte-index l.bytes)
