use Rattle.std.proofs.Common.{◌≡◌, drop}
use Rattle.pathspec_pattern.specs.AttributeLists.{value_of}
use Rattle.pathspec_pattern.proofs.ListProofs.{in_front, value_from}
use Rattle.pathspec_pattern.proofs.parse.lists.value.Given as goal

abbrev pub invariant-loop-byte : goal.invariant-loop-byte
invariant-loop-byte l = value_of l.fn.written ≡ in_front l.value.items (value_from l.fn.written l.escaped (drop l.byte-index l.fn.written))
