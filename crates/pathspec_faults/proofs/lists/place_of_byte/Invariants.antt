use Rattle.std.proofs.Common.{◌≡◌, ◌+◌, drop, false}
use Rattle.pathspec_faults.specs.Places.{place_of_byte}
use Rattle.pathspec_faults.proofs.lists.place_of_byte.Given as goal

abbrev pub invariant-loop-index : goal.invariant-loop-index
invariant-loop-index l = place_of_byte l.wanted l.escaped (l.start + l.index) (drop l.index l.value) ≡ place_of_byte l.wanted false l.start l.fn.value
