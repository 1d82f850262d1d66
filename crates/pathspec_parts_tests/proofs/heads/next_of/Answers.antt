-- The head that was found is one of the heads.
use Rattle.std.proofs.Common.{arith}
use Rattle.pathspec_parts_tests.proofs.heads.next_of.Goals as goal

pub next_place-requires : goal.next_place-requires
next_place-requires c = omega (arith, (c.longest_head_of.ensures.found.begins c.in-Some.head c.in-Some.is).0)
