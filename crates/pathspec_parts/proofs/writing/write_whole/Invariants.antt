use Rattle.std.proofs.Common.{length}
use Rattle.pathspec_parts.specs.Writing.{AppendsUpTo}
use Rattle.pathspec_parts.proofs.writing.write_whole.Given as goal

abbrev pub invariant-loop-rest : goal.invariant-loop-rest
invariant-loop-rest g l = AppendsUpTo (g.W.Write.contents l.fn.writer) (g.W.Write.contents l.writer) l.bytes l.rest

abbrev pub decreases-loop-rest : goal.decreases-loop-rest
decreases-loop-rest g l = length l.rest
