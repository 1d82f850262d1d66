use Rattle.std.proofs.Common.{sym}
use Rattle.std.specs.Int.Bits.{or_zero_r}
use Rattle.pathspec_glob.proofs.tokens.word.step.enter.Goals as goal

pub returns-then-over-eq0 : goal.returns-then-over-eq0
returns-then-over-eq0 c = rw c.if-over-eq0.true (sym (or_zero_r c.args.come))
