use Rattle.pathspec_glob.proofs.BitProofs.{has_first}
use Rattle.pathspec_glob.proofs.tokens.word.with_first.Goals as goal

pub returns-then-more : goal.returns-then-more
returns-then-more c i = rw c.if-more.true (has_first c.args.word i)
