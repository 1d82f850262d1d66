use Rattle.pathspec_glob.proofs.BitProofs.{has_further, has_further_first}
use Rattle.pathspec_glob.proofs.tokens.word.further.Goals as goal

pub returns-then-first : goal.returns-then-first
returns-then-first c i h = rw c.if-first.true (has_further_first c.args.word i h)

pub returns-else-first : goal.returns-else-first
returns-else-first c i h = rw c.if-first.false (has_further c.args.word i h)
