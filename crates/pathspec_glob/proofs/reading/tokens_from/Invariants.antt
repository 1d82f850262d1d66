use Rattle.std.proofs.Common.{◌≡◌, ◌++◌, length, map}
use Rattle.pathspec_glob.proofs.Words.{tokens_from, listed, tokens_view}
use Rattle.pathspec_glob.proofs.reading.tokens_from.Given as goal

abbrev pub invariant-loop-rest : goal.invariant-loop-rest
invariant-loop-rest l = tokens_view l.all.items ++ map listed (tokens_from l.mode 0 l.after_slash l.rest) ≡ map listed (tokens_from l.mode 0 l.fn.after_slash l.fn.rest)

abbrev pub decreases-loop-rest : goal.decreases-loop-rest
decreases-loop-rest l = length l.rest
