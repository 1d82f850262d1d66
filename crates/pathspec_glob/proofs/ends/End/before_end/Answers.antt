use Rattle.std.proofs.Common.{sym, arith}
use Rattle.pathspec_glob.proofs.EndProofs.{end_short}
use Rattle.pathspec_glob.proofs.ends.End.before_end.Goals as goal

pub returns-then-text-len-clause-taken : goal.returns-then-text-len-clause-taken
returns-then-text-len-clause-taken c = sym (end_short c.args.self.now.mode c.args.case c.args.self.now.tokens c.args.text.now (omega (arith, c.if-text-len.true, c.len.ensures)))
