-- What stands before the last digit, and that.
use Rattle.std.proofs.lemmas.Bool.{ne_eqb}
use Rattle.pathspec_pattern.proofs.NumberProofs.{number-after}
use Rattle.pathspec_pattern.proofs.pattern.long_text.+write_number.Goals as goal

pub returns : goal.returns
returns t c = number-after c.args.text.now.items c.write_number.new.text.items c.push.new.self.items c.args.number (ne_eqb c.args.number 0 c.if-number-eq0.false) c.in_ok-write_number.ensures c.in_ok-push.ensures.items
