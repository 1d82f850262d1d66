-- The one question, and its answer.
use Rattle.std.proofs.Common.{refl, ap, Some, rules, of_calls}
use Rattle.std.specs.Option.{option_copied}
use Rattle.pathspec_pattern.proofs.defaults.ask_flag.Goals as goal

pub returns-in-Some-clause-asked : goal.returns-in-Some-clause-asked
returns-in-Some-clause-asked g c = record {
  words = Some c.in-Some.word.now;
  asked = (c.var.result, c.var.new.self, search (rules, of_calls), ap option_copied c.in-Some.is, refl);
  answer = rw (← c.as_bytes.ensures.value) c.flag_of.ensures;
}
