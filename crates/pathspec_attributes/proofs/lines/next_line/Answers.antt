use Rattle.std.proofs.Common.{sym, ◌∙◌}
use Rattle.pathspec_attributes.proofs.LineProofs.{line-at, line-last}
use Rattle.pathspec_attributes.proofs.lines.next_line.Goals as goal

pub returns-in-Some : goal.returns-in-Some
returns-in-Some c = line-at _ _ _ (sym c.in-Some.ensures) c.without_carriage_return.ensures

pub returns-in-None : goal.returns-in-None
returns-in-None c = line-last _ (sym c.in-None.ensures) (sym c.is_empty.ensures ∙ c.if-is_empty.false)
