use Rattle.std.proofs.Common.{sym, ap, ◌∙◌}
use Rattle.std.specs.Option.{option_copied}
use Rattle.pathspec_parts.proofs.CursorProofs.{last_tells, none_tells}
use Rattle.pathspec_parts.proofs.tree.steps.has_last.Goals as goal

pub returns-in-Some : goal.returns-in-Some
returns-in-Some c = last_tells c.args.numbers.now c.args.number c.in-Some.last.now c.requires.rising c.requires.below (sym c.last.ensures.value ∙ ap option_copied c.in-Some.is)

pub returns-in-None : goal.returns-in-None
returns-in-None c = none_tells c.args.numbers.now c.args.number (sym c.last.ensures.value ∙ ap option_copied c.in-None.is)
