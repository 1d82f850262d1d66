-- The first place after some bytes, told from the first place of all.
use Rattle.std.proofs.Common.{◌∙◌, sym}
use Rattle.pathspec_glob.proofs.BracketProofs.{position-after, position-after_none}
use Rattle.pathspec_glob.proofs.brackets.closing_after.Goals as goal

pub returns-in_err-place : goal.returns-in_err-place
returns-in_err-place c = c.from_residual.ensures ∙ position-after_none _ c.args.bytes.now c.args.size c.requires.size (sym c.requires.closing ∙ c.in_err-place.was)

pub returns-else-place-size : goal.returns-else-place-size
returns-else-place-size c = position-after _ c.args.bytes.now c.args.size c.in_ok-place.place (sym c.requires.closing ∙ c.in_ok-place.was) c.if-place-size.false
