-- The text is no shorter than the front, whose bytes it begins with or not.
use Rattle.std.proofs.Common.{◌∙◌}
use Rattle.gix_pathspec.proofs.TextProofs.{begins-folded_take}
use Rattle.gix_pathspec.proofs.search.spec_matching.begins_with.Goals as goal

pub returns-then-n-text : goal.returns-then-n-text
returns-then-n-text c = c.is_same_text.ensures ∙ begins-folded_take c.args.ignore_case c.args.text.now c.args.front.now c.if-n-text.true
