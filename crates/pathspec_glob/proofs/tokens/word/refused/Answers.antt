use Rattle.std.proofs.Common.{not, ◌∙◌, ap, arith}
use Rattle.pathspec_glob.proofs.BitProofs.{has_not}
use Rattle.pathspec_glob.proofs.tokens.word.refused.Goals as goal

pub returns : goal.returns
returns c i h = has_not c.states_of.result i (omega (arith, c.states_of.type_inv)) h ∙ ap not (c.states_of.ensures i h)
