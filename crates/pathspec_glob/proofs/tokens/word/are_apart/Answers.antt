use Rattle.std.proofs.Common.{◌/◌, bit_and}
use Rattle.std.proofs.lemmas.Bool.{eqb-true}
use Rattle.pathspec_glob.proofs.BitProofs.{apart}
use Rattle.pathspec_glob.proofs.tokens.word.are_apart.Goals as goal

pub returns : goal.returns
returns c none = apart c.args.word (eqb-true (bit_and c.args.word (c.args.word / 2)) 0 none)
