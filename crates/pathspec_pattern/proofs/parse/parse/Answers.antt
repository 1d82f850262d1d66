-- The relation that a reading is, from the function, and the laws of texts.
use Rattle.pathspec_pattern.proofs.ParseProofs.{reads-from, refused-from}
use Rattle.pathspec_pattern.proofs.ReadingProofs.{one_cut, reading_is_exact, read_has_boundary}
use Rattle.pathspec_pattern.proofs.BoundaryProofs.{boundary_is_exact}
use Rattle.pathspec_pattern.proofs.PrefixPieceProofs.{prefix_is_asked}
use Rattle.pathspec_pattern.proofs.parse.parse.Goals as goal

pub returns-clause-reads : goal.returns-clause-reads
returns-clause-reads c = reads-from c.args.defaults c.args.input.now c.pattern_of.result c.pattern_of.ensures

pub returns-clause-refused : goal.returns-clause-refused
returns-clause-refused c = refused-from c.args.defaults c.args.input.now c.pattern_of.result c.pattern_of.ensures

pub returns-clause-grammar : goal.returns-clause-grammar
returns-clause-grammar c = (one_cut, reading_is_exact)

pub returns-clause-prefix : goal.returns-clause-prefix
returns-clause-prefix c = (read_has_boundary, boundary_is_exact, prefix_is_asked)
