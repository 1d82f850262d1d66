use Rattle.std.proofs.Common.{◌≡◌, take, drop}
use Rattle.pathspec_pattern.specs.Reading.{long_pieces_from}
use Rattle.pathspec_pattern.proofs.PiecesProofs.{backslashes, onto_all}
use Rattle.pathspec_pattern.proofs.parse.pieces.place_of_cut.Given as goal

abbrev pub invariant-loop-at : goal.invariant-loop-at
invariant-loop-at l = long_pieces_from 0 l.fn.long ≡ onto_all (take l.at l.fn.long) (long_pieces_from (backslashes l.escaped) (drop l.at l.fn.long))
