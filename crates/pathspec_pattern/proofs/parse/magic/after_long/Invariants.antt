use Rattle.std.proofs.Common.{◌≡◌}
use Rattle.std.specs.Option.{option_map}
use Rattle.pathspec_pattern.specs.Reading.{with_pieces, long_pieces}
use Rattle.pathspec_pattern.proofs.PiecesProofs.{pieces_left, size_left}
use Rattle.pathspec_pattern.proofs.parse.magic.after_long.Given as goal

abbrev pub invariant-loop-rest : goal.invariant-loop-rest
invariant-loop-rest l = with_pieces l.magic (pieces_left (option_map (λ text. text.now) l.rest)) ≡ with_pieces l.fn.short (long_pieces l.fn.long)

abbrev pub decreases-loop-rest : goal.decreases-loop-rest
decreases-loop-rest l = size_left (option_map (λ text. text.now) l.rest)
