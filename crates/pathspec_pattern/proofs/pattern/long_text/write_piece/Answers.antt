-- A comma, where pieces stand already, and the piece.
use Rattle.std.proofs.Common.{◌∙◌, ap, ◌++◌}
use Rattle.pathspec_pattern.proofs.LongTextProofs.{word-after}
use Rattle.pathspec_pattern.proofs.pattern.long_text.write_piece.Goals as goal

pub returns : goal.returns
returns c words h = word-after c.args.text.now.items c.extend_from_slice.new.self.items words c.args.piece.now h c.requires (c.in_ok-extend_from_slice.ensures.items ∙ ap (λ text. text ++ c.args.piece.now) c.in_ok-write_comma.ensures)
