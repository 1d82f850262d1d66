-- The position, as a test and a place.
use Rattle.std.proofs.Common.{◌∙◌, ◌==◌}
use Rattle.pathspec_faults.proofs.PositionProofs.{position-any}
use Rattle.pathspec_faults.proofs.positions.position_of.Goals as goal

pub returns-clause-place : goal.returns-clause-place
returns-clause-place c = c.first_position.ensures ∙ position-any (λ b. b == c.args.byte) c.args.text.now
