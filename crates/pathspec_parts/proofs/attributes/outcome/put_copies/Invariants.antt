use Rattle.pathspec_parts.proofs.OutcomeProofs.{HasPut}
use Rattle.pathspec_parts.proofs.attributes.outcome.put_copies.Given as goal

abbrev pub invariant-loop-place : goal.invariant-loop-place
invariant-loop-place l = HasPut l.fn.places l.places l.name l.fn.copies.items l.copies.items l.place-index
