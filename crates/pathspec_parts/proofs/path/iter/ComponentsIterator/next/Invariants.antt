use Rattle.std.proofs.Common.{◌≡◌, length}
use Rattle.pathspec_parts.specs.Components.{remaining_components}
use Rattle.pathspec_parts.proofs.path.iter.ComponentsIterator.next.Given as goal

abbrev pub invariant-loop-piece : goal.invariant-loop-piece
invariant-loop-piece l = remaining_components l.self ≡ remaining_components l.fn.self

abbrev pub decreases-loop-piece : goal.decreases-loop-piece
decreases-loop-piece l = length l.self.rest.now
