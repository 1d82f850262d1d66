-- Without a look at the specs, or by them.
use Rattle.gix_pathspec.proofs.PruningCalls.{can_match-unasked, can_match-asked}
use Rattle.gix_pathspec.proofs.search.Search.can_match.Goals as goal

pub returns-then-takes_unasked : goal.returns-then-takes_unasked
returns-then-takes_unasked c = (can_match-unasked _ _ _ c.takes_unasked.ensures c.if-takes_unasked.true)

pub returns-else-takes_unasked : goal.returns-else-takes_unasked
returns-else-takes_unasked c = (can_match-asked _ _ _ c.takes_unasked.ensures c.if-takes_unasked.false c.may_match.ensures)
