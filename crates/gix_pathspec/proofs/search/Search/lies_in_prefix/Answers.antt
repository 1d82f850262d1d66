-- Without a look at the specs, or by them.
use Rattle.gix_pathspec.proofs.DirectoryCalls.{directory_matches-unasked, directory_matches-agreed, directory_matches-apart}
use Rattle.gix_pathspec.proofs.search.Search.lies_in_prefix.Goals as goal

pub returns-then-takes_unasked : goal.returns-then-takes_unasked
returns-then-takes_unasked c = (directory_matches-unasked _ _ _ c.takes_unasked.ensures c.if-takes_unasked.true)

pub returns-then-agrees_with_common_prefix : goal.returns-then-agrees_with_common_prefix
returns-then-agrees_with_common_prefix c =
    (directory_matches-agreed _ _ _ c.takes_unasked.ensures c.if-takes_unasked.false c.agrees_with_common_prefix.ensures c.if-agrees_with_common_prefix.true c.holds_in_prefix.ensures)

pub returns-else-agrees_with_common_prefix : goal.returns-else-agrees_with_common_prefix
returns-else-agrees_with_common_prefix c =
    (directory_matches-apart _ _ _ c.takes_unasked.ensures c.if-takes_unasked.false c.agrees_with_common_prefix.ensures c.if-agrees_with_common_prefix.false)
