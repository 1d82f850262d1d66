-- The heads that begin the path are those in the chain of the longest.
use Rattle.gix_pathspec.proofs.BegunSetProofs.{begun-next, chain-within, none-begun}
use Rattle.gix_pathspec.proofs.by_head.head_sets.next_set.Goals as goal

pub returns-in-Some-clause-next : goal.returns-in-Some-clause-next
returns-in-Some-clause-next c texts path is = begun-next texts path c.args.heads.now c.args.head is c.in-Some.head c.args.from c.next_place.result c.in-Some.is c.next_place.ensures

pub returns-in-None-clause-next : goal.returns-in-None-clause-next
returns-in-None-clause-next c texts path is = none-begun texts path c.args.heads.now c.args.head is c.in-None.is c.args.from

pub returns-in-Some-clause-within : goal.returns-in-Some-clause-within
returns-in-Some-clause-within c texts grouped = chain-within texts c.args.heads.now grouped c.in-Some.head c.args.from c.next_place.result c.next_place.ensures
