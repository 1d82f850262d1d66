-- The next spec by its head, or none where no head begins the path.
use Rattle.gix_pathspec.proofs.CandidateProofs.{kind-beside, next-beside, none-beside}
use Rattle.gix_pathspec.proofs.by_head.Candidates.next_beside.Goals as goal

pub returns-in-Some-clause-next : goal.returns-in-Some-clause-next
returns-in-Some-clause-next c specs path b are =
    next-beside specs path b are.plain c.args.self.now.heads.now are.grouped c.in-Some.head c.args.from c.next_place.result (are.chain c.in-Some.head c.in-Some.is).1 c.next_place.ensures

pub returns-in-Some-clause-beside : goal.returns-in-Some-clause-beside
returns-in-Some-clause-beside c specs path b are =
    kind-beside specs path b are.plain c.args.self.now.heads.now are.grouped c.in-Some.head c.args.from c.next_place.result (are.chain c.in-Some.head c.in-Some.is).1 c.next_place.ensures

pub returns-in-None-clause-next : goal.returns-in-None-clause-next
returns-in-None-clause-next c specs path b are = none-beside specs path b are.plain c.args.self.now.heads.now are.grouped (are.none c.in-None.is) c.args.from
