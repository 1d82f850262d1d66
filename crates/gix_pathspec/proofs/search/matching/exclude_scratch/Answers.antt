-- The room is one for the set of the excludes.
use Rattle.gix_pathspec.proofs.ExcludeMadeProofs.{own-room}
use Rattle.gix_pathspec.proofs.search.matching.exclude_scratch.Goals as goal

pub returns-in_ok-new_scratch-in-Some-clause-own : goal.returns-in_ok-new_scratch-in-Some-clause-own
returns-in_ok-new_scratch-in-Some-clause-own c =
    own-room c.args.excludes.now c.in-Some.members.now c.in_ok-new_scratch-in-Some.field-0 (c.members.ensures.members c.in-Some.members c.in-Some.is) c.in_ok-new_scratch-in-Some.ensures.alike
