-- The first directory that may be skipped ends at a slash.
use Rattle.std.proofs.Common.{◌+◌, subst, take}
use Rattle.pathspec_filter.specs.Places.{Asked, HoldsNoneChosen}
use Rattle.pathspec_filter.proofs.PlaceProofs.{skipped-at, skipped-none}
use Rattle.pathspec_filter.proofs.place.first_skipped.Goals as goal

pub returns-then-may_skip-clause-skipped : goal.returns-then-may_skip-clause-skipped
returns-then-may_skip-clause-skipped c =
    let d = c.args.directory.now in
    let known = c.loop-length.known in
    let n = c.in-Some.length in
    let none = subst (λ (asked : Asked). HoldsNoneChosen asked (take (known + n) d)) c.loop-length.invariant.kept (c.may_skip.ensures.none c.if-may_skip.true) in
    skipped-at c.args.questions.now d known n c.in-Some.ensures c.loop-length.invariant.inside none

pub returns-clause-skipped : goal.returns-clause-skipped
returns-clause-skipped c = skipped-none c.args.questions.now c.args.directory.now
