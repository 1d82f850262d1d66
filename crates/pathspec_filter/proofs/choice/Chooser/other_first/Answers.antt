-- The record ends at the first separator.
use Rattle.std.proofs.Common.{Some, sym, ◌∙◌, subst, take}
use Rattle.memchr.specs.Find.{IsFirstByte, is_byte}
use Rattle.pathspec_parts.specs.RecordParts.{IsFreeOf}
use Rattle.pathspec_filter.specs.Places.{Choice, chooses}
use Rattle.pathspec_filter.specs.Passes.{BeginsBad}
use Rattle.pathspec_filter.proofs.PlaceProofs.{first-at, found-record, found-bad}
use Rattle.pathspec_filter.proofs.choice.Chooser.other_first.Goals as goal

pub returns-then-is_bad-clause-found : goal.returns-then-is_bad-clause-found
returns-then-is_bad-clause-found g c =
    let rest = c.args.rest.now in
    subst (λ (x : Choice). BeginsBad x.separator rest) c.self.view_is (found-bad c.self.inside.separator rest c.in-Some.length c.in-Some.ensures (sym c.is_bad.ensures ∙ c.if-is_bad.true))

pub decide-requires-clause-free : goal.decide-requires-clause-free
decide-requires-clause-free g c =
    let rest = c.args.rest.now in
    subst (λ (x : Choice). IsFreeOf x.separator (take c.in-Some.length rest)) c.self.view_is (first-at c.self.inside.separator rest c.in-Some.length c.in-Some.ensures).free

pub returns-clause-found : goal.returns-clause-found
returns-clause-found g c =
    let rest = c.args.rest.now in
    let n = c.in-Some.length in
    let first = subst (λ (x : Choice). IsFirstByte (is_byte x.separator) rest (Some n)) c.self.view_is c.in-Some.ensures in
    found-record (chooses (g.L.LookUp.table c.args.look_up.now) c.args.self.now) c.args.self.now.separator rest n c.in_ok-is_taken.is_taken first (sym c.is_bad.ensures ∙ c.if-is_bad.false) c.in_ok-is_taken.ensures.taken
