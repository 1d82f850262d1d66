use Rattle.std.proofs.Common.{arith, Some, None, ◌<◌}
use Rattle.pathspec_heads.specs.Groups.{IsInChain, IsLeastFrom}
use Rattle.pathspec_heads.proofs.WordProofs.{all-more, all-placed, only-more}
use Rattle.pathspec_heads.proofs.places.PlacesByHead.word_of.Goals as goal

pub loop-place-preserved : goal.loop-place-preserved
loop-place-preserved c =
    let v = c.args.self.now in
    let i = c.loop-place.invariant in
    let P = IsInChain v.heads v.starts v.order c.args.head in
    let next : IsLeastFrom P c.loop-place.from (Some c.in-Some.place) = rw c.in-Some.is at c.next_by_links.ensures in
    let within : c.in-Some.place < 64 = omega (arith, c.if-place-ge64.false) in
    record {
      within = omega (arith, within);
      only = only-more P c.loop-place.word c.loop-place.from c.in-Some.place i.only i.all next within;
      all = all-more P c.loop-place.word c.loop-place.from c.in-Some.place i.only i.all next within;
    }

pub returns : goal.returns
returns c =
    let v = c.args.self.now in
    let P = IsInChain v.heads v.starts v.order c.args.head in
    let next : IsLeastFrom P c.loop-place.from None = rw c.in_default.is at c.next_by_links.ensures in
    all-placed P c.loop-place.word c.loop-place.from c.loop-place.invariant.only c.loop-place.invariant.all next
