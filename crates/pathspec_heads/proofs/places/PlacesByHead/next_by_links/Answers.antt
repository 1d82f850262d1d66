use Rattle.std.proofs.Common.{arith, subst, None}
use Rattle.pathspec_heads.specs.Heads.{head_at, IsRising, IsLastFront}
use Rattle.pathspec_heads.specs.Groups.{GroupedPlaces}
use Rattle.pathspec_heads.proofs.HeadProofs.{begins-itself}
use Rattle.pathspec_heads.proofs.NextProofs.{chain-begun, chain-ends}
use Rattle.pathspec_heads.proofs.places.PlacesByHead.next_by_links.Goals as goal

pub returns-in-None : goal.returns-in-None
returns-in-None c =
    let v = c.args.self.now in
    let j = c.args.head in
    let rising : IsRising v.heads = subst (λ (v : GroupedPlaces). IsRising v.heads) c.self.view_is c.self.invariant.grouped.rising in
    let last : IsLastFront v.heads j (head_at v.heads j) None
    = subst (λ o. IsLastFront v.heads j (head_at v.heads j) o) c.in-None.is (subst (λ (v : GroupedPlaces). IsLastFront v.heads j (head_at v.heads j) c.link.result) c.self.view_is c.link.ensures.last) in
    chain-ends v.heads rising v.starts v.order j c.requires j (omega arith) (begins-itself (head_at v.heads j)) c.args.from c.next_in_group.result last
    (chain-begun v.heads rising v.starts v.order j c.requires c.args.from c.next_in_group.result c.next_in_group.ensures)
