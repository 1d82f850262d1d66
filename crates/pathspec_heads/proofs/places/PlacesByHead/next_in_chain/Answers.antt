use Rattle.std.proofs.Common.{arith, subst, Some, None, sym, ◌<◌, length}
use Rattle.pathspec_heads.specs.Heads.{head_at, IsRising, IsLastFront}
use Rattle.pathspec_heads.specs.Groups.{GroupedPlaces, IsLeastFrom}
use Rattle.pathspec_heads.proofs.HeadProofs.{begins-itself}
use Rattle.pathspec_heads.proofs.NextProofs.{IsInChainFrom, chain-begun, chain-goes, chain-ends}
use Rattle.pathspec_heads.proofs.places.PlacesByHead.next_in_chain.Goals as goal

pub loop-link-init : goal.loop-link-init
loop-link-init c =
    let v = c.args.self.now in
    let rising : IsRising v.heads = subst (λ (v : GroupedPlaces). IsRising v.heads) c.self.view_is c.self.invariant.grouped.rising in
    record {
      before = omega arith;
      begins = begins-itself (head_at v.heads c.args.head);
      next = chain-begun v.heads rising v.starts v.order c.args.head c.requires c.args.from c.next_in_group-next.result c.next_in_group-next.ensures;
    }

pub next_in_group-requires : goal.next_in_group-requires
next_in_group-requires c =
    subst (λ (v : GroupedPlaces). c.in-Some.link < length v.heads) c.self.view_is
    (omega (arith, (c.link.ensures.last.begins c.in-Some.link c.in-Some.is).0, c.loop-link.invariant.before, subst (λ (v : GroupedPlaces). c.args.head < length v.heads) (sym c.self.view_is) c.requires))

pub loop-link-smaller : goal.loop-link-smaller
loop-link-smaller c = (c.link.ensures.last.begins c.in-Some.link c.in-Some.is).0

pub loop-link-preserved : goal.loop-link-preserved
loop-link-preserved c =
    let v = c.args.self.now in
    let i = c.loop-link.invariant in
    let rising : IsRising v.heads = subst (λ (v : GroupedPlaces). IsRising v.heads) c.self.view_is c.self.invariant.grouped.rising in
    let last : IsLastFront v.heads c.loop-link.at (head_at v.heads c.loop-link.at) (Some c.in-Some.link)
    = subst (λ o. IsLastFront v.heads c.loop-link.at (head_at v.heads c.loop-link.at) o) c.in-Some.is (subst (λ (v : GroupedPlaces). IsLastFront v.heads c.loop-link.at (head_at v.heads c.loop-link.at) c.link.result) c.self.view_is c.link.ensures.last) in
    let r = chain-goes v.heads rising v.starts v.order c.args.head c.requires c.loop-link.at i.before i.begins c.in-Some.link c.args.from c.loop-link.next c.next_in_group.result last i.next c.next_in_group.ensures in
    record {
      before = omega (arith, r.0, i.before);
      begins = r.1;
      next = subst (λ o. IsLeastFrom (IsInChainFrom v.heads v.starts v.order c.in-Some.link c.args.head) c.args.from o) (sym c.earlier-next.ensures) r.2;
    }

pub returns : goal.returns
returns c =
    let v = c.args.self.now in
    let i = c.loop-link.invariant in
    let rising : IsRising v.heads = subst (λ (v : GroupedPlaces). IsRising v.heads) c.self.view_is c.self.invariant.grouped.rising in
    let last : IsLastFront v.heads c.loop-link.at (head_at v.heads c.loop-link.at) None
    = subst (λ o. IsLastFront v.heads c.loop-link.at (head_at v.heads c.loop-link.at) o) c.in_default.is (subst (λ (v : GroupedPlaces). IsLastFront v.heads c.loop-link.at (head_at v.heads c.loop-link.at) c.link.result) c.self.view_is c.link.ensures.last) in
    chain-ends v.heads rising v.starts v.order c.args.head c.requires c.loop-link.at i.before i.begins c.args.from c.loop-link.next last i.next
