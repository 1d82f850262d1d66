-- The first of a group is found at its own place, and at no other.
use Rattle.std.proofs.Common.{◌≡◌, sym, ◌∙◌, subst, length, map, Some}
use Rattle.std.specs.Prelude.{IfSome}
use Rattle.pathspec_heads.specs.Groups.{IsLeastFrom}
use Rattle.pathspec_heads.specs.Heads.{IsChainOf, IsLastFront}
use Rattle.pathspec_heads.proofs.CandidateProofs.{candidates-next, no-candidates, IsCandidate}
use Rattle.gix_pathspec.proofs.SetBuildingProofs.{found-first, first-found, is-other, is-that, own-text, some-group}
use Rattle.gix_pathspec.proofs.search.set_building.group_from.Goals as goal

pub returns-in_default-clause-none : goal.returns-in_default-clause-none
returns-in_default-clause-none c none first =
    let texts = map (λ text. text.now) c.args.texts.now in
    let groups = c.args.groups.now in
    let last = subst (IsLastFront groups.heads (length groups.heads) c.args.text.now) c.in_default.is c.longest_head_of.ensures.found in
    some-group texts c.args.number c.args.text.now c.requires.text (no-candidates texts groups.heads groups.starts groups.order c.requires.grouped c.args.text.now last)

pub next_place-requires : goal.next_place-requires
next_place-requires c = (c.longest_head_of.ensures.found.begins c.in-Some.group c.in-Some.is).0

pub returns-then-ne-clause-none : goal.returns-then-ne-clause-none
returns-then-ne-clause-none c none first =
    let texts = map (λ text. text.now) c.args.texts.now in
    let groups = c.args.groups.now in
    let text = c.args.text.now in
    let chain = subst (λ o. IfSome o (IsChainOf groups.heads text)) c.in-Some.is c.longest_head_of.ensures.chain in
    let least = candidates-next texts groups.heads groups.starts groups.order c.requires.grouped text c.in-Some.group 0 c.next_place.result chain c.next_place.ensures in
    is-other c.next_place.result c.args.number (sym c.ne.ensures ∙ c.if-ne.true) (found-first texts c.args.number text c.requires.text c.next_place.result least first)

pub numbers_of-requires-clause-chain : goal.numbers_of-requires-clause-chain
numbers_of-requires-clause-chain c =
    let groups = c.args.groups.now in
    subst (λ o. IfSome o (IsChainOf groups.heads c.args.text.now)) c.in-Some.is c.longest_head_of.ensures.chain

pub returns-clause-found : goal.returns-clause-found
returns-clause-found c =
    let texts = map (λ text. text.now) c.args.texts.now in
    let groups = c.args.groups.now in
    let text = c.args.text.now in
    let chain = subst (λ o. IfSome o (IsChainOf groups.heads text)) c.in-Some.is c.longest_head_of.ensures.chain in
    let least = candidates-next texts groups.heads groups.starts groups.order c.requires.grouped text c.in-Some.group 0 c.next_place.result chain c.next_place.ensures in
    let that : c.next_place.result ≡ Some c.args.number = is-that c.next_place.result c.args.number (sym c.ne.ensures ∙ c.if-ne.false) in
    record {
      first = first-found texts c.args.number text c.requires.text (subst (IsLeastFrom (IsCandidate texts text) 0) that least);
      all = own-text texts c.args.number text c.in_ok-numbers_of.field-0.items c.requires.text c.in_ok-numbers_of.ensures;
    }
