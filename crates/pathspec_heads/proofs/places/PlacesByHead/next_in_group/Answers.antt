use Rattle.std.proofs.Common.{◌≡◌, ◌<◌, ◌∙◌, ap, sym, subst, arith, length}
use Rattle.std.proofs.lemmas.List.{get_or_default}
use Rattle.pathspec_heads.specs.Groups.{GroupedPlaces, IsInGroup, IsLeastFrom, start_of, end_of}
use Rattle.pathspec_heads.proofs.NextProofs.{code-ascending, code-next}
use Rattle.pathspec_heads.proofs.places.PlacesByHead.next_in_group.Goals as goal

inside : (c : goal.After-next_in-arg-1) → c.args.head < length c.self.inside.heads
inside c = subst (λ (v : GroupedPlaces). c.args.head < length v.heads) (sym c.self.view_is) c.requires

starts_at : (c : goal.After-next_in-arg-1) → c.index.result.now ≡ start_of c.self.inside.starts.items c.args.head
starts_at c = c.index.ensures ∙ get_or_default c.self.inside.starts.items c.args.head c.index.result.now 0 (omega (arith, inside c, c.self.invariant.grouped.all))

ends_at : (c : goal.After-next_in-arg-1) → c.end_of-end.result ≡ end_of c.self.inside.starts.items c.self.inside.order.items c.args.head
ends_at c = c.end_of-end.ensures ∙ ap (λ (v : GroupedPlaces). end_of v.starts v.order c.args.head) (sym c.self.view_is)

pub next_in-requires : goal.next_in-requires
next_in-requires c =
    code-ascending c.self.inside.heads c.self.inside.starts.items c.self.inside.order.items c.self.invariant.grouped c.args.head (inside c) c.deref.result.now c.index.result.now c.end_of-end.result c.deref.ensures.value (starts_at c) (ends_at c)

pub returns : goal.returns
returns c =
    let inside : c.args.head < length c.self.inside.heads = subst (λ (v : GroupedPlaces). c.args.head < length v.heads) (sym c.self.view_is) c.requires in
    let starts_at : c.index.result.now ≡ start_of c.self.inside.starts.items c.args.head = c.index.ensures ∙ get_or_default c.self.inside.starts.items c.args.head c.index.result.now 0 (omega (arith, inside, c.self.invariant.grouped.all)) in
    let ends_at : c.end_of-end.result ≡ end_of c.self.inside.starts.items c.self.inside.order.items c.args.head = c.end_of-end.ensures ∙ ap (λ (v : GroupedPlaces). end_of v.starts v.order c.args.head) (sym c.self.view_is) in
    subst (λ (v : GroupedPlaces). IsLeastFrom (IsInGroup v.starts v.order c.args.head) c.args.from c.next_in.result) c.self.view_is
    (code-next c.self.inside.heads c.self.inside.starts.items c.self.inside.order.items c.self.invariant.grouped c.args.head inside c.deref.result.now c.index.result.now c.end_of-end.result c.deref.ensures.value starts_at ends_at c.args.from c.next_in.result c.next_in.ensures)
