use Rattle.std.proofs.Common.{rules, ◌≡◌, ◌++◌, ◌∷◌, [], ◌/◌, ◌<◌, ◌+◌, ◌-◌, ℕ, List, length, get_or, sym, ap, ◌∙◌, subst, arith}
use Rattle.pathspec_select.specs.PackedSpans.{anchor_of, anchors_with, BeginsBlock, ArePacked, unpacked}
use Rattle.pathspec_select.specs.declared.listing.spans.Span.{Span}
use Rattle.pathspec_select.specs.declared.listing.spans.Anchor.{Anchor}
use Rattle.pathspec_select.specs.declared.listing.spans.Packed.{Packed}
use Rattle.pathspec_select.specs.declared.listing.spans.Packed.TheVariants.{Other}
use Rattle.pathspec_select.proofs.PackedProofs.{length-unpacked, block_anchor, with_anchor, number_fits, more-other, starts-other, view-other}
use Rattle.pathspec_select.proofs.listing.spans.Spans.push_other.Goals as goal

-- what an anchor more, if one is lacking, and a span more make
both : (packed : List Packed) (anchors new_anchors : List Anchor) (others : List Span) → ArePacked packed anchors others → (span : Span) (first : Anchor) → first.others ≡ length others → (block : ℕ) → block ≡ length packed / 256 → new_anchors ≡ anchors_with anchors block first
    → (anchor : Anchor) → anchor ≡ get_or new_anchors block anchor → (n : ℕ) → n ≡ length others - anchor.others
    → ArePacked (packed ++ Other n ∷ []) new_anchors (others ++ span ∷ []) × BeginsBlock (packed ++ Other n ∷ []) new_anchors anchor.start × (unpacked (packed ++ Other n ∷ []) new_anchors (others ++ span ∷ []) ≡ unpacked packed anchors others ++ span ∷ [])
both packed anchors new_anchors others h span first is_first block b new anchor read n number =
    let with = with_anchor packed anchors others h first is_first in
    let is : anchors_with anchors (length packed / 256) first ≡ new_anchors = sym (new ∙ ap (λ k. anchors_with anchors k first) b) in
    let ok : ArePacked packed new_anchors others = subst (λ xs. ArePacked packed xs others) is with.0 in
    let room : length packed / 256 < length new_anchors = subst (λ (xs : List Anchor). length packed / 256 < length xs) is with.1 in
    let same : unpacked packed new_anchors others ≡ unpacked packed anchors others = subst (λ xs. unpacked packed xs others ≡ unpacked packed anchors others) is with.2 in
    let at : anchor ≡ anchor_of new_anchors (length packed) = block_anchor new_anchors (length packed / 256) anchor room (read ∙ ap (λ k. get_or new_anchors k anchor) b) in
    let begin = ap (λ (a : Anchor). a.others) at in
    let less = (number_fits packed new_anchors others ok room).0 in
    let count : (anchor_of new_anchors (length packed)).others + n ≡ length others = omega (arith, begin, less, number) in
    (more-other packed new_anchors others ok room span n count, subst (BeginsBlock (packed ++ Other n ∷ []) new_anchors) (sym (ap (λ (a : Anchor). a.start) at)) (starts-other packed new_anchors others ok room span n count), view-other packed new_anchors others ok room span n count ∙ ap (λ xs. xs ++ span ∷ []) same)

added : (c : goal.In_ok-push-2)
    → ArePacked c.push-2.new.self.items c.add_anchor.new.anchors.items c.push.new.self.items × BeginsBlock c.push-2.new.self.items c.add_anchor.new.anchors.items c.index-anchor.result.now.start × (unpacked c.push-2.new.self.items c.add_anchor.new.anchors.items c.push.new.self.items ≡ c.args.self.now ++ c.args.span ∷ [])
added c =
    let s = c.self.inside in
    let count : c.len.result ≡ length s.others.items = omega (arith, c.len.ensures, c.reserve-2.new.self.ok.0, ap length c.reserve-2.ensures.items) in
    let block : c.len-block.result / 256 ≡ length s.packed.items / 256 = ap (λ k. k / 256) (omega (arith, c.len-block.ensures, c.reserve.new.self.ok.0, ap length c.reserve.ensures.items)) in
    let n = c.len-2.result - c.index-anchor.result.now.others in
    let number : n ≡ length s.others.items - c.index-anchor.result.now.others = ap (λ k. k - c.index-anchor.result.now.others) (omega (arith, c.len-2.ensures, c.reserve-2.new.self.ok.0, ap length c.reserve-2.ensures.items)) in
    let p : c.push-2.new.self.items ≡ s.packed.items ++ Other n ∷ [] = search rules in
    let o : c.push.new.self.items ≡ s.others.items ++ c.args.span ∷ [] = search rules in
    let r = both s.packed.items s.anchors.items c.add_anchor.new.anchors.items s.others.items c.self.invariant.0 c.args.span (record { start = c.args.span.start; others = c.len.result }) count (c.len-block.result / 256) block c.in_ok-add_anchor.ensures.ok c.index-anchor.result.now c.index-anchor.ensures n number in
    let P : List Packed → List Span → Type 0 = λ xs ys. ArePacked xs c.add_anchor.new.anchors.items ys × BeginsBlock xs c.add_anchor.new.anchors.items c.index-anchor.result.now.start × (unpacked xs c.add_anchor.new.anchors.items ys ≡ c.args.self.now ++ c.args.span ∷ []) in
    subst (λ xs. P xs c.push.new.self.items) (sym p) (subst (P (s.packed.items ++ Other n ∷ [])) (sym o) (r.0, r.1, r.2 ∙ ap (λ xs. xs ++ c.args.span ∷ []) c.self.view_is))

pub invariant_of-self-2 : goal.invariant_of-self-2
invariant_of-self-2 c = let r = added c in (r.0, r.1)

pub returns-clause-ok : goal.returns-clause-ok
returns-clause-ok c = (added c).2

pub returns-clause-room : goal.returns-clause-room
returns-clause-room c =
    let v = c.push-2.new.self in
    omega (arith, v.ok, v.small, length-unpacked v.items c.add_anchor.new.anchors.items c.push.new.self.items)
