use Rattle.std.proofs.Common.{◌≡◌, [], ◌∷◌, ◌++◌, ◌+◌, ◌-◌, ◌≤◌, ◌∙◌, ap, sym, subst, arith, refl, List, ℕ, length, drop, length-take, length-drop}
use borrow.Rule.Slice.PartMut.{mid_of}
use Rattle.pathspec_heads.specs.Agreement.{agreement}
use Rattle.pathspec_heads.specs.Heads.{head_at, IsRising, IsLastFront}
use Rattle.pathspec_heads.specs.declared.probe.TheConstants.{ROOM}
use Rattle.pathspec_heads.proofs.SpanProofs.{spans-stay, spans-more, texts-more}
use Rattle.pathspec_heads.proofs.sorted_texts.SortedTexts.push.Goals as goal

pub invariant_of-self-in_err-extend_from_slice-2 : goal.invariant_of-self-in_err-extend_from_slice-2
invariant_of-self-in_err-extend_from_slice-2 c = rw (c.in_err-extend_from_slice-2.ensures.items, c.in_ok-extend_from_slice.ensures.items)
    (spans-stay c.self.inside.bytes.items c.args.text.now c.self.inside.spans.items c.self.invariant)

pub invariant_of-self-in_err-push : goal.invariant_of-self-in_err-push
invariant_of-self-in_err-push c = rw (c.in_err-push.ensures.items, c.in_ok-extend_from_slice-2.ensures.items, c.in_ok-extend_from_slice.ensures.items)
    (spans-stay (c.self.inside.bytes.items ++ c.args.text.now) _ c.self.inside.spans.items (spans-stay c.self.inside.bytes.items c.args.text.now c.self.inside.spans.items c.self.invariant))

-- there is room behind the start of the text
padded : (n a k : ℕ) (xs : List ℕ) → a + k ≤ length xs → ROOM ≤ n + k → ROOM ≤ n + length (mid_of a k xs)
padded n a k xs l r = omega (arith, length-take k (drop a xs), length-drop a xs)

pub invariant_of-self-2 : goal.invariant_of-self-2
invariant_of-self-2 c =
    let text = c.args.text.now in
    let told = c.front_shared_with-shared in
    let start : c.len-start.result ≡ length c.self.inside.bytes.items = omega (arith, c.len-start.ensures, c.self.inside.bytes.ok.0) in
    rw (c.in_ok-push.ensures.items, c.in_ok-extend_from_slice-2.ensures.items, c.in_ok-extend_from_slice.ensures.items)
    (spans-more c.self.inside.bytes.items text _ c.self.inside.spans.items c.self.invariant c.len-start.result (length text) told.result.0 told.result.1 start refl
    (padded (length text) c.min.result (16 - c.min.result) _ (omega (arith, c.min.ensures)) (omega (arith, c.min.ensures)))
    (subst (λ hs. IsRising (hs ++ text ∷ [])) (sym c.self.view_is) c.requires)
    (subst (λ hs. (k : ℕ) → k + 1 ≡ length hs → told.result.0 ≡ agreement (head_at hs k) text) (sym c.self.view_is) told.ensures.shared)
    (subst (λ hs. IsLastFront hs (length hs) text told.result.1) (sym c.self.view_is) told.ensures.linked))

pub returns : goal.returns
returns c =
    let told = c.front_shared_with-shared in
    let start : c.len-start.result ≡ length c.self.inside.bytes.items = omega (arith, c.len-start.ensures, c.self.inside.bytes.ok.0) in
    rw (c.in_ok-push.ensures.items, c.in_ok-extend_from_slice-2.ensures.items, c.in_ok-extend_from_slice.ensures.items)
    (texts-more c.self.inside.bytes.items c.args.text.now _ c.self.inside.spans.items c.self.invariant c.len-start.result (length c.args.text.now) told.result.0 told.result.1 start refl ∙ ap (λ hs. hs ++ c.args.text.now ∷ []) c.self.view_is)
