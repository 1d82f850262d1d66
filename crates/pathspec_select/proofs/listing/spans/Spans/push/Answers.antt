use Rattle.std.proofs.Common.{rules, ◌≡◌, ◌++◌, ◌∷◌, [], length, sym, ap, ◌∙◌, subst, arith, ℕ, List}
use Rattle.pathspec_select.specs.PackedSpans.{IsFile, BeginsBlock, ArePacked, unpacked}
use Rattle.pathspec_select.specs.declared.listing.spans.Packed.{Packed}
use Rattle.pathspec_select.proofs.PackedProofs.{length-unpacked, more-file, starts-file, view-file}
use Rattle.pathspec_select.proofs.listing.spans.Spans.push.Goals as goal

is_file : (c : goal.In_ok-push-in-Some) → IsFile (length c.self.inside.packed.items) c.self.inside.block_start c.args.span c.in-Some.packed
is_file c =
    let s = c.self.inside in
    let n : c.len.result ≡ length s.packed.items = omega (arith, c.len.ensures, s.packed.ok.0) in
    subst (λ (k : ℕ). IsFile k s.block_start c.args.span c.in-Some.packed) n c.in-Some.ensures.file

pub invariant_of-self-in-Some : goal.invariant_of-self-in-Some
invariant_of-self-in-Some c =
    let s = c.self.inside in
    let p : c.push.new.self.items ≡ s.packed.items ++ c.in-Some.packed ∷ [] = search rules in
    let P : List Packed → Type 0 = λ xs. ArePacked xs s.anchors.items s.others.items × BeginsBlock xs s.anchors.items s.block_start in
    let h = c.self.invariant in
    subst P (sym p) (
      more-file s.packed.items s.anchors.items s.others.items h.0 s.block_start h.1 c.args.span c.in-Some.packed (is_file c),
      starts-file s.packed.items s.anchors.items s.others.items h.0 s.block_start h.1 c.args.span c.in-Some.packed (is_file c),
    )

pub returns-in_ok-push-in-Some-clause-ok : goal.returns-in_ok-push-in-Some-clause-ok
returns-in_ok-push-in-Some-clause-ok c =
    let s = c.self.inside in
    let p : c.push.new.self.items ≡ s.packed.items ++ c.in-Some.packed ∷ [] = search rules in
    ap (λ xs. unpacked xs s.anchors.items s.others.items) p
    ∙ (view-file s.packed.items s.anchors.items s.others.items c.self.invariant.0 s.block_start c.self.invariant.1 c.args.span c.in-Some.packed (is_file c) ∙ ap (λ xs. xs ++ c.args.span ∷ []) c.self.view_is)

pub returns-in_ok-push-in-Some-clause-room : goal.returns-in_ok-push-in-Some-clause-room
returns-in_ok-push-in-Some-clause-room c =
    let s = c.self.inside in
    let v = c.push.new.self in
    omega (arith, v.ok, v.small, length-unpacked v.items s.anchors.items s.others.items)
