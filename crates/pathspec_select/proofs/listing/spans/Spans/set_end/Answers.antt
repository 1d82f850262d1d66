use Rattle.std.proofs.Common.{◌≡◌, ◌+◌, ◌<◌, length, get_or, set, Some, refl, sym, ap, ◌∙◌, arith}
use Rattle.std.proofs.lemmas.Option.{slice_get_read, get_or_from_slice_get}
use Rattle.std.specs.Prelude.{slice_get}
use Rattle.pathspec_select.specs.PackedSpans.{no_span, anchor_of, unpacked}
use Rattle.pathspec_select.specs.declared.listing.spans.Span.{Span}
use Rattle.pathspec_select.specs.declared.listing.spans.Packed.TheVariants.{File, Other}
use Rattle.pathspec_select.proofs.PackedProofs.{anchor_inside, inside-of, entry-read, other-place, span-at, view-set_other}
use Rattle.pathspec_select.proofs.listing.spans.Spans.set_end.Goals as goal

pub index-requires : goal.index-requires
index-requires c =
    let s = c.self.inside in
    let inside = inside-of s.packed.items s.anchors.items s.others.items c.args.self.now c.self.view_is c.args.number c.requires.inside in
    let block = anchor_inside s.packed.items s.anchors.items s.others.items c.self.invariant.0 c.args.number inside in
    omega (arith, block, s.anchors.ok.0)

pub index-requires-2 : goal.index-requires-2
index-requires-2 c =
    let s = c.self.inside in
    let inside = inside-of s.packed.items s.anchors.items s.others.items c.args.self.now c.self.view_is c.args.number c.requires.inside in
    omega (arith, inside, s.packed.ok.0)

pub overflow_add-before : goal.overflow_add-before
overflow_add-before c =
    let s = c.self.inside in
    let inside = inside-of s.packed.items s.anchors.items s.others.items c.args.self.now c.self.view_is c.args.number c.requires.inside in
    let place = other-place s.packed.items s.anchors.items s.others.items c.self.invariant.0 c.args.number inside c.index-2.result.now c.index-2.ensures c.index.result.now c.index.ensures c.in-Other.number c.in-Other.is in
    omega (arith, place, c.from.ensures, s.others.ok)

pub index_mut-requires : goal.index_mut-requires
index_mut-requires c =
    let s = c.self.inside in
    let inside = inside-of s.packed.items s.anchors.items s.others.items c.args.self.now c.self.view_is c.args.number c.requires.inside in
    let place = other-place s.packed.items s.anchors.items s.others.items c.self.invariant.0 c.args.number inside c.index-2.result.now c.index-2.ensures c.index.result.now c.index.ensures c.in-Other.number c.in-Other.is in
    omega (arith, place, c.from.ensures, s.others.ok.0)

pub returns-in-File : goal.returns-in-File
returns-in-File c =
    let s = c.self.inside in
    let inside = inside-of s.packed.items s.anchors.items s.others.items c.args.self.now c.self.view_is c.args.number c.requires.inside in
    let at = entry-read s.packed.items s.anchors.items s.others.items c.self.invariant.0 c.args.number inside c.index-2.result.now c.index-2.ensures (File c.in-File.length c.in-File.start) c.in-File.is in
    let file = ap (λ (x : Span). x.end) (ap (λ xs. get_or xs c.args.number no_span) (sym c.self.view_is) ∙ span-at s.packed.items s.anchors.items s.others.items c.args.number (File c.in-File.length c.in-File.start) at) in
    absurd (c.requires.is_dir file)

pub returns-in-Other : goal.returns-in-Other
returns-in-Other c =
    let s = c.self.inside in
    let n = c.in-Other.number in
    let old = c.index_mut.result.now in
    let k = c.index.result.now.others + c.from.result in
    let view = unpacked s.packed.items s.anchors.items s.others.items in
    let inside = inside-of s.packed.items s.anchors.items s.others.items c.args.self.now c.self.view_is c.args.number c.requires.inside in
    let at = entry-read s.packed.items s.anchors.items s.others.items c.self.invariant.0 c.args.number inside c.index-2.result.now c.index-2.ensures (Other n) c.in-Other.is in
    let stands = other-place s.packed.items s.anchors.items s.others.items c.self.invariant.0 c.args.number inside c.index-2.result.now c.index-2.ensures c.index.result.now c.index.ensures n c.in-Other.is in
    let place : k ≡ (anchor_of s.anchors.items c.args.number).others + n = omega (arith, stands, c.from.ensures) in
    let there : k < length s.others.items = omega (arith, stands, c.from.ensures) in
    let read : slice_get s.others.items k ≡ Some old = slice_get_read s.others.items (length s.others.items) k old refl there c.index_mut.ensures.value in
    let is : old ≡ get_or c.args.self.now c.args.number no_span =
    sym (get_or_from_slice_get s.others.items k old no_span read)
    ∙ (ap (λ n. get_or s.others.items n no_span) place
    ∙ (sym (span-at s.packed.items s.anchors.items s.others.items c.args.number (Other n) at) ∙ ap (λ xs. get_or xs c.args.number no_span) c.self.view_is)) in
    ap (λ p. unpacked s.packed.items s.anchors.items (set s.others.items p (record old { end = c.args.end }))) place
    ∙ (view-set_other s.packed.items s.anchors.items s.others.items c.self.invariant.0 c.args.number n at (record old { end = c.args.end })
    ∙ (ap (λ (x : Span). set view c.args.number (record x { end = c.args.end })) is
    ∙ ap (λ xs. set xs c.args.number (record (get_or c.args.self.now c.args.number no_span) { end = c.args.end })) c.self.view_is))
