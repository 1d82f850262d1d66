use Rattle.std.proofs.Common.{◌≡◌, ◌+◌, ◌<◌, length, refl, sym, ap, ◌∙◌, arith, Some}
use Rattle.std.proofs.lemmas.Option.{slice_get_read, get_or_from_slice_get}
use Rattle.std.specs.Prelude.{slice_get, get_or}
use Rattle.pathspec_select.specs.PackedSpans.{no_span, anchor_of, span_of}
use Rattle.pathspec_select.specs.declared.listing.spans.Anchor.{Anchor}
use Rattle.pathspec_select.specs.declared.listing.spans.Packed.TheVariants.{File, Other}
use Rattle.pathspec_select.proofs.PackedProofs.{anchor_inside, anchor-read, inside-of, entry-read, other-place, span-at}
use Rattle.pathspec_select.proofs.listing.spans.Spans.at.Goals as goal

pub index-anchor-requires : goal.index-anchor-requires
index-anchor-requires c =
    let s = c.self.inside in
    let inside = inside-of s.packed.items s.anchors.items s.others.items c.args.self.now c.self.view_is c.args.number c.requires in
    let block = anchor_inside s.packed.items s.anchors.items s.others.items c.self.invariant.0 c.args.number inside in
    omega (arith, block, s.anchors.ok.0)

pub index-requires : goal.index-requires
index-requires c =
    let s = c.self.inside in
    let inside = inside-of s.packed.items s.anchors.items s.others.items c.args.self.now c.self.view_is c.args.number c.requires in
    omega (arith, inside, s.packed.ok.0)

pub overflow_add-result : goal.overflow_add-result
overflow_add-result c =
    let s = c.self.inside in
    let inside = inside-of s.packed.items s.anchors.items s.others.items c.args.self.now c.self.view_is c.args.number c.requires in
    let at = entry-read s.packed.items s.anchors.items s.others.items c.self.invariant.0 c.args.number inside c.index.result.now c.index.ensures (File c.in-File.length c.in-File.start) c.in-File.is in
    let anchor = ap (λ (a : Anchor). a.start) (anchor-read s.packed.items s.anchors.items s.others.items c.self.invariant.0 c.args.number c.index-anchor.result.now inside c.index-anchor.ensures) in
    let fits = c.self.invariant.0.start_fits c.args.number c.in-File.length c.in-File.start at in
    omega (arith, anchor, fits, c.from.ensures)

pub returns-in-File : goal.returns-in-File
returns-in-File c =
    let s = c.self.inside in
    let inside = inside-of s.packed.items s.anchors.items s.others.items c.args.self.now c.self.view_is c.args.number c.requires in
    let at = entry-read s.packed.items s.anchors.items s.others.items c.self.invariant.0 c.args.number inside c.index.result.now c.index.ensures (File c.in-File.length c.in-File.start) c.in-File.is in
    let anchor = anchor-read s.packed.items s.anchors.items s.others.items c.self.invariant.0 c.args.number c.index-anchor.result.now inside c.index-anchor.ensures in
    ap (λ n. record { start = c.index-anchor.result.now.start + n; length = c.from-in-File.result; end = 0 }) c.from.ensures
    ∙ (ap (λ n. record { start = c.index-anchor.result.now.start + c.in-File.start; length = n; end = 0 }) c.from-in-File.ensures
    ∙ (ap (λ a. span_of a s.others.items (File c.in-File.length c.in-File.start)) anchor
    ∙ (sym (span-at s.packed.items s.anchors.items s.others.items c.args.number (File c.in-File.length c.in-File.start) at) ∙ ap (λ xs. get_or xs c.args.number no_span) c.self.view_is)))

pub overflow_add-anchor : goal.overflow_add-anchor
overflow_add-anchor c =
    let s = c.self.inside in
    let inside = inside-of s.packed.items s.anchors.items s.others.items c.args.self.now c.self.view_is c.args.number c.requires in
    let place = other-place s.packed.items s.anchors.items s.others.items c.self.invariant.0 c.args.number inside c.index.result.now c.index.ensures c.index-anchor.result.now c.index-anchor.ensures c.in-Other.number c.in-Other.is in
    omega (arith, place, c.from-in-Other.ensures, s.others.ok)

pub index-requires-in-Other : goal.index-requires-in-Other
index-requires-in-Other c =
    let s = c.self.inside in
    let inside = inside-of s.packed.items s.anchors.items s.others.items c.args.self.now c.self.view_is c.args.number c.requires in
    let place = other-place s.packed.items s.anchors.items s.others.items c.self.invariant.0 c.args.number inside c.index.result.now c.index.ensures c.index-anchor.result.now c.index-anchor.ensures c.in-Other.number c.in-Other.is in
    omega (arith, place, c.from-in-Other.ensures, s.others.ok.0)

pub returns-in-Other : goal.returns-in-Other
returns-in-Other c =
    let s = c.self.inside in
    let inside = inside-of s.packed.items s.anchors.items s.others.items c.args.self.now c.self.view_is c.args.number c.requires in
    let at = entry-read s.packed.items s.anchors.items s.others.items c.self.invariant.0 c.args.number inside c.index.result.now c.index.ensures (Other c.in-Other.number) c.in-Other.is in
    let stands = other-place s.packed.items s.anchors.items s.others.items c.self.invariant.0 c.args.number inside c.index.result.now c.index.ensures c.index-anchor.result.now c.index-anchor.ensures c.in-Other.number c.in-Other.is in
    let k = c.index-anchor.result.now.others + c.from-in-Other.result in
    let place : k ≡ (anchor_of s.anchors.items c.args.number).others + c.in-Other.number = omega (arith, stands, c.from-in-Other.ensures) in
    let there : k < length s.others.items = omega (arith, stands, c.from-in-Other.ensures) in
    let read : slice_get s.others.items k ≡ Some c.index-in-Other.result.now = slice_get_read s.others.items (length s.others.items) k c.index-in-Other.result.now refl there c.index-in-Other.ensures in
    sym (get_or_from_slice_get s.others.items k c.index-in-Other.result.now no_span read)
    ∙ (ap (λ n. get_or s.others.items n no_span) place
    ∙ (sym (span-at s.packed.items s.anchors.items s.others.items c.args.number (Other c.in-Other.number) at) ∙ ap (λ xs. get_or xs c.args.number no_span) c.self.view_is))
