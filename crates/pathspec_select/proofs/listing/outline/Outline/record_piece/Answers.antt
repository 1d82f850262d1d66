use Rattle.std.proofs.Common.{◌+◌, ◌∙◌, length, sym, subst, arith}
use Rattle.pathspec_select.specs.declared.listing.outline.Piece.{Piece}
use Rattle.pathspec_select.specs.Outlines.{IsRecordPiece}
use Rattle.pathspec_select.proofs.OutlineProofs.{mark-is, record-piece}
use Rattle.pathspec_select.proofs.listing.outline.Outline.record_piece.Goals as goal

pub record_of-requires-clause-fits : goal.record_of-requires-clause-fits
record_of-requires-clause-fits c = (c.self.invariant.spans_are c.args.number c.in_ok-span.span (sym c.in_ok-span.ensures)).fits

pub record_of-requires-clause-record : goal.record_of-requires-clause-record
record_of-requires-clause-record c = (c.self.invariant.spans_are c.args.number c.in_ok-span.span (sym c.in_ok-span.ensures)).in_record

pub returns-then-end-self : goal.returns-then-end-self
returns-then-end-self c =
    let s = c.self.inside in
    let span = c.in_ok-span.span in
    let r = c.in_ok-end.field-0.now in
    let mark = c.in_ok-end.ensures ∙ mark-is s.bytes.now s.separator s.spans c.args.self.now c.self.view_is c.args.number span (sym c.in_ok-span.ensures) in
    let there : Piece = record { start = span.start; end = span.start + length r + 1 } in
    let lies = record-piece s.bytes.now s.separator s.spans c.args.self.now c.self.view_is c.args.number span (sym c.in_ok-span.ensures) r mark (omega (arith, c.if-end-self.true)) in
    subst (λ b. IsRecordPiece c.args.self.now b c.args.number there) (sym c.if-separator-self.false) lies
