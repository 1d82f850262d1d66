use Rattle.std.proofs.Common.{◌∙◌, sym, ap, Some}
use Rattle.std.specs.Option.{option_map}
use Rattle.bstr.specs.BStr.{bstr_bytes}
use Rattle.pathspec_select.proofs.OutlineProofs.{mark-is}
use Rattle.pathspec_select.proofs.listing.outline.Outline.record.Goals as goal

pub record_of-requires-clause-fits : goal.record_of-requires-clause-fits
record_of-requires-clause-fits c = (c.self.invariant.spans_are c.args.number c.in_ok-span.span (sym c.in_ok-span.ensures)).fits

pub record_of-requires-clause-record : goal.record_of-requires-clause-record
record_of-requires-clause-record c = (c.self.invariant.spans_are c.args.number c.in_ok-span.span (sym c.in_ok-span.ensures)).in_record

pub returns-in_err-record : goal.returns-in_err-record
returns-in_err-record c =
    let s = c.self.inside in
    ap (option_map bstr_bytes) c.from_residual-in_err-record.ensures ∙ (c.in_err-record.ensures ∙ mark-is s.bytes.now s.separator s.spans c.args.self.now c.self.view_is c.args.number c.in_ok-span.span (sym c.in_ok-span.ensures))

pub returns : goal.returns
returns c =
    let s = c.self.inside in
    ap Some c.new.ensures ∙ (c.in_ok-record.ensures ∙ mark-is s.bytes.now s.separator s.spans c.args.self.now c.self.view_is c.args.number c.in_ok-span.span (sym c.in_ok-span.ensures))
