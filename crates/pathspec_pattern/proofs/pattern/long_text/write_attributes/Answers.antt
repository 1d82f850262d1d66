-- A comma, where pieces stand already, and the list.
use Rattle.std.proofs.Common.{◌∙◌, sym, map}
use Rattle.std.proofs.lemmas.Result.{on_ok_weaker}
use Rattle.pathspec_parts.specs.AttributeStates.{assignment_view}
use Rattle.pathspec_pattern.proofs.LongTextProofs.{attributes-after, map-filled}
use Rattle.pathspec_pattern.proofs.pattern.long_text.write_attributes.Goals as goal

pub returns : goal.returns
returns c words h =
    on_ok_weaker c.write_assignments.result
    (λ written. attributes-after (map assignment_view c.args.assignments.now) c.args.text.now.items c.write_comma.new.text.items c.extend_from_slice.new.self.items c.write_assignments.new.text.items words h (map-filled assignment_view c.args.assignments.now (sym c.is_empty.ensures ∙ c.if-is_empty.false)) c.in_ok-write_comma.ensures c.in_ok-extend_from_slice.ensures.items written)
    c.write_assignments.ensures
