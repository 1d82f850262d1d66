use Rattle.std.proofs.Common.{◌≡◌, ◌∙◌, get_or, ap, sym, subst, arith, refl, length}
use Rattle.pathspec_select.specs.Outlines.{name_of_span, end_of_span, outline_closed, outline_of_spans, IsOutline}
use Rattle.pathspec_select.specs.PackedSpans.{no_span}
use Rattle.pathspec_parts.proofs.NestingProofs.{top_is}
use Rattle.pathspec_select.proofs.PackedProofs.{read_at}
use Rattle.pathspec_select.proofs.OutlineProofs.{closed_none, closed, top_open}
use Rattle.pathspec_select.proofs.listing.outline.Outline.close.Goals as goal

pub set_end-requires-clause-inside : goal.set_end-requires-clause-inside
set_end-requires-clause-inside c =
    let s = c.self.inside in
    (top_is (name_of_span s.bytes.now s.spans) (end_of_span s.spans) (length s.spans) s.nested.stack s.nested.directories c.self.invariant.nesting c.close.new.self.stack c.in-Some.number c.in-Some.ensures.stack).0

pub set_end-requires-clause-is_dir : goal.set_end-requires-clause-is_dir
set_end-requires-clause-is_dir c =
    let s = c.self.inside in
    let top = top_is (name_of_span s.bytes.now s.spans) (end_of_span s.spans) (length s.spans) s.nested.stack s.nested.directories c.self.invariant.nesting c.close.new.self.stack c.in-Some.number c.in-Some.ensures.stack in
    let span = get_or s.spans c.in-Some.number no_span in
    let is = (top_open s.bytes.now s.separator s.spans s.nested c.self.invariant c.close.new.self.stack c.in-Some.number c.in-Some.ensures.stack span (read_at s.spans c.in-Some.number span top.0 refl)).1 in
    λ e. omega (arith, e, is)

pub returns-in_default : goal.returns-in_default
returns-in_default c =
    let s = c.self.inside in
    closed_none s.bytes.now s.separator s.spans s.nested c.self.invariant c.in_default.ensures.stack.0 ∙ ap outline_closed c.self.view_is

both : (c : goal.After-set_end) → IsOutline c.self.inside.bytes.now c.self.inside.separator c.set_end.new.self c.close.new.self × (outline_of_spans c.self.inside.bytes.now c.self.inside.separator c.set_end.new.self ≡ outline_closed c.args.self.now)
both c =
    let s = c.self.inside in
    let top = top_is (name_of_span s.bytes.now s.spans) (end_of_span s.spans) (length s.spans) s.nested.stack s.nested.directories c.self.invariant.nesting c.close.new.self.stack c.in-Some.number c.in-Some.ensures.stack in
    let span = get_or s.spans c.in-Some.number no_span in
    let r = closed s.bytes.now s.separator s.spans s.nested c.self.invariant c.close.new.self.stack c.in-Some.number c.in-Some.ensures.stack span (read_at s.spans c.in-Some.number span top.0 refl) c.len-end.result c.len-end.ensures c.close.new.self refl c.close.ensures.directories in
    (subst (λ xs. IsOutline s.bytes.now s.separator xs c.close.new.self) (sym c.set_end.ensures) r.0, ap (outline_of_spans s.bytes.now s.separator) c.set_end.ensures ∙ (r.1 ∙ ap outline_closed c.self.view_is))

pub invariant_of-self-2 : goal.invariant_of-self-2
invariant_of-self-2 c = (both c).0

pub returns : goal.returns
returns c = (both c).1
