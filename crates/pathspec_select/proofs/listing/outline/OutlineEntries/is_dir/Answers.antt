use Rattle.std.proofs.Common.{length, not, ◌==◌, ap, sym, ◌∙◌, arith, Option}
use Rattle.std.specs.Prelude.{unwrap_or, option_map}
use Rattle.pathspec_parts.proofs.NestingProofs.{entries_count, kind_is}
use Rattle.pathspec_select.specs.Outlines.{OutlineContents, name_of_span, end_of_span}
use Rattle.pathspec_select.specs.declared.listing.spans.Span.{Span}
use Rattle.pathspec_select.proofs.PackedProofs.{read_at}
use Rattle.pathspec_select.proofs.listing.outline.OutlineEntries.is_dir.Goals as goal

pub at-requires : goal.at-requires
at-requires c =
    let s = c.self.inside in
    let count = entries_count (name_of_span s.bytes.now s.spans) (end_of_span s.spans) (length s.spans) s.nested.stack s.nested.directories c.self.invariant.nesting c.args.self.now.tree (ap (λ (o : OutlineContents). o.tree) c.self.view_is) in
    omega (arith, count, c.requires)

pub returns : goal.returns
returns c = λ e there.
    let s = c.self.inside in
    let count = entries_count (name_of_span s.bytes.now s.spans) (end_of_span s.spans) (length s.spans) s.nested.stack s.nested.directories c.self.invariant.nesting c.args.self.now.tree (ap (λ (o : OutlineContents). o.tree) c.self.view_is) in
    let at = read_at s.spans c.args.number c.at.result (omega (arith, count, c.requires)) c.at.ensures in
    ap (λ (o : Option Span). not (unwrap_or (option_map (λ x. x.end) o) 0 == 0)) (sym at)
    ∙ kind_is (name_of_span s.bytes.now s.spans) (end_of_span s.spans) (length s.spans) s.nested.stack s.nested.directories c.self.invariant.nesting c.args.self.now.tree (ap (λ (o : OutlineContents). o.tree) c.self.view_is) c.args.number e there
