use Rattle.std.proofs.Common.{length, ap, sym, ◌∙◌, arith}
use Rattle.std.specs.Prelude.{slice_get}
use Rattle.pathspec_parts.proofs.NestingProofs.{entries_count}
use Rattle.pathspec_select.specs.Outlines.{OutlineContents, name_of_span, end_of_span}
use Rattle.pathspec_select.proofs.PackedProofs.{read_at}
use Rattle.pathspec_select.proofs.listing.outline.OutlineEntryPaths.path.Goals as goal

pub at-span-requires : goal.at-span-requires
at-span-requires c =
    let s = c.self.inside in
    let count = entries_count (name_of_span s.bytes.now s.spans) (end_of_span s.spans) (length s.spans) s.nested.stack s.nested.directories c.self.invariant.nesting c.args.self.now.tree (ap (λ (o : OutlineContents). o.tree) c.self.view_is) in
    omega (arith, count, c.requires)

pub part-requires : goal.part-requires
part-requires c =
    let s = c.self.inside in
    let count = entries_count (name_of_span s.bytes.now s.spans) (end_of_span s.spans) (length s.spans) s.nested.stack s.nested.directories c.self.invariant.nesting c.args.self.now.tree (ap (λ (o : OutlineContents). o.tree) c.self.view_is) in
    (c.self.invariant.spans_are c.args.number c.at-span.result (read_at s.spans c.args.number c.at-span.result (omega (arith, count, c.requires)) c.at-span.ensures)).fits

pub returns : goal.returns
returns c = λ e there.
    let s = c.self.inside in
    let count = entries_count (name_of_span s.bytes.now s.spans) (end_of_span s.spans) (length s.spans) s.nested.stack s.nested.directories c.self.invariant.nesting c.args.self.now.tree (ap (λ (o : OutlineContents). o.tree) c.self.view_is) in
    let span = c.self.invariant.spans_are c.args.number c.at-span.result (read_at s.spans c.args.number c.at-span.result (omega (arith, count, c.requires)) c.at-span.ensures) in
    c.part.ensures ∙ span.path e (ap (λ (o : OutlineContents). slice_get o.tree.entries c.args.number) c.self.view_is ∙ there)
