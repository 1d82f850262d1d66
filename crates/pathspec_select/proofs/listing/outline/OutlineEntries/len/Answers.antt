use Rattle.std.proofs.Common.{length, ap, arith}
use Rattle.pathspec_parts.proofs.NestingProofs.{entries_count}
use Rattle.pathspec_select.specs.Outlines.{OutlineContents, name_of_span, end_of_span}
use Rattle.pathspec_select.proofs.listing.outline.OutlineEntries.len.Goals as goal

pub returns : goal.returns
returns c =
    let s = c.self.inside in
    let count = entries_count (name_of_span s.bytes.now s.spans) (end_of_span s.spans) (length s.spans) s.nested.stack s.nested.directories c.self.invariant.nesting c.args.self.now.tree (ap (λ (o : OutlineContents). o.tree) c.self.view_is) in
    omega (arith, c.len.ensures, c.self.invariant.room, count)
