use Rattle.std.proofs.Common.{length, ap, ◌∙◌}
use Rattle.pathspec_parts.proofs.NestingProofs.{count_of, nested_of, bytes_of}
use Rattle.pathspec_select.specs.Outlines.{OutlineContents, name_of_span, end_of_span}
use Rattle.pathspec_select.proofs.listing.outline.OutlineEntries.directories.Goals as goal

pub returns-clause-count : goal.returns-clause-count
returns-clause-count c = let s = c.self.inside in c.directories.ensures ∙ count_of (name_of_span s.bytes.now s.spans) (end_of_span s.spans) (length s.spans) s.nested.stack s.nested.directories c.self.invariant.nesting c.args.self.now.tree (ap (λ (o : OutlineContents). o.tree) c.self.view_is)

pub returns-clause-nested : goal.returns-clause-nested
returns-clause-nested c = let s = c.self.inside in nested_of (name_of_span s.bytes.now s.spans) (end_of_span s.spans) (length s.spans) s.nested.stack s.nested.directories c.self.invariant.nesting c.args.self.now.tree (ap (λ (o : OutlineContents). o.tree) c.self.view_is)

pub returns-clause-bytes : goal.returns-clause-bytes
returns-clause-bytes c = let s = c.self.inside in bytes_of (name_of_span s.bytes.now s.spans) (end_of_span s.spans) (length s.spans) s.nested.stack s.nested.directories c.self.invariant.nesting c.args.self.now.tree (ap (λ (o : OutlineContents). o.tree) c.self.view_is)
