use Rattle.std.proofs.Common.{◌∙◌, length}
use Rattle.pathspec_parts.specs.TreeLayout.{name_at, end_at}
use Rattle.pathspec_parts.proofs.NestingProofs.{count_of, nested_of, bytes_of}
use Rattle.pathspec_parts.proofs.tree.TreeEntries.directories.Goals as goal

pub returns-clause-count : goal.returns-clause-count
returns-clause-count c = let s = c.self.inside in c.directories.ensures ∙ count_of (name_at s.names.items s.nodes.items) (end_at s.nodes.items) (length s.nodes.items) s.nested.stack s.nested.directories c.self.invariant.nesting c.args.self.now c.self.view_is

pub returns-clause-nested : goal.returns-clause-nested
returns-clause-nested c = let s = c.self.inside in nested_of (name_at s.names.items s.nodes.items) (end_at s.nodes.items) (length s.nodes.items) s.nested.stack s.nested.directories c.self.invariant.nesting c.args.self.now c.self.view_is

pub returns-clause-bytes : goal.returns-clause-bytes
returns-clause-bytes c = let s = c.self.inside in bytes_of (name_at s.names.items s.nodes.items) (end_at s.nodes.items) (length s.nodes.items) s.nested.stack s.nested.directories c.self.invariant.nesting c.args.self.now c.self.view_is
