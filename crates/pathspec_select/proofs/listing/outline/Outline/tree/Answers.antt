-- Calls of a tree made the entries of an outline.
use Rattle.std.proofs.Common.{subst}
use Rattle.pathspec_parts.specs.Nesting.{IsMade}
use Rattle.pathspec_select.specs.Outlines.{OutlineContents}
use Rattle.pathspec_select.proofs.listing.outline.Outline.tree.Goals as goal

pub tree_of-requires : goal.tree_of-requires
tree_of-requires c = subst (λ (o : OutlineContents). IsMade o.tree) c.self.view_is c.self.invariant.nesting.made
