-- A tree without entries is a copy of what calls make.
use Rattle.std.proofs.Common.{sym, ap, subst, List, ℕ, length}
use Rattle.pathspec_parts.specs.Trees.{TreeContents, empty_tree}
use Rattle.pathspec_select.specs.TreeCopies.{IsCopy}
use Rattle.pathspec_select.proofs.TreeCopyProofs.{copies-none}
use Rattle.pathspec_select.proofs.listing.copy.tree_of.Goals as goal

pub loop-number-init : goal.loop-number-init
loop-number-init c =
    let es = c.args.outline.now.tree.entries in
    record {
      copy = subst (λ (t : TreeContents). IsCopy es t c.new-opened.result.items) (sym c.new-tree.ensures) (subst (λ (ns : List ℕ). IsCopy es empty_tree ns) (sym c.new-opened.ensures.items) (copies-none c.args.outline.now.tree c.requires));
      count = ap (λ (t : TreeContents). length t.entries) c.new-tree.ensures;
    }
