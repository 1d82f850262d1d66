use Rattle.std.proofs.Common.{◌≡◌, length}
use Rattle.pathspec_select.specs.TreeCopies.{IsCopy}
use Rattle.pathspec_select.proofs.listing.copy.tree_of.Given as goal

abbrev pub invariant-loop-number : goal.invariant-loop-number
invariant-loop-number l = record {
  copy : IsCopy l.outline.tree.entries l.tree l.opened.items;
  count : length l.tree.entries ≡ l.number;
}
