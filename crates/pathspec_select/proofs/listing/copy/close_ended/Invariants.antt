use Rattle.std.proofs.Common.{◌≡◌, length}
use Rattle.pathspec_select.specs.TreeCopies.{TakesNextAbove}
use Rattle.pathspec_select.proofs.listing.copy.close_ended.Given as goal

abbrev pub invariant-loop-last : goal.invariant-loop-last
invariant-loop-last l = record {
  course : TakesNextAbove l.outline.tree.entries l.tree l.opened.items;
  entries : l.tree.entries ≡ l.fn.tree.entries;
}

abbrev pub decreases-loop-last : goal.decreases-loop-last
decreases-loop-last l = length l.opened.items
