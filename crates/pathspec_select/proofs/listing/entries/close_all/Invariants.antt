use Rattle.std.proofs.Common.{◌≡◌, length, fold, replicate}
use Rattle.pathspec_parts.specs.Entries.Call.{Close}
use Rattle.pathspec_parts.specs.Trees.{tree_after}
use Rattle.pathspec_parts.specs.Records.{directory_names}
use Rattle.pathspec_select.specs.Outlines.{KeepsListing}
use Rattle.pathspec_select.proofs.listing.entries.close_all.Given as goal

abbrev pub invariant-loop-rest : goal.invariant-loop-rest
invariant-loop-rest l = record {
  tree : fold tree_after l.outline.tree (replicate (length (directory_names l.rest)) Close) ≡ fold tree_after l.fn.outline.tree (replicate (length (directory_names l.path)) Close);
  marks : l.outline.marks ≡ l.fn.outline.marks;
  kept : KeepsListing l.fn.outline l.outline;
}

abbrev pub decreases-loop-rest : goal.decreases-loop-rest
decreases-loop-rest l = length l.rest
