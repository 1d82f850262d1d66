use Rattle.std.proofs.Common.{◌≡◌, ◌≤◌, ◌++◌, ◌-◌, length, take, drop, map, fold, replicate, None}
use Rattle.pathspec_parts.specs.Entries.Call.{Open}
use Rattle.pathspec_parts.specs.Trees.{tree_after}
use Rattle.pathspec_parts.specs.Records.{directory_names, has_empty_name}
use Rattle.pathspec_select.specs.Outlines.{HasOpen, KeepsListing}
use Rattle.pathspec_select.proofs.listing.entries.open_all.Given as goal

abbrev pub invariant-loop-end : goal.invariant-loop-end
invariant-loop-end l = record {
  within : l.end ≤ length l.path;
  here : HasOpen l.outline.tree (take l.end l.path);
  tree : fold tree_after l.outline.tree (map Open (directory_names (drop l.end l.path))) ≡ fold tree_after l.fn.outline.tree (map Open (directory_names (drop l.opened l.path)));
  marks : l.outline.marks ++ replicate (length (directory_names (drop l.end l.path))) None ≡ l.fn.outline.marks ++ replicate (length (directory_names (drop l.opened l.path))) None;
  named : has_empty_name (directory_names (drop l.end l.path)) ≡ has_empty_name (directory_names (drop l.opened l.path));
  kept : KeepsListing l.fn.outline l.outline;
}

abbrev pub decreases-loop-end : goal.decreases-loop-end
decreases-loop-end l = length l.path - l.end
