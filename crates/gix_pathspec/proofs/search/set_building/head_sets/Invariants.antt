use Rattle.std.proofs.Common.{All}
use Rattle.gix_pathspec.specs.HeadSets.{IsUnread}
use Rattle.gix_pathspec.proofs.SetBuildingProofs.{AreSetsSoFar}
use Rattle.gix_pathspec.proofs.search.set_building.head_sets.Given as goal

abbrev pub invariant-loop-number : goal.invariant-loop-number
invariant-loop-number l = record {
  so_far : AreSetsSoFar l.sources l.sets.items l.number;
  unread : All IsUnread l.sets.items;
}
