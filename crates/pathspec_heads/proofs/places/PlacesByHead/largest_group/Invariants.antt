-- No group so far is larger, and one is as large.
use Rattle.std.proofs.Common.{◌≡◌, ℕ, ◌<◌, ◌≤◌}
use Rattle.pathspec_heads.specs.Groups.{group_size}
use Rattle.pathspec_heads.proofs.places.PlacesByHead.largest_group.Given as goal

abbrev pub invariant-loop-head : goal.invariant-loop-head
invariant-loop-head l = record {
  all : (k : ℕ) → k < l.head → group_size l.self.starts l.self.order k ≤ l.largest;
  some : 0 < l.largest → (k : ℕ) × (k < l.head) × (group_size l.self.starts l.self.order k ≡ l.largest);
}
