use Rattle.std.proofs.Common.{◌≡◌, ◌≤◌, true}
use Rattle.pathspec_glob.specs.Bytes.{begins_with}
use Rattle.pathspec_heads.specs.Heads.{head_at}
use Rattle.pathspec_heads.specs.Groups.{IsLeastFrom}
use Rattle.pathspec_heads.proofs.NextProofs.{IsInChainFrom}
use Rattle.pathspec_heads.proofs.places.PlacesByHead.next_in_chain.Given as goal

abbrev pub invariant-loop-link : goal.invariant-loop-link
invariant-loop-link l = record {
  before : l.at ≤ l.head;
  begins : begins_with (head_at l.self.heads l.head) (head_at l.self.heads l.at) ≡ true;
  next : IsLeastFrom (IsInChainFrom l.self.heads l.self.starts l.self.order l.at l.head) l.from l.next;
}

abbrev pub decreases-loop-link : goal.decreases-loop-link
decreases-loop-link l = l.at
