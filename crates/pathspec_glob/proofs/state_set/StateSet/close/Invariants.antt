use Rattle.std.proofs.Common.{◌≡◌, ◌≤◌, ◌<◌, ◌+◌, ◌-◌, ◌*◌, ℕ, false, length}
use Rattle.pathspec_glob.specs.GlobSteps.{TokenList}
use Rattle.pathspec_glob.specs.BitVecs.{holds}
use Rattle.pathspec_glob.specs.StateSets.{with_carry, Includes, IsClosedBefore, IsLeast, IsMovesOf}
use Rattle.pathspec_glob.proofs.state_set.StateSet.close.Given as goal

abbrev pub invariant-loop-index : goal.invariant-loop-index
invariant-loop-index l = record {
  includes : (parts : TokenList) → IsMovesOf parts l.moves → Includes (length parts.tokens) (with_carry l.index l.carry l.self.entered) (holds l.fn.self.entered);
  closed : (parts : TokenList) → IsMovesOf parts l.moves → IsClosedBefore (l.index * 64) parts.mode parts.tokens (with_carry l.index l.carry l.self.entered) (holds l.fn.self.staying);
  least : (parts : TokenList) → IsMovesOf parts l.moves
      → IsLeast parts.mode parts.tokens (holds l.fn.self.entered) (holds l.fn.self.staying) (with_carry l.index l.carry l.self.entered);
  behind : (i : ℕ) → l.index * 64 ≤ i → holds l.self.entered i ≡ holds l.fn.self.entered i;
  before : (i : ℕ) → i < l.fn.self.first * 64 → holds l.self.entered i ≡ false;
  from : l.fn.self.first ≤ l.index;
  within : l.index * 64 ≤ length l.moves.wide + 64;
  entered : length l.self.entered ≡ length l.fn.self.entered;
  staying : l.self.staying ≡ l.fn.self.staying;
  first : l.self.first ≡ l.fn.self.first;
  end : l.self.end ≡ l.fn.self.end;
}

abbrev pub decreases-loop-index : goal.decreases-loop-index
decreases-loop-index l = length l.moves.wide + 64 - l.index
