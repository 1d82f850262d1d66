use Rattle.std.proofs.Common.{◌≡◌, ◌≤◌, ◌<◌, ◌-◌, ◌*◌, ℕ, false, length}
use Rattle.pathspec_glob.specs.GlobCells.{has}
use Rattle.pathspec_glob.specs.BitVecs.{holds}
use Rattle.pathspec_glob.specs.StateSets.{arrives, is_active, stays, KeepsRoom}
use Rattle.pathspec_glob.proofs.state_set.StateSet.take.Given as goal

abbrev pub invariant-loop-index : goal.invariant-loop-index
invariant-loop-index l = record {
  entered : (i : ℕ) → i < l.index * 64 → i ≤ length l.tokens.tokens → holds l.self.entered i ≡ arrives l.tokens l.case l.fn.self l.byte i;
  staying : (i : ℕ) → i < l.index * 64 → i < length l.tokens.tokens → holds l.self.staying i ≡ stays l.tokens l.case l.fn.self l.byte i;
  carry : has l.carry 0 ≡ arrives l.tokens l.case l.fn.self l.byte (l.index * 64);
  small : l.carry < 2;
  none : l.tests.count ≡ 0 → (i : ℕ) → i < l.index * 64 → i < length l.tokens.tokens → is_active l.fn.self i ≡ false;
  most : l.tests.count ≤ l.index * 64;
  within : l.tests.count ≤ length l.tokens.tokens;
  alone : l.tests.tokens ≡ 1;
  behind_entered : (i : ℕ) → l.index * 64 ≤ i → holds l.self.entered i ≡ holds l.fn.self.entered i;
  behind_staying : (i : ℕ) → l.index * 64 ≤ i → holds l.self.staying i ≡ holds l.fn.self.staying i;
  before_entered : (i : ℕ) → i < l.fn.self.first * 64 → holds l.self.entered i ≡ false;
  before_staying : (i : ℕ) → i < l.fn.self.first * 64 → holds l.self.staying i ≡ false;
  from : l.fn.self.first ≤ l.index;
  to : l.index ≤ l.fn.self.end;
  room : KeepsRoom l.fn.self l.self;
  first : l.self.first ≡ l.fn.self.first;
  end : l.self.end ≡ l.fn.self.end;
}

abbrev pub decreases-loop-index : goal.decreases-loop-index
decreases-loop-index l = l.self.end - l.index
