use Rattle.std.proofs.Common.{◌≡◌, ◌<◌, ◌≤◌, ◌-◌, ◌*◌, ℕ, false}
use Rattle.pathspec_glob.specs.BitVecs.{holds}
use Rattle.pathspec_glob.proofs.state_set.StateSet.skip_words.Given as goal

abbrev pub invariant-loop-self : goal.invariant-loop-self
invariant-loop-self l = record {
  entered : l.self.entered ≡ l.fn.self.entered;
  staying : l.self.staying ≡ l.fn.self.staying;
  end : l.self.end ≡ l.fn.self.end;
  order : l.self.first ≤ l.self.end;
  before_entered : (i : ℕ) → i < l.self.first * 64 → holds l.self.entered i ≡ false;
  before_staying : (i : ℕ) → i < l.self.first * 64 → holds l.self.staying i ≡ false;
}

abbrev pub decreases-loop-self : goal.decreases-loop-self
decreases-loop-self l = l.self.end - l.self.first
