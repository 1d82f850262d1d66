use Rattle.std.proofs.Common.{◌≡◌, ℕ, ◌&&◌, ◌||◌, nat_lt}
use Rattle.std.specs.Prelude.{nat_le}
use Rattle.pathspec_glob.specs.BitVecs.{words_hold}
use Rattle.pathspec_glob.proofs.sets.ByteSet.insert_range.Given as goal

abbrev pub invariant-loop-byte : goal.invariant-loop-byte
invariant-loop-byte l = (b : ℕ) → words_hold l.self.words b ≡ (words_hold l.fn.self.words b || (nat_le l.first b && (nat_lt b l.byte && nat_le b l.last)))
