use Rattle.std.proofs.Common.{◌≡◌, ℕ, ◌&&◌, ◌||◌, nat_lt}
use Rattle.pathspec_glob.proofs.Words.{class_name, passes, class_of}
use Rattle.pathspec_glob.specs.BitVecs.{words_hold}
use Rattle.pathspec_glob.proofs.sets.ByteSet.insert_class.Given as goal

abbrev pub invariant-loop-byte : goal.invariant-loop-byte
invariant-loop-byte l = (b : ℕ) → words_hold l.self.words b ≡ (words_hold l.fn.self.words b || (nat_lt b l.byte && passes (class_of (class_name l.class)) b))
