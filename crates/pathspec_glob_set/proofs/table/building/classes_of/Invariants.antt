use Rattle.std.proofs.Common.{◌≡◌, ℕ, suc, length, get_or}
use Rattle.pathspec_glob_set.specs.Questions.{AreClasses}
use Rattle.pathspec_glob_set.proofs.table.building.classes_of.Given as goal

abbrev pub invariant-loop-byte : goal.invariant-loop-byte
invariant-loop-byte l = record {
  classes : AreClasses l.globs l.ends l.places l.byte l.classes;
  all : length l.classes.of_byte ≡ 256;
  class : (b : ℕ) → suc b ≡ l.byte → l.class ≡ get_or l.classes.of_byte b 0;
}
