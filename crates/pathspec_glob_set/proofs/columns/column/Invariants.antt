use Rattle.std.proofs.Common.{◌≡◌, ℕ, ◌<◌, ◌≤◌, ◌+◌, length, get_or}
use Rattle.pathspec_glob.specs.BitVecs.{holds}
use Rattle.pathspec_glob_set.specs.declared.member.Member.{Member}
use Rattle.pathspec_glob_set.specs.Questions.{answer_of}
use Rattle.pathspec_glob_set.specs.Sets.{size_of, IsAt}
use Rattle.pathspec_glob_set.proofs.columns.column.Given as goal

abbrev pub invariant-loop-number : goal.invariant-loop-number
invariant-loop-number l = record {
  len : length l.column ≡ l.places;
  column : (g : ℕ) (glob : Member) (i k : ℕ) → g < l.number → IsAt l.globs g glob → i ≤ size_of glob → k + i ≡ get_or l.ends g 0 → holds l.column k ≡ answer_of l.question glob i;
}
