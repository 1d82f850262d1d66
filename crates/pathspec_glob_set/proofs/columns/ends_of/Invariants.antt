use Rattle.std.proofs.Common.{◌≡◌, ℕ, suc, ◌<◌, ◌+◌, ◌^◌, length, get_or}
use Rattle.pathspec_glob_set.specs.declared.member.Member.{Member}
use Rattle.pathspec_glob_set.specs.Sets.{size_of, IsAt}
use Rattle.pathspec_glob_set.proofs.columns.ends_of.Given as goal

abbrev pub invariant-loop-glob : goal.invariant-loop-glob
invariant-loop-glob l = record {
  len : length l.ends.items ≡ l.glob-index;
  small : (g : ℕ) → g < length l.ends.items → get_or l.ends.items g 0 < 2 ^ 62;
  none : l.glob-index ≡ 0 → l.places ≡ 0;
  last : (g : ℕ) → suc g ≡ l.glob-index → l.places ≡ suc (get_or l.ends.items g 0);
  first : (glob : Member) → 0 < l.glob-index → IsAt l.globs 0 glob → get_or l.ends.items 0 0 ≡ size_of glob;
  next : (g : ℕ) (glob : Member) → suc g < l.glob-index → IsAt l.globs (suc g) glob → get_or l.ends.items (suc g) 0 ≡ suc (get_or l.ends.items g 0 + size_of glob);
}
