use Rattle.std.proofs.Common.{◌≡◌, ◌≤◌, length, drop}
use Rattle.pathspec_glob.specs.GlobParts.{wide_size}
use Rattle.pathspec_glob.proofs.PartProofs.{so_far}
use Rattle.pathspec_glob.proofs.tokens.Tokens.wide_size.Given as goal

abbrev pub invariant-loop-place : goal.invariant-loop-place
invariant-loop-place l = record {
  size : wide_size l.self.mode l.self.tokens ≡ so_far l.size l.place (wide_size l.self.mode (drop l.place l.self.tokens));
  within : l.size ≤ length l.self.tokens;
}
