use Rattle.std.proofs.Common.{◌≡◌, ℕ, ◌<◌, length, drop}
use Rattle.pathspec_glob.specs.GlobSteps.{is_wide_at, may_pass_over_at}
use Rattle.pathspec_glob.specs.BitVecs.{holds}
use Rattle.pathspec_glob.proofs.state_set.moves.EmptyMoves.of_tokens.Given as goal

abbrev pub invariant-loop-place : goal.invariant-loop-place
invariant-loop-place l = record {
  wide_len : length l.wide ≡ length l.tokens.tokens;
  overs_len : length l.skippable ≡ length l.tokens.tokens;
  wide : (i : ℕ) → i < l.place → holds l.wide i ≡ is_wide_at (drop i l.tokens.tokens);
  skippable : (i : ℕ) → i < l.place → holds l.skippable i ≡ may_pass_over_at l.tokens.mode (drop i l.tokens.tokens);
}
