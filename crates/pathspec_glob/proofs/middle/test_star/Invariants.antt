use Rattle.std.proofs.Common.{◌≡◌, ◌+◌, drop}
use Rattle.pathspec_glob.specs.GlobParts.{first_token_takes, first_token_tests}
use Rattle.pathspec_glob.proofs.middle.test_star.Given as goal

abbrev pub invariant-loop-place : goal.invariant-loop-place
invariant-loop-place l = record {
  answer : first_token_takes l.tokens.tokens (drop l.place l.text) ≡ first_token_takes l.tokens.tokens l.text;
  tests : l.place + first_token_tests l.tokens.tokens (drop l.place l.text) ≡ first_token_tests l.tokens.tokens l.text;
  count : l.tests.count ≡ l.place;
  alone : l.tests.tokens ≡ 1;
  steps : l.steps ≡ l.fn.steps;
}
