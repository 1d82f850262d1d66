use Rattle.std.proofs.Common.{◌≡◌, ◌+◌, drop}
use Rattle.pathspec_glob.specs.GlobParts.{takes_each, tests_each}
use Rattle.pathspec_glob.proofs.ends.test_tokens.Given as goal

abbrev pub invariant-loop-place : goal.invariant-loop-place
invariant-loop-place l = record {
  answer : takes_each l.tokens.mode l.case (drop l.place l.tokens.tokens) (drop l.place l.text) ≡ takes_each l.tokens.mode l.case l.tokens.tokens l.text;
  tests : l.place + tests_each l.tokens.mode l.case (drop l.place l.tokens.tokens) (drop l.place l.text) ≡ tests_each l.tokens.mode l.case l.tokens.tokens l.text;
  count : l.tests.count ≡ l.place;
  alone : l.tests.tokens ≡ 1;
  steps : l.steps ≡ l.fn.steps;
}
