use Rattle.std.proofs.Common.{◌≡◌, ◌+◌, ◌∙◌, sym, ap, arith, drop, ◌&&◌, refl, suc, [], if◌then◌else◌}
use Rattle.std.proofs.Math.ListN.{drop_of_length-le}
use Rattle.pathspec_glob.specs.GlobParts.{takes_each, tests_each}
use Rattle.pathspec_glob.proofs.EndProofs.{takes_each-step, tests_each-step, tests_each-none}
use Rattle.pathspec_glob.proofs.ends.test_tokens.Goals.{After-test}
use Rattle.pathspec_glob.proofs.ends.test_tokens.Goals as goal

-- the test of a place, and those behind it
tested : (c : After-test) → takes_each c.args.tokens.now.mode c.args.case (drop c.loop-place.place c.args.tokens.now.tokens) (drop c.loop-place.place c.args.text.now)
    ≡ (c.test.result && takes_each c.args.tokens.now.mode c.args.case (drop (c.loop-place.place + 1) c.args.tokens.now.tokens) (drop (c.loop-place.place + 1) c.args.text.now))
tested c =
    let behind = takes_each c.args.tokens.now.mode c.args.case (drop (c.loop-place.place + 1) c.args.tokens.now.tokens) (drop (c.loop-place.place + 1) c.args.text.now) in
    takes_each-step c.args.tokens.now.mode c.args.case c.args.tokens.now.tokens c.args.text.now c.loop-place.place c.loop-place-test.true c.requires.len
    ∙ ap (λ x. x && behind) (sym c.test.ensures.answer)

-- how many are tested from a place on
counted : (c : After-test) → tests_each c.args.tokens.now.mode c.args.case (drop c.loop-place.place c.args.tokens.now.tokens) (drop c.loop-place.place c.args.text.now)
    ≡ suc (if c.test.result then tests_each c.args.tokens.now.mode c.args.case (drop (c.loop-place.place + 1) c.args.tokens.now.tokens) (drop (c.loop-place.place + 1) c.args.text.now) else 0)
counted c =
    let behind = tests_each c.args.tokens.now.mode c.args.case (drop (c.loop-place.place + 1) c.args.tokens.now.tokens) (drop (c.loop-place.place + 1) c.args.text.now) in
    tests_each-step c.args.tokens.now.mode c.args.case c.args.tokens.now.tokens c.args.text.now c.loop-place.place c.loop-place-test.true c.requires.len
    ∙ ap (λ x. suc (if x then behind else 0)) (sym c.test.ensures.answer)

pub loop-place-preserved : goal.loop-place-preserved
loop-place-preserved c =
    let test = (goal.at.loop-place-preserved c).After-test in
    record {
      answer = sym (tested test ∙ rw c.if-not-test.false refl) ∙ c.loop-place.invariant.answer;
      tests = let one = rw c.if-not-test.false at (counted test) in omega (arith, one, c.loop-place.invariant.tests);
      count = omega (arith, c.test.ensures.count, c.loop-place.invariant.count);
      alone = c.test.ensures.tokens;
      steps = c.loop-place.invariant.steps;
    }

pub returns-then-not-test-clause-tests : goal.returns-then-not-test-clause-tests
returns-then-not-test-clause-tests c =
    let one = rw c.if-not-test.true at (counted (goal.at.returns-then-not-test-clause-tests c).After-test) in
    let same = ap (λ s. s.last) c.loop-place.invariant.steps in
    let told = rw c.test.ensures.tokens at c.add.ensures.steps in
    omega (arith, one, same, told, c.test.ensures.count, c.loop-place.invariant.count, c.loop-place.invariant.tests)

pub returns-clause-tests : goal.returns-clause-tests
returns-clause-tests c =
    let text = c.args.text.now in
    let ended : drop c.loop-place.place text ≡ [] = drop_of_length-le text {i = c.loop-place.place} c.loop-place-test.false in
    let none = ap (tests_each c.args.tokens.now.mode c.args.case (drop c.loop-place.place c.args.tokens.now.tokens)) ended ∙ tests_each-none c.args.tokens.now.mode c.args.case (drop c.loop-place.place c.args.tokens.now.tokens) in
    let same = ap (λ s. s.last) c.loop-place.invariant.steps in
    let told = rw c.loop-place.invariant.alone at c.add-2.ensures.steps in
    omega (arith, none, same, told, c.loop-place.invariant.count, c.loop-place.invariant.tests, c.loop-place-test.false)
