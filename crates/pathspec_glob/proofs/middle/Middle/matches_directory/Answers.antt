use Rattle.std.proofs.Common.{◌≡◌, ◌<◌, ◌≤◌, ◌+◌, ◌*◌, sym, ◌∙◌, ap, arith, length}
use Rattle.std.proofs.Math.Nat.{mul-le-mul}
use Rattle.pathspec_glob.specs.GlobSteps.{TokenList}
use Rattle.pathspec_glob.specs.Matchers.{IsLoneStar}
use Rattle.pathspec_glob.specs.WordAutomata.{IsAutomatonOf}
use Rattle.pathspec_glob.proofs.PlaceProofs.{some-cell, some-token}
use Rattle.pathspec_glob.proofs.middle.Middle.matches_directory.Goals.{After-add, After-test_star}
use Rattle.pathspec_glob.proofs.middle.Middle.matches_directory.Goals as goal

-- a step a byte is within the bound
once : (c : After-test_star) → length c.args.directory.now + 1 ≤ length c.args.self.now.tokens * (length c.args.directory.now + 1)
once c =
    let tokens = c.args.self.now.tokens in
    let size = length c.args.directory.now + 1 in
    let matcher : IsLoneStar c.in-LoneStar.tokens = rw c.in-LoneStar.is at c.self.invariant in
    let some = some-token c.in-LoneStar.tokens.tokens matcher.wide in
    let once = mul-le-mul {n₁ = 1} {m₁ = size} {n₂ = length tokens} {m₂ = size} (rw (sym (rw c.in-LoneStar.is at c.self.view_is)) some) (omega arith) in
    omega (arith, once)

pub returns-then-test_star-clause-most : goal.returns-then-test_star-clause-most
returns-then-test_star-clause-most c = omega (arith, c.test_star.ensures.most, c.test_star-then-test_star.ensures.most, once (goal.at.returns-then-test_star-clause-most c).After-test_star)

pub returns-else-test_star-clause-most : goal.returns-else-test_star-clause-most
returns-else-test_star-clause-most c = omega (arith, c.test_star.ensures.most, once (goal.at.returns-else-test_star-clause-most c).After-test_star)

-- a question is as many steps as there are tokens
each : (c : After-add) → c.run_directory-accepted.result.tests.tokens ≡ length c.args.self.now.tokens
each c =
    let own = c.deref.result.now in
    let matcher : IsAutomatonOf own.tokens own.word = rw c.deref.ensures (rw c.in-Word.is at c.self.invariant) in
    c.run_directory-accepted.ensures.tokens ∙ matcher.tokens ∙ ap (λ (t : TokenList). length t.tokens) (let same : own.tokens ≡ c.args.self.now = rw c.deref.ensures (rw c.in-Word.is at c.self.view_is) in same)

pub returns-in-Word-clause-most : goal.returns-in-Word-clause-most
returns-in-Word-clause-most c =
    let asked = c.run_directory-accepted.result.tests in
    let same = each (goal.at.returns-in-Word-clause-most c).After-add in
    let most = mul-le-mul {n₁ = asked.tokens} {m₁ = asked.count} {n₂ = length c.args.self.now.tokens} {m₂ = length c.args.directory.now + 1}
    (omega (arith, same)) c.run_directory-accepted.ensures.most in
    omega (arith, c.add.ensures.steps, most)

pub returns-in-Word-clause-least : goal.returns-in-Word-clause-least
returns-in-Word-clause-least c accepted =
    let asked = c.run_directory-accepted.result.tests in
    let own = c.deref.result.now in
    let matcher : IsAutomatonOf own.tokens own.word = rw c.deref.ensures (rw c.in-Word.is at c.self.invariant) in
    let some : 0 < asked.tokens = omega (arith, some-cell own.tokens.tokens matcher.some, c.run_directory-accepted.ensures.tokens, matcher.tokens) in
    let least = mul-le-mul {n₁ = 1} {m₁ = length c.args.directory.now + 1} {n₂ = asked.tokens} {m₂ = asked.count}
    some (omega (arith, c.run_directory-accepted.ensures.least accepted)) in
    omega (arith, c.add.ensures.steps, least)
