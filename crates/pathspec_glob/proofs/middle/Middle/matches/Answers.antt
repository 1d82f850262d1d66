use Rattle.std.proofs.Common.{◌≡◌, ◌<◌, sym, ◌∙◌, ap, arith, length}
use Rattle.std.proofs.Math.Nat.{mul-le-mul}
use Rattle.pathspec_glob.specs.GlobSteps.{TokenList}
use Rattle.pathspec_glob.specs.Matchers.{IsLoneStar}
use Rattle.pathspec_glob.specs.WordAutomata.{IsAutomatonOf}
use Rattle.pathspec_glob.proofs.PlaceProofs.{some-cell, some-token}
use Rattle.pathspec_glob.proofs.middle.Middle.matches.Goals.{After-add}
use Rattle.pathspec_glob.proofs.middle.Middle.matches.Goals as goal

pub returns-in-LoneStar-clause-most : goal.returns-in-LoneStar-clause-most
returns-in-LoneStar-clause-most c =
    let tokens = c.args.self.now.tokens in
    let size = length c.args.text.now in
    let matcher : IsLoneStar c.in-LoneStar.tokens = rw c.in-LoneStar.is at c.self.invariant in
    let some = some-token c.in-LoneStar.tokens.tokens matcher.wide in
    let once = mul-le-mul {n₁ = 1} {m₁ = size} {n₂ = length tokens} {m₂ = size} (rw (sym (rw c.in-LoneStar.is at c.self.view_is)) some) (omega arith) in
    omega (arith, c.test_star.ensures.most, once)

-- a question is as many steps as there are tokens
each : (c : After-add) → c.run-accepted.result.tests.tokens ≡ length c.args.self.now.tokens
each c =
    let own = c.deref.result.now in
    let matcher : IsAutomatonOf own.tokens own.word = rw c.deref.ensures (rw c.in-Word.is at c.self.invariant) in
    c.run-accepted.ensures.tokens ∙ matcher.tokens ∙ ap (λ (t : TokenList). length t.tokens) (let same : own.tokens ≡ c.args.self.now = rw c.deref.ensures (rw c.in-Word.is at c.self.view_is) in same)

pub returns-in-Word-clause-most : goal.returns-in-Word-clause-most
returns-in-Word-clause-most c =
    let asked = c.run-accepted.result.tests in
    let same = each (goal.at.returns-in-Word-clause-most c).After-add in
    let most = mul-le-mul {n₁ = asked.tokens} {m₁ = asked.count} {n₂ = length c.args.self.now.tokens} {m₂ = length c.args.text.now}
    (omega (arith, same)) c.run-accepted.ensures.most in
    omega (arith, c.add.ensures.steps, most)

pub returns-in-Word-clause-least : goal.returns-in-Word-clause-least
returns-in-Word-clause-least c accepted =
    let asked = c.run-accepted.result.tests in
    let own = c.deref.result.now in
    let matcher : IsAutomatonOf own.tokens own.word = rw c.deref.ensures (rw c.in-Word.is at c.self.invariant) in
    let some : 0 < asked.tokens = omega (arith, some-cell own.tokens.tokens matcher.some, c.run-accepted.ensures.tokens, matcher.tokens) in
    let least = mul-le-mul {n₁ = 1} {m₁ = length c.args.text.now} {n₂ = asked.tokens} {m₂ = asked.count}
    some (omega (arith, c.run-accepted.ensures.least accepted)) in
    omega (arith, c.add.ensures.steps, least)
