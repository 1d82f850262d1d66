use Rattle.std.proofs.Common.{◌≡◌, ◌≤◌, ◌+◌, false, arith, length}
use Rattle.pathspec_glob.proofs.Words.{tokens, matches}
use Rattle.pathspec_glob.proofs.AnswerProofs.{glob-answers, glob-answers-tail, no-front, no-end, between-decides, few-steps, all-steps, steps-fit, tail-steps}
use Rattle.pathspec_glob.proofs.GlobProofs.{glob_is_relation}
use Rattle.pathspec_glob.proofs.matcher.Glob.matches.Goals.{In_default, In_default-behind_front, After-matches, In-Some-behind_front}
use Rattle.pathspec_glob.proofs.matcher.Glob.matches.Goals as goal

-- the tail takes no end
tailless : (c : In_default) → false ≡ matches c.deref-parts.result.now.head.mode c.args.case (tokens c.deref-parts.result.now.head.mode c.deref-parts.result.now.source.pattern) c.args.text.now
tailless c =
    let parts = c.deref-parts.result.now in
    no-end parts.head.mode c.args.case parts.source.pattern parts.head parts.middle parts.tail (rw c.deref-parts.ensures c.self.invariant) c.args.text.now (λ k. omega (arith, c.type_inv.text k)) c.in_default.ensures.taken

pub returns-in_default-clause-answer : goal.returns-in_default-clause-answer
returns-in_default-clause-answer c =
    let parts = c.deref-parts.result.now in
    glob-answers parts.head.mode parts.source.pattern c.args.self.now c.args.case c.args.text.now false c.before_end.new.steps.last (rw c.deref-parts.ensures c.self.view_is) (tailless (goal.at.returns-in_default-clause-answer c).In_default)
    (few-steps parts.head.mode c.args.case parts.source.pattern parts.head parts.middle parts.tail (rw c.deref-parts.ensures c.self.invariant) c.args.text.now (λ k. omega (arith, c.type_inv.text k)) c.before_end.new.steps.last (omega (arith, c.in_default.ensures.most, c.begin.ensures.last)))
    (λ h. cc)

pub returns-in_default-clause-tail : goal.returns-in_default-clause-tail
returns-in_default-clause-tail c =
    glob-answers-tail c.deref-parts.result.now.head.mode c.deref-parts.result.now.source.pattern c.args.self.now c.args.case c.args.text.now false (rw c.deref-parts.ensures c.self.view_is) (tailless (goal.at.returns-in_default-clause-tail c).In_default)

pub returns-in_default-clause-function : goal.returns-in_default-clause-function
returns-in_default-clause-function c = glob_is_relation

-- the head takes no front
headless : (c : In_default-behind_front) → false ≡ matches c.deref-parts.result.now.head.mode c.args.case (tokens c.deref-parts.result.now.head.mode c.deref-parts.result.now.source.pattern) c.args.text.now
headless c =
    let parts = c.deref-parts.result.now in
    no-front parts.head.mode c.args.case parts.source.pattern parts.head parts.middle parts.tail (rw c.deref-parts.ensures c.self.invariant) c.args.text.now (λ k. omega (arith, c.type_inv.text k))
    c.in-Some.before.now c.in-Some.ensures.before c.in-Some.ensures.taken c.in_default-behind_front.ensures.taken

-- no more steps than bytes
spent : (c : In_default-behind_front) → c.behind_front.new.steps.last ≤ length c.args.text.now
spent c = omega (arith, c.in_default-behind_front.ensures.most, c.in-Some.ensures.least, c.begin.ensures.last)

pub returns-in_default-behind_front-clause-answer : goal.returns-in_default-behind_front-clause-answer
returns-in_default-behind_front-clause-answer c =
    let parts = c.deref-parts.result.now in
    let here = (goal.at.returns-in_default-behind_front-clause-answer c).In_default-behind_front in
    glob-answers parts.head.mode parts.source.pattern c.args.self.now c.args.case c.args.text.now false c.behind_front.new.steps.last (rw c.deref-parts.ensures c.self.view_is) (headless here)
    (few-steps parts.head.mode c.args.case parts.source.pattern parts.head parts.middle parts.tail (rw c.deref-parts.ensures c.self.invariant) c.args.text.now (λ k. omega (arith, c.type_inv.text k)) c.behind_front.new.steps.last (spent here))
    (λ h. cc)

pub returns-in_default-behind_front-clause-tail : goal.returns-in_default-behind_front-clause-tail
returns-in_default-behind_front-clause-tail c =
    glob-answers-tail c.deref-parts.result.now.head.mode c.deref-parts.result.now.source.pattern c.args.self.now c.args.case c.args.text.now false (rw c.deref-parts.ensures c.self.view_is) (headless (goal.at.returns-in_default-behind_front-clause-tail c).In_default-behind_front)

pub returns-in_default-behind_front-clause-function : goal.returns-in_default-behind_front-clause-function
returns-in_default-behind_front-clause-function c = glob_is_relation

-- what stands between decides
decided : (c : After-matches) → c.matches.result ≡ matches c.deref-parts.result.now.head.mode c.args.case (tokens c.deref-parts.result.now.head.mode c.deref-parts.result.now.source.pattern) c.args.text.now
decided c =
    let parts = c.deref-parts.result.now in
    between-decides parts.head.mode c.args.case parts.source.pattern parts.head parts.middle parts.tail (rw c.deref-parts.ensures c.self.invariant) c.args.text.now (λ k. omega (arith, c.type_inv.text k))
    c.in-Some.before.now c.in-Some-behind_front.between.now c.matches.result c.in-Some.ensures.before c.in-Some.ensures.taken
    c.in-Some-behind_front.ensures.behind c.in-Some-behind_front.ensures.taken c.matches.ensures.answer

-- a step for each byte of the head and of the tail
ends-spent : (c : In-Some-behind_front) → c.behind_front.new.steps.last + length c.in-Some-behind_front.between.now ≡ length c.args.text.now
ends-spent c = omega (arith, c.in-Some-behind_front.ensures.least, c.in-Some.ensures.least, c.begin.ensures.last)

pub matches-requires-clause-steps : goal.matches-requires-clause-steps
matches-requires-clause-steps c =
    let parts = c.deref-parts.result.now in
    steps-fit parts.head.mode c.args.case parts.source.pattern parts.head parts.middle parts.tail (rw c.deref-parts.ensures c.self.invariant) c.args.text.now (λ k. omega (arith, c.type_inv.text k)) c.behind_front.new.steps.last (length c.in-Some-behind_front.between.now)
    (ends-spent (goal.at.matches-requires-clause-steps c).In-Some-behind_front) (rw c.deref-parts.ensures c.self.invariant.fits) (omega arith)

pub returns-clause-answer : goal.returns-clause-answer
returns-clause-answer c =
    let parts = c.deref-parts.result.now in
    let spent = ends-spent (goal.at.returns-clause-answer c).In-Some-behind_front in
    glob-answers parts.head.mode parts.source.pattern c.args.self.now c.args.case c.args.text.now c.matches.result c.matches.new.steps.last (rw c.deref-parts.ensures c.self.view_is) (decided (goal.at.returns-clause-answer c).After-matches)
    (all-steps parts.head.mode c.args.case parts.source.pattern parts.head parts.middle parts.tail (rw c.deref-parts.ensures c.self.invariant) c.args.text.now (λ k. omega (arith, c.type_inv.text k)) c.behind_front.new.steps.last (length c.in-Some-behind_front.between.now) c.matches.new.steps.last spent c.matches.ensures.most)
    (λ h. omega (arith, c.matches.ensures.least h, spent))

pub returns-clause-tail : goal.returns-clause-tail
returns-clause-tail c =
    glob-answers-tail c.deref-parts.result.now.head.mode c.deref-parts.result.now.source.pattern c.args.self.now c.args.case c.args.text.now c.matches.result (rw c.deref-parts.ensures c.self.view_is) (decided (goal.at.returns-clause-tail c).After-matches)

pub returns-clause-few : goal.returns-clause-few
returns-clause-few c tail =
    let parts = c.deref-parts.result.now in
    tail-steps parts.head.mode parts.source.pattern parts.head parts.middle parts.tail (rw c.deref-parts.ensures c.self.invariant) c.args.self.now (rw c.deref-parts.ensures c.self.view_is) c.args.text.now
    c.behind_front.new.steps.last (length c.in-Some-behind_front.between.now) c.matches.new.steps.last (ends-spent (goal.at.returns-clause-few c).In-Some-behind_front) c.matches.ensures.most tail

pub returns-clause-function : goal.returns-clause-function
returns-clause-function c = glob_is_relation
