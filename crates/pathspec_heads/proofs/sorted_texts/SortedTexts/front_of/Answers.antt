use Rattle.std.proofs.Common.{◌≡◌, ◌+◌, ◌<◌, arith, length, leb, false, refl, subst, Some, None, Option, ℕ}
use Rattle.std.proofs.lemmas.Bool.Decides.{nat_tests}
use Rattle.pathspec_heads.specs.Heads.{head_at, IsLastFront}
use Rattle.pathspec_heads.proofs.HeadProofs.{IsWalked, walk-begun, walk-here, walk-goes, front-begun, front-found, front-none}
use Rattle.pathspec_heads.proofs.sorted_texts.SortedTexts.front_of.Goals as goal
use Rattle.pathspec_heads.proofs.sorted_texts.SortedTexts.front_of.Goals.{After-link}

pub loop-at-init : goal.loop-at-init
loop-at-init c =
    let h = c.args.self.now in
    walk-begun h (head_at h c.args.index) (λ x. leb (length x) c.args.agreed) (c.args.index + 1) (Some c.args.index) (front-begun h c.args.index c.args.agreed)

pub text_len-requires : goal.text_len-requires
text_len-requires c =
    let h = c.args.self.now in
    omega (arith, (walk-here h (head_at h c.args.index) (λ x. leb (length x) c.args.agreed) (c.args.index + 1) (Some c.loop-at.at) c.loop-at.at c.loop-at.invariant refl).0, c.requires)

pub loop-at-smaller : goal.loop-at-smaller
loop-at-smaller c = (c.link.ensures.last.begins c.in-Some.link c.in-Some.is).0

-- the text is too long, so its link takes its place
goes : (c : After-link) → (link : Option ℕ) → c.link.result ≡ link → IsWalked c.args.self.now (head_at c.args.self.now c.args.index) (λ x. leb (length x) c.args.agreed) (c.args.index + 1) link
goes c link is =
    let h = c.args.self.now in
    let at = c.loop-at.at in
    let long : leb (length (head_at h at)) c.args.agreed ≡ false = too_long (length (head_at h at)) c.args.agreed (omega (arith, c.loop-at-test.true, c.text_len.ensures)) in
    walk-goes h c.link.ensures.rising (head_at h c.args.index) (λ x. leb (length x) c.args.agreed) (c.args.index + 1) (omega (arith, c.requires)) (Some at) at link c.loop-at.invariant refl long
    (subst (λ o. IsLastFront h at (head_at h at) o) is c.link.ensures.last)
  where
    too_long : (a b : ℕ) → b < a → leb a b ≡ false
    too_long a b l = grind (arith, nat_tests)

pub loop-at-preserved : goal.loop-at-preserved
loop-at-preserved c = goes (goal.at.loop-at-preserved c).After-link (Some c.in-Some.link) c.in-Some.is

pub returns-in-None : goal.returns-in-None
returns-in-None c = front-none c.args.self.now c.args.index c.args.agreed None (goes (goal.at.returns-in-None c).After-link None c.in-None.is) refl

pub returns : goal.returns
returns c = front-found c.args.self.now c.args.index c.args.agreed c.loop-at.at c.loop-at.invariant (omega (arith, c.loop-at-test.false, c.text_len.ensures))
