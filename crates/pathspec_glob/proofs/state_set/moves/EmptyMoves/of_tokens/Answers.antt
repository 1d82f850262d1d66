-- Each round sets one place more of both rows.
use Rattle.std.proofs.Common.{◌≡◌, ℕ, ◌+◌, ◌<◌, Bool, false, List, length, set, drop, arith, ap, ◌∙◌, inl, inr}
use Rattle.std.proofs.lemmas.Bool.{cases_eq}
use Rattle.std.proofs.lemmas.List.{length-set, get_or-set_same, get_or-set_other}
use Rattle.pathspec_glob.specs.GlobSteps.{is_wide_at, may_pass_over_at}
use Rattle.pathspec_glob.specs.BitVecs.{holds}
use Rattle.pathspec_glob.proofs.state_set.moves.EmptyMoves.of_tokens.Goals as goal

one-more : (row : List Bool) (place : ℕ) (value : Bool) (is : ℕ → Bool) → place < length row → value ≡ is place
    → ((i : ℕ) → i < place → holds row i ≡ is i) → (i : ℕ) → i < place + 1 → holds (set row place value) i ≡ is i
one-more row place value is within at before i low = elim (cases_eq i place) [
  | inl e ↦ rw e (get_or-set_same row place value false within ∙ at)
  | inr d ↦ get_or-set_other row place i value false d ∙ before i (omega (arith, low, d))
]

pub loop-place-preserved : goal.loop-place-preserved
loop-place-preserved c =
    let place = c.loop-place.place in
    let tokens = c.args.tokens.now in
    let before = c.loop-place.invariant in
    let within : place < length tokens.tokens = omega (arith, c.loop-place-test.true, c.len-place-end.ensures) in
    record {
      wide_len = ap length c.set.ensures ∙ length-set c.loop-place.wide place c.is_wide.result ∙ before.wide_len;
      overs_len = ap length c.set-in-loop-place.ensures ∙ length-set c.loop-place.skippable place c.may_pass_over.result ∙ before.overs_len;
      wide = λ i low. ap (λ row. holds row i) c.set.ensures
          ∙ one-more c.loop-place.wide place c.is_wide.result (λ j. is_wide_at (drop j tokens.tokens)) (omega (arith, within, before.wide_len)) c.is_wide.ensures before.wide i low;
      skippable = λ i low. ap (λ row. holds row i) c.set-in-loop-place.ensures
          ∙ one-more c.loop-place.skippable place c.may_pass_over.result (λ j. may_pass_over_at tokens.mode (drop j tokens.tokens)) (omega (arith, within, before.overs_len)) c.may_pass_over.ensures.over before.skippable i low;
    }
