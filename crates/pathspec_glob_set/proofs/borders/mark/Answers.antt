use Rattle.std.proofs.Common.{◌≡◌, ℕ, suc, sym, subst, arith, inl, inr}
use Rattle.std.proofs.lemmas.Bool.{cases_eq}
use Rattle.pathspec_glob.specs.GlobSteps.{token_takes}
use Rattle.pathspec_glob_set.proofs.borders.mark.Goals as goal

pub loop-place-preserved : goal.loop-place-preserved
loop-place-preserved c =
    let was = c.loop-place.invariant in
    let glob = c.args.glob.now in
    let place = c.loop-place.place in
    let said = c.mark_token.ensures in
    record {
      marked = λ b i less none low. elim (cases_eq i place) [
        | inl e ↦ subst (λ k. token_takes glob.tokens glob.case k (suc b) ≡ token_takes glob.tokens glob.case k b) (sym e) (said.marked b less none)
        | inr n ↦ was.marked b i less (said.kept (suc b) none) (omega (arith, low, n))
      ];
      only = λ b alike none. said.only b (alike (suc place) (omega (arith, c.loop-place-test.true, c.len-place-end.ensures))) (was.only b alike none);
      kept = λ b none. was.kept b (said.kept b none);
    }
