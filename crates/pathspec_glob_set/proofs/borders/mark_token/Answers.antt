use Rattle.std.proofs.Common.{◌≡◌, ◌+◌, ◌<◌, ℕ, suc, Bool, ◌∙◌, sym, subst, ap, arith, length, get_or, false}
use Rattle.pathspec_glob.specs.GlobSteps.{token_takes}
use Rattle.pathspec_glob_set.specs.Questions.{LeavesUnmarked}
use Rattle.pathspec_glob_set.proofs.BorderProofs.{differ, more-marks, none-marked, one-marked, same-truth, still-unmarked, AreMarked}
use Rattle.pathspec_glob_set.proofs.borders.mark_token.Goals.{then-takes-before, else-takes-before}
use Rattle.pathspec_glob_set.proofs.borders.mark_token.Goals as goal

pub loop-byte-preserved : goal.loop-byte-preserved
loop-byte-preserved c =
    let takes : ℕ → Bool = token_takes c.args.glob.now.tokens c.args.glob.now.case c.args.place in
    let was = c.loop-byte.invariant in
    let old = c.loop-byte.borders in
    let byte = c.loop-byte.byte in
    let next : (b : ℕ) → suc b ≡ byte + 1 → c.takes-takes.result ≡ takes b = λ b e. c.takes-takes.ensures ∙ ap takes (let same : byte ≡ b = omega (arith, e) in same) in
    let next-is : (b : ℕ) → suc b ≡ byte → c.takes-takes.result ≡ takes (suc b) = λ b e. c.takes-takes.ensures ∙ ap takes (sym e) in
    elim c.if-takes-before.branch [
      | then-takes-before w ↦
          let long : byte < length old = omega (arith, was.all, c.loop-byte-test.true) in
          record {
            before = next;
            marked = subst (λ k. AreMarked takes k (byte + 1)) (sym w.borders-is) (one-marked takes old byte long was.marked);
            only = more-marks takes c.args.borders.now old c.if-takes-before.borders byte w.borders-is (λ b e alike. differ c.takes-takes.result c.loop-byte.before w.if-takes-before.true (next-is b e ∙ alike ∙ sym (was.before b e))) was.only;
            kept = λ b none. was.kept b (still-unmarked old byte b long (ap (λ k. get_or k b false) (sym w.borders-is) ∙ none));
            all = c.if-takes-before.array_long;
          }
      | else-takes-before w ↦
          let same = same-truth c.takes-takes.result c.loop-byte.before w.if-takes-before.false in
          record {
            before = next;
            marked = subst (λ k. AreMarked takes k (byte + 1)) (sym w.borders-is)
                (none-marked takes old byte (λ b e. ap takes e ∙ sym c.takes-takes.ensures ∙ same ∙ was.before b e) was.marked);
            only = subst (λ k. LeavesUnmarked takes c.args.borders.now k) (sym w.borders-is) was.only;
            kept = λ b none. was.kept b (ap (λ k. get_or k b false) (sym w.borders-is) ∙ none);
            all = c.if-takes-before.array_long;
          }
    ]

pub returns-clause-marked : goal.returns-clause-marked
returns-clause-marked c b less none = c.loop-byte.invariant.marked b (omega (arith, less, c.loop-byte-test.false)) none
