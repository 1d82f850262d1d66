use Rattle.std.proofs.Common.{◌≡◌, ◌-◌, ◌∙◌, true, false, sym, arith, drop}
use Rattle.pathspec_glob.specs.GlobSteps.{is_wide_at}
use Rattle.pathspec_glob.specs.GlobCells.{has}
use Rattle.pathspec_glob.proofs.WordProofs.{set-more}
use Rattle.pathspec_glob.proofs.tokens.word.states_of.Goals as goal

pub loop-place-preserved-then-is_wide : goal.loop-place-preserved-then-is_wide
loop-place-preserved-then-is_wide c =
    let tokens = c.args.tokens.now in
    let wide : is_wide_at (drop (c.loop-place.place - 1) tokens.tokens) ≡ true = sym c.is_wide.ensures ∙ c.if-is_wide.true in
    record {
      word = λ i h. c.with_first-word.ensures i ∙ (rw (sym c.holds-yes.ensures, wide) at (set-more tokens.mode c.args.question tokens.tokens c.loop-place.place (has c.loop-place.word) (omega (arith, c.loop-place-test.true)) c.loop-place.invariant.within c.loop-place.invariant.word i h));
      within = omega (arith, c.loop-place.invariant.within);
    }

pub loop-place-preserved : goal.loop-place-preserved
loop-place-preserved c =
    let tokens = c.args.tokens.now in
    let single : is_wide_at (drop (c.loop-place.place - 1) tokens.tokens) ≡ false = sym c.is_wide.ensures ∙ c.if-is_wide.false in
    record {
      word = λ i h. c.further-word.ensures i h ∙ (rw (sym c.holds-yes.ensures, single) at (set-more tokens.mode c.args.question tokens.tokens c.loop-place.place (has c.loop-place.word) (omega (arith, c.loop-place-test.true)) c.loop-place.invariant.within c.loop-place.invariant.word i h));
      within = omega (arith, c.loop-place.invariant.within);
    }
