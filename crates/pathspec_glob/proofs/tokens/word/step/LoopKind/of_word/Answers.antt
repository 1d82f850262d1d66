use Rattle.std.proofs.Common.{◌≡◌, ℕ, ◌<◌, ◌||◌, false, sym, ◌∙◌}
use Rattle.std.proofs.lemmas.Bool.{or_parts}
use Rattle.pathspec_glob.specs.GlobCells.{has}
use Rattle.pathspec_glob.proofs.BitProofs.{has-or}
use Rattle.pathspec_glob.proofs.tokens.word.step.LoopKind.of_word.Goals as goal

pub returns-then-none_between : goal.returns-then-none_between
returns-then-none_between c =
    let self_loops = c.args.self_loops in
    let slash_loops = c.args.slash_loops in
    let between : (i : ℕ) → 0 < i → i < c.args.last → (has self_loops i || has slash_loops i) ≡ false =
    λ i some below. sym (has-or self_loops slash_loops i) ∙ c.none_between.ensures c.if-none_between.true i some below in
    record {
      first = c.is_plain.ensures.first c.if-not-is_plain.false;
      first_at_slash = c.is_plain.ensures.first_at_slash c.if-not-is_plain.false;
      between = λ i some below. (or_parts (has self_loops i) (has slash_loops i) (between i some below)).0;
      between_at_slash = λ i some below. (or_parts (has self_loops i) (has slash_loops i) (between i some below)).1;
      at_last = c.holds.ensures;
      at_last_at_slash = c.holds-then-none_between.ensures;
      passed = c.is_plain.ensures.passed c.if-not-is_plain.false;
    }
