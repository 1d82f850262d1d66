use Rattle.std.proofs.Common.{◌≡◌, ◌∙◌, ℕ, ◌<◌, ◌+◌, ◌-◌, ◌*◌, List, length, get_or, take, arith}
use Rattle.std.specs.Prelude.{min}
use Rattle.std.proofs.lemmas.List.Sums.{fold_more}
use Rattle.pathspec_parts.specs.Truth.{decimal_value}
use Rattle.pathspec_parts.proofs.truth.decimal_value.Goals as goal

-- a step that is held at m goes on from a value that is held there
held_step : (v d m : ℕ) → min (min (min v m * 10) m + d) m ≡ min (v * 10 + d) m
held_step v d m = omega arith

-- one more digit
value_more : (digits : List ℕ) (i m v a b r : ℕ) → i < length digits → v ≡ min (decimal_value (take i digits)) m → a ≡ min (v * 10) m → b ≡ get_or digits i 0 - 48 → r ≡ min (a + b) m
    → r ≡ min (decimal_value (take (i + 1) digits)) m
value_more digits i m v a b r h ve ae be re =
    let more = fold_more (λ n d. n * 10 + (d - 48)) 0 digits i 0 h in
    let step = held_step (decimal_value (take i digits)) (get_or digits i 0 - 48) m in
    cc

pub loop-digit-preserved : goal.loop-digit-preserved
loop-digit-preserved c =
    value_more c.args.digits.now c.loop-digit.digit-index _ c.loop-digit.value c.saturating_mul.result c.from.result _ (omega arith) c.loop-digit.invariant c.saturating_mul.ensures (c.from.ensures ∙ c.saturating_sub.ensures) c.saturating_add-value.ensures
