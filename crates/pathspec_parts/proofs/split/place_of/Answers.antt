-- The first place that is found is the position.
use Rattle.std.proofs.Common.{◌≡◌, ◌<◌, ℕ, List, length, Option, Some, None, arith, ◌==◌}
use Rattle.std.proofs.lemmas.Bool.{false_from_ne_true}
use Rattle.std.proofs.lemmas.Grind.{common_steps}
use Rattle.std.proofs.lemmas.List.Sums.{position_or_len_is}
use Rattle.std.specs.List.{position, position_or_len}
use Rattle.bstr.specs.Find.{IsFirstByte, is_byte}
use Rattle.pathspec_parts.proofs.split.place_of.Goals as goal

first_is_position : (byte : ℕ) (bytes : List ℕ) (r : Option ℕ) → IsFirstByte (is_byte byte) bytes r → r ≡ position (λ b. b == byte) bytes
first_is_position byte bytes None h =
    let at : position_or_len (λ b. b == byte) bytes ≡ length bytes = position_or_len_is (λ b. b == byte) bytes (length bytes) 0 (omega arith) (λ k below. false_from_ne_true _ (h k (omega arith) below)) (λ below. absurd (omega arith)) in
    grind (arith, common_steps, at)
first_is_position byte bytes (Some i) h =
    let high : i < length bytes = h.0.high in
    let at : position_or_len (λ b. b == byte) bytes ≡ i = position_or_len_is (λ b. b == byte) bytes i 0 (omega arith) (λ k below. false_from_ne_true _ (h.0.before k (omega arith) below)) (λ below. h.1) in
    grind (arith, common_steps, at, high)

pub returns : goal.returns
returns c = first_is_position _ _ _ c.find_byte.ensures
