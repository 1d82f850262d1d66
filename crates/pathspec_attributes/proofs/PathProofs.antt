-- Where the last name of a path begins.
use Rattle.std.proofs.Common.{◌≡◌, ℕ, ◌+◌, ◌-◌, ◌<◌, true, not, ap, List, length, get_or, arith}
use Rattle.std.proofs.lemmas.Bool.{false_from_ne_true}
use Rattle.std.proofs.lemmas.List.Sums.{suffix_len_is}
use Rattle.std.specs.List.{suffix_len}
use Rattle.std.specs.Prelude.{Some, None}
use Rattle.bstr.specs.Find.{IsLastByte, is_byte}
use Rattle.pathspec_parts.specs.Bytes.{slash}
use Rattle.pathspec_parts.specs.Paths.{is_slash}

-- behind the last slash
pub start-behind : (text : List ℕ) (i : ℕ) → IsLastByte (is_byte slash) text (Some i) → i + 1 ≡ length text - suffix_len (λ b. not (is_slash b)) text
start-behind text i h =
    let within : i < length text = h.0.high in
    let here : is_slash (get_or text i 0) ≡ true = h.1 in
    let back : (i + 1) - 1 ≡ i = omega arith in
    let size : suffix_len (λ b. not (is_slash b)) text ≡ length text - (i + 1) =
    suffix_len_is (λ b. not (is_slash b)) text (i + 1) 0 (omega arith) (λ k low high. ap not (false_from_ne_true _ (h.0.after k low high))) (λ some. let at_last : is_slash (get_or text ((i + 1) - 1) 0) ≡ true = rw back here in ap not at_last) in
    omega (arith, size, within)

-- and without one, in front
pub start-front : (text : List ℕ) → IsLastByte (is_byte slash) text None → 0 ≡ length text - suffix_len (λ b. not (is_slash b)) text
start-front text h =
    let size : suffix_len (λ b. not (is_slash b)) text ≡ length text - 0 =
    suffix_len_is (λ b. not (is_slash b)) text 0 0 (omega arith) (λ k low high. ap not (false_from_ne_true _ (h k low high))) (λ some. absurd (omega (arith, some))) in
    omega (arith, size)
