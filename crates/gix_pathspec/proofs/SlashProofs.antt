-- Where the last slash of a text stands.
use Rattle.std.proofs.Common.{◌≡◌, ℕ, ◌+◌, ◌-◌, ◌<◌, true, false, not, ap, List, length, take, get_or, arith}
use Rattle.std.proofs.lemmas.Bool.{false_from_ne_true}
use Rattle.std.proofs.lemmas.List.Elements.{All-from_get_or}
use Rattle.std.proofs.lemmas.List.Folds.{list_any_at, list_any_none}
use Rattle.std.proofs.lemmas.List.Sums.{suffix_len_is}
use Rattle.std.specs.List.{list_any, before_last, suffix_len}
use Rattle.bstr.specs.Find.{IsLastByte, is_byte}
use Rattle.pathspec_parts.specs.Bytes.{slash}
use Rattle.pathspec_parts.specs.Paths.{is_slash}
use Rattle.std.specs.Prelude.{Some, None}

-- a text with a last slash
pub last-slash : (text : List ℕ) (i : ℕ) → IsLastByte (is_byte slash) text (Some i) → (list_any is_slash text ≡ true) × (take i text ≡ before_last is_slash text)
last-slash text i h =
    let within : i < length text = h.0.high in
    let here : is_slash (get_or text i 0) ≡ true = h.1 in
    let back : (i + 1) - 1 ≡ i = omega arith in
    let size : suffix_len (λ b. not (is_slash b)) text ≡ length text - (i + 1) =
    suffix_len_is (λ b. not (is_slash b)) text (i + 1) 0 (omega arith) (λ k low high. ap not (false_from_ne_true _ (h.0.after k low high))) (λ some. let at_last : is_slash (get_or text ((i + 1) - 1) 0) ≡ true = rw back here in ap not at_last) in
    let at : i ≡ length text - suffix_len (λ b. not (is_slash b)) text - 1 = omega (arith, size) in
    (list_any_at is_slash text i 0 within here, ap (λ n. take n text) at)

-- a text with none
pub no-slash : (text : List ℕ) → IsLastByte (is_byte slash) text None → list_any is_slash text ≡ false
no-slash text h = list_any_none is_slash text (All-from_get_or (λ b. is_slash b ≡ false) text 0 (λ k low. false_from_ne_true _ (h k (omega arith) low)))
