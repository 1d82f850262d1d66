-- Bytes that are read behind others.
use Rattle.std.proofs.Common.{◌≡◌, ℕ, ◌+◌, ◌-◌, ◌≤◌, sym, ◌∙◌, ap, List, ◌++◌, length, take, drop, arith}
use Rattle.std.proofs.lemmas.List.{take_at, drop_at, drop-take, length-drop, length-take-le, take-append-le}
use Rattle.std.proofs.lemmas.List.Edits.{take-paste}
use Rattle.std.proofs.Math.Seq.{take-add, paste}

pub read_front : (xs buf behind : List ℕ) (filled : ℕ) → filled ≤ length xs → take filled (take filled xs ++ (buf ++ behind)) ≡ take filled xs
read_front xs buf behind filled inside = take_at (take filled xs) (buf ++ behind) filled (length-take-le filled xs inside)

pub read_more : (xs buf behind : List ℕ) (filled count : ℕ) → filled ≤ length xs → count ≤ length buf → take (filled + count) (take filled xs ++ (buf ++ behind)) ≡ take filled xs ++ take count buf
read_more xs buf behind filled count inside given =
    let at = length-take-le filled xs inside in
    take-add filled count (take filled xs ++ (buf ++ behind))
    ∙ (ap (λ t. t ++ take count (drop filled (take filled xs ++ (buf ++ behind)))) (read_front xs buf behind filled inside)
    ∙ ap (λ t. take filled xs ++ t) (ap (take count) (drop_at (take filled xs) (buf ++ behind) filled at) ∙ take-append-le count buf behind given))

pub front_dropped : (xs ys : List ℕ) (filled count : ℕ) → count ≤ filled → filled ≤ length xs → ys ≡ paste xs 0 (drop count xs) (filled - count) → take (filled - count) ys ≡ drop count (take filled xs)
front_dropped xs ys filled count less inside e =
    let n = filled - count in
    let from_zero : 0 + n ≡ n = omega arith in
    let all : filled ≡ count + n = omega (arith, less) in
    ap (take n) e
    ∙ (ap (λ k. take k (paste xs 0 (drop count xs) n)) (sym from_zero)
    ∙ (take-paste xs 0 (drop count xs) n (omega arith) (omega (arith, less, inside, length-drop count xs)) ∙ sym (ap (λ k. drop count (take k xs)) all ∙ drop-take count n xs)))
