-- Where a record ends in a listing.
use Rattle.std.proofs.Common.{◌≡◌, ◌≢◌, ℕ, ◌+◌, ◌≤◌, Bool, true, false, not, ◌⊎◌, inl, inr, refl, sym, ◌∙◌, ap, List, [], ◌∷◌, cond, ◌==◌, length, get_or, take, drop, arith, Some}
use Rattle.std.proofs.lemmas.Bool.{cases_Bool, cases_lt, ltb-true, ne_eqb, eq-eqb}
use Rattle.std.proofs.lemmas.List.{length-drop, length-take-le}
use Rattle.std.proofs.lemmas.List.Sums.{fails_before_first, passes_at_first, prefix_len-le-length}
use Rattle.std.proofs.lemmas.Option.{slice_get_within, get_or_from_slice_get, slice_get-get_or}
use Rattle.std.proofs.Math.Numerals.{one-add, add-one}
use Rattle.std.specs.Prelude.{slice_get, nat_lt}
use Rattle.std.specs.List.{slice_split, onto_first, before_first, after_first, position_or_len}
use Rattle.pathspec_parts.specs.Bytes.{is_empty}
use Rattle.pathspec_parts.specs.Records.{records, without_empty_end}
use Rattle.pathspec_select.specs.Outlines.{part, record_from, LiesInRecord}

-- ---- where a record ends

-- what a look-up tells of an element
pub got : {X : Type 0} (xs ys : List X) (n : ℕ) (x d : X) → ys ≡ xs → true ≡ nat_lt n (length ys) → x ≡ get_or ys n d → slice_get xs n ≡ Some x
got xs ys n x d e l v =
    let inside = ltb-true n (length ys) (sym l) in
    ap (λ zs. slice_get zs n) (sym e) ∙ (slice_get-get_or ys n d inside ∙ ap Some (sym v))

module _ (p : ℕ → Bool) where
  pub length-before_first : (xs : List ℕ) → length (before_first p xs) ≡ position_or_len p xs
  length-before_first xs = length-take-le (position_or_len p xs) xs (prefix_len-le-length (λ x. not (p x)) xs)

  -- the byte behind so many bytes of the first record tells whether it ends there
  pub ends-at : (xs : List ℕ) (n b : ℕ) → slice_get xs n ≡ Some b → n ≤ length (before_first p xs) → p b ≡ (length (before_first p xs) == n)
  ends-at xs n b s le =
      let long = length-before_first xs in
      let inside = slice_get_within xs n b s in
      let here : get_or xs n 0 ≡ b = get_or_from_slice_get xs n b 0 s in
      elim (cases_lt n (position_or_len p xs)) [
        | inl l ↦ sym (ap p here) ∙ (fails_before_first p xs n 0 l ∙ sym (ne_eqb (length (before_first p xs)) n (λ e. omega (arith, e, long, l))))
        | inr g ↦
            let same : position_or_len p xs ≡ n = omega (arith, g, le, long) in
            let passes : p (get_or xs (position_or_len p xs) 0) ≡ true = passes_at_first p xs 0 (omega (arith, same, inside)) in
            sym (ap p here) ∙ (ap (λ k. p (get_or xs k 0)) (sym same) ∙ (passes ∙ sym (eq-eqb (length (before_first p xs)) n (omega (arith, long, same)))))
      ]

-- a path of a record lies in the listing
pub part-fits : (separator : ℕ) (bytes : List ℕ) (start count : ℕ) (is_dir : Bool) → LiesInRecord separator bytes start count is_dir → part bytes start count ≢ [] → start + count ≤ length bytes
part-fits separator bytes start count is_dir lies some =
    let long = length-before_first (λ b. b == separator) (drop start bytes) in
    let less = prefix_len-le-length (λ x. not (x == separator)) (drop start bytes) in
    let d = length-drop start bytes in
    let within = by_kind is_dir lies in
    elim (cases_lt (length bytes) start) [
      | inl l ↦
          let none : count ≡ 0 = omega (arith, l, long, less, d, within) in
          absurd (some (ap (λ k. take k (drop start bytes)) none))
      | inr g ↦ omega (arith, g, long, less, d, within)
    ]
  where
    by_kind : (b : Bool) → LiesInRecord separator bytes start count b → count ≤ length (record_from separator bytes start)
    by_kind true h = omega (arith, h)
    by_kind false h = omega (arith, h)
