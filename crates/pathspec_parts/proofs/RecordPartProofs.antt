-- Records that are files right in the open directory.
use Rattle.std.proofs.Common.{◌≡◌, ◌≢◌, ℕ, ◌+◌, ◌-◌, ◌<◌, Bool, true, false, ◌||◌, ◌==◌, not, refl, sym, ◌∙◌, ap, inl, inr, List, ◌∷◌, ◌++◌, length, get_or, take, drop, arith, Some, None}
use Rattle.std.proofs.lemmas.Bool.{cases_lt, both_ways, eq-eqb}
use Rattle.std.proofs.lemmas.List.{length-append, length-take-le, take-append-drop, get_or_append_left, get_or-append_right, get_or-take}
use Rattle.std.proofs.lemmas.List.Elements.{All-get_or, All-from_get_or}
use Rattle.std.proofs.lemmas.List.Sums.{fails_before_first, passes_at_first, position_or_len_is, prefix_len-le-length}
use Rattle.std.proofs.lemmas.Option.{same_Some}
use Rattle.std.proofs.lemmas.Slice.Eq.{bytes_eq-Decides}
use Rattle.std.proofs.Math.Seq.{take-add}
use Rattle.std.specs.Prelude.{bytes_eq}
use Rattle.std.specs.List.{position_or_len, before_first}
use Rattle.memchr.specs.Find.{IsFirstByte, is_byte2, places, first_of}
use Rattle.memchr.proofs.lemmas.ValueLemmas.{IsFirstByte-value}
use Rattle.pathspec_glob.specs.Bytes.{slash}
use Rattle.pathspec_parts.specs.RecordParts.{IsFreeOf, BeginsWithFile}

-- ---- the first of two bytes

module _ (test : ℕ → Bool) (hay : List ℕ) where
  abbrev at : ℕ
  at = position_or_len test hay

  -- the first of the places that a search gives
  pub first_place : (k : ℕ) (more : List ℕ) → places test hay ≡ k ∷ more → (at ≡ k) × (k < length hay)
  unfolding first_of
  first_place k more e =
      let within = prefix_len-le-length (λ x. not (test x)) hay in
      elim (cases_lt at (length hay)) [
        | inl l ↦
            let answer : IsFirstByte test hay (Some at) = (record { low = omega arith; high = l; before = λ j a b p. both_ways (test (get_or hay j 0)) (fails_before_first test hay j 0 b) p }, passes_at_first test hay 0 l) in
            let is : at ≡ k = same_Some at k (IsFirstByte-value test hay (Some at) answer ∙ ap first_of e) in
            (is, omega (arith, is, l))
        | inr g ↦
            let answer : IsFirstByte test hay None = λ j a b p. both_ways (test (get_or hay j 0)) (fails_before_first test hay j 0 (omega (arith, b, g))) p in
            let none : None ≡ Some k = IsFirstByte-value test hay None answer ∙ ap first_of e in
            cc
      ]

neither : (a b : Bool) → (a || b) ≡ false → (a ≡ false) × (b ≡ false)
neither false false h = (refl, refl)
neither false true h = cc
neither true b h = cc

-- what stands before the separator has none
pub free_before : (separator : ℕ) (rest : List ℕ) → IsFreeOf separator (before_first (λ b. b == separator) rest)
free_before separator rest =
    let p : ℕ → Bool = λ b. b == separator in
    let k = position_or_len p rest in
    let long = length-take-le k rest (prefix_len-le-length (λ x. not (p x)) rest) in
    All-from_get_or (λ b. (b == separator) ≡ false) (before_first p rest) 0 (λ j low.
    let less : j < k = omega (arith, low, long) in ap p (get_or-take k rest j 0 less) ∙ fails_before_first p rest j 0 less)

-- ---- how long such a record is

module _ (separator : ℕ) (directory rest behind : List ℕ) (same : bytes_eq (take (length directory) rest) directory ≡ true) (is : behind ≡ drop (length directory) rest) (free : IsFreeOf separator directory)
    (k : ℕ) (more : List ℕ) (found : places (is_byte2 slash separator) behind ≡ k ∷ more) (some : k ≢ 0) (here : get_or behind k 0 ≡ separator) where
  abbrev n : ℕ
  n = length directory

  abbrev p : ℕ → Bool
  p = λ b. b == separator

  front : take n rest ≡ directory
  front = (bytes_eq-Decides (take n rest) directory).0 same

  parts : rest ≡ directory ++ behind
  parts = sym (take-append-drop n rest) ∙ (ap (λ x. x ++ drop n rest) front ∙ ap (λ x. directory ++ x) (sym is))

  long : length rest ≡ n + length behind
  long = ap length parts ∙ length-append directory behind

  first : (position_or_len (is_byte2 slash separator) behind ≡ k) × (k < length behind)
  first = first_place (is_byte2 slash separator) behind k more found

  -- before the place there is neither a slash nor the separator
  before : (j : ℕ) → j < k → ((get_or behind j 0 == slash) ≡ false) × ((get_or behind j 0 == separator) ≡ false)
  before j l = neither (get_or behind j 0 == slash) (get_or behind j 0 == separator) (fails_before_first (is_byte2 slash separator) behind j 0 (omega (arith, l, first.0)))

  place : position_or_len p rest ≡ n + k
  place =
      let inside = first.1 in
      position_or_len_is p rest (n + k) 0 (omega (arith, long, inside))
      (λ j low. elim (cases_lt j n) [
        | inl l ↦ ap (λ xs. p (get_or xs j 0)) parts ∙ (ap p (get_or_append_left directory behind 0 j l) ∙ All-get_or (λ b. (b == separator) ≡ false) directory j 0 l free)
        | inr g ↦ ap (λ xs. p (get_or xs j 0)) parts ∙ (ap p (get_or-append_right directory behind n j 0 refl g) ∙ (before (j - n) (omega (arith, low, g))).1)
      ])
      (λ _.
      let there : (n + k) - n ≡ k = omega arith in
      ap (λ xs. p (get_or xs (n + k) 0)) parts ∙ (ap p (get_or-append_right directory behind n (n + k) 0 refl (omega arith) ∙ ap (λ i. get_or behind i 0) there) ∙ eq-eqb (get_or behind k 0) separator here))

  pub begins_with_file : BeginsWithFile separator directory rest (n + k)
  begins_with_file =
      let inside = first.1 in
      let short = length-take-le k behind (omega (arith, inside)) in
      record {
        fits = omega (arith, long, inside);
        record_is = ap (λ i. take i rest) (sym place);
        behind_is = ap (λ i. drop (i + 1) rest) (sym place);
        name = take k behind;
        whole = take-add n k rest ∙ (ap (λ x. x ++ take k (drop n rest)) front ∙ ap (λ x. directory ++ take k x) (sym is));
        some = λ e. some (sym short ∙ ap length e);
        no_slash = All-from_get_or (λ b. (b == slash) ≡ false) (take k behind) 0 (λ j low.
            let less : j < k = omega (arith, low, short) in ap (λ b. b == slash) (get_or-take k behind j 0 less) ∙ (before j less).0);
      }
