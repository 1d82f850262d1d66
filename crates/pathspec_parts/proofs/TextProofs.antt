-- The text of records, which of them are bad, and what is written for them.
use Rattle.std.proofs.Common.{◌≡◌, ◌≢◌, ℕ, suc, ◌+◌, ◌<◌, ◌≤◌, Bool, true, false, cond, inl, inr, refl, sym, ◌∙◌, ap, subst, List, [], ◌∷◌, ◌++◌, ◌==◌, length, filter, flat_map, arith, append_assoc, Option, Some, None}
use Rattle.std.proofs.lemmas.Bool.{cases_Bool, eq-eqb}
use Rattle.std.proofs.lemmas.Grind.{flat_map-append}
use Rattle.std.proofs.lemmas.List.{append-nil, length-append}
use Rattle.std.proofs.lemmas.List.Elements.{All-head, All-tail, filter-append}
use Rattle.std.proofs.lemmas.List.Splits.{slice_split_at, slice_split_none, slice_split-cons_yes, length-slice_split}
use Rattle.std.proofs.Math.Numerals.{one-add, add-one}
use Rattle.std.specs.Prelude.{All}
use Rattle.std.specs.List.{slice_split, onto_first, before_first, position_from}
use Rattle.pathspec_parts.specs.Records.{records, without_empty_end, record_path, record_is_dir, is_bad, first_bad}
use Rattle.pathspec_parts.specs.RecordParts.{IsFreeOf}
use Rattle.pathspec_parts.specs.Outputs.{records_where, text_of, output_where, good_records, RecordsInParts, OutputInParts}
use Rattle.pathspec_parts.proofs.RecordProofs.{others, split-first}

-- ---- parts of a text

onto_first-append : (x : ℕ) (parts more : List (List ℕ)) → 0 < length parts → onto_first x (parts ++ more) ≡ onto_first x parts ++ more
onto_first-append x [] more l = absurd (omega (arith, l))
onto_first-append x (part ∷ parts) more l = refl

-- the parts around an element that passes
pub slice_split-seam : (p : ℕ → Bool) (xs : List ℕ) (y : ℕ) (ys : List ℕ) → p y ≡ true → slice_split p (xs ++ y ∷ ys) ≡ slice_split p xs ++ slice_split p ys
slice_split-seam p [] y ys h = slice_split-cons_yes p y ys h
slice_split-seam p (x ∷ xs) y ys h =
    let more = slice_split-seam p xs y ys h in
    elim (cases_Bool (p x)) [
      | inl t ↦ rw t (ap (λ parts. [] ∷ parts) more)
      | inr f ↦ rw f (ap (onto_first x) more ∙ onto_first-append x (slice_split p xs) (slice_split p ys) (omega (arith, length-slice_split p xs)))
    ]

pub without_empty_end-append : (parts : List (List ℕ)) (x : List ℕ) (more : List (List ℕ)) → without_empty_end (parts ++ x ∷ more) ≡ parts ++ without_empty_end (x ∷ more)
without_empty_end-append [] x more = refl
without_empty_end-append (y ∷ []) x more = refl
without_empty_end-append (y ∷ z ∷ parts) x more = ap (λ t. y ∷ t) (without_empty_end-append (z ∷ parts) x more)

-- ---- the records of a text

more_after : (first second : List ℕ) (parts more : List (List ℕ)) → parts ≡ second ∷ more → without_empty_end (first ∷ parts) ≡ first ∷ without_empty_end parts
more_after first second parts more e = rw e refl

module _ (separator : ℕ) where
  abbrev ends : ℕ → Bool
  ends b = b == separator

  -- a record with its separator, and more
  pub records-cons : (r more : List ℕ) → IsFreeOf separator r → records separator (r ++ separator ∷ more) ≡ r ∷ records separator more
  records-cons r more free =
      ap without_empty_end (slice_split_at ends r separator more free (eq-eqb separator separator refl))
      ∙ more_after r (before_first ends more) (slice_split ends more) (others ends more) (split-first ends more)

  -- a record that lacks its separator
  pub records-one : (r : List ℕ) → IsFreeOf separator r → r ≢ [] → records separator r ≡ r ∷ []
  records-one [] free some = absurd (some refl)
  records-one (b ∷ bs) free some = ap without_empty_end (slice_split_none ends (b ∷ bs) free)

  -- to end it changes nothing
  pub records-ended : (r : List ℕ) → IsFreeOf separator r → r ≢ [] → records separator (r ++ separator ∷ []) ≡ records separator r
  records-ended r free some = records-cons r [] free ∙ sym (records-one r free some)

  -- the text of records, and more
  pub records-text_of : (rs : List (List ℕ)) (more : List ℕ) → All (IsFreeOf separator) rs → records separator (text_of separator rs ++ more) ≡ rs ++ records separator more
  records-text_of [] more free = refl
  records-text_of (r ∷ rs) more free =
      ap (records separator) (ap (λ t. t ++ more) (append_assoc r (separator ∷ []) (text_of separator rs)) ∙ append_assoc r (separator ∷ text_of separator rs) more)
      ∙ (records-cons r (text_of separator rs ++ more) (All-head (IsFreeOf separator) r rs free) ∙ ap (λ t. r ∷ t) (records-text_of rs more (All-tail (IsFreeOf separator) r rs free)))

  records-seam : (front behind : List ℕ) → records separator (front ++ separator ∷ behind) ≡ slice_split ends front ++ records separator behind
  records-seam front behind =
      let later = split-first ends behind in
      ap without_empty_end (slice_split-seam ends front separator behind (eq-eqb separator separator refl) ∙ ap (λ t. slice_split ends front ++ t) later)
      ∙ (without_empty_end-append (slice_split ends front) (before_first ends behind) (others ends behind) ∙ ap (λ t. slice_split ends front ++ without_empty_end t) (sym later))

  -- a text that is cut behind a separator has the records of both parts
  pub records_in_parts : RecordsInParts separator
  records_in_parts front behind = records-seam front behind ∙ ap (λ t. t ++ records separator behind) (sym (records-seam front [] ∙ append-nil (slice_split ends front)))

  pub text_of-append : (rs qs : List (List ℕ)) → text_of separator (rs ++ qs) ≡ text_of separator rs ++ text_of separator qs
  text_of-append rs qs = flat_map-append (λ r. r ++ separator ∷ []) rs qs

  pub text_of-one : (r : List ℕ) → text_of separator (r ∷ []) ≡ r ++ separator ∷ []
  text_of-one r = append-nil (r ++ separator ∷ [])

  -- there are no more records than bytes
  pub text_of-longer : (rs : List (List ℕ)) → length rs ≤ length (text_of separator rs)
  text_of-longer [] = omega arith
  text_of-longer (r ∷ rs) =
      let more = text_of-longer rs in
      omega (arith, more, length-append (r ++ separator ∷ []) (text_of separator rs), length-append r (separator ∷ []))

  -- ---- what is written

  module _ (takes : List ℕ → Bool → Bool) where
    abbrev passes : List ℕ → Bool
    passes r = takes (record_path r) (record_is_dir r)

    pub records_where-append : (rs qs : List (List ℕ)) → records_where takes (rs ++ qs) ≡ records_where takes rs ++ records_where takes qs
    records_where-append rs qs = filter-append passes rs qs

    pub output_where-append : (rs qs : List (List ℕ)) → output_where takes separator (rs ++ qs) ≡ output_where takes separator rs ++ output_where takes separator qs
    output_where-append rs qs = ap (text_of separator) (records_where-append rs qs) ∙ text_of-append (records_where takes rs) (records_where takes qs)

    pub output_in_parts : OutputInParts takes separator
    output_in_parts front behind =
        ap (output_where takes separator) (records_in_parts front behind) ∙ output_where-append (records separator (front ++ separator ∷ [])) (records separator behind)

    pub output_where-yes : (r : List ℕ) → takes (record_path r) (record_is_dir r) ≡ true → output_where takes separator (r ∷ []) ≡ r ++ separator ∷ []
    output_where-yes r y = rw y (text_of-one r)

    pub output_where-no : (r : List ℕ) → takes (record_path r) (record_is_dir r) ≡ false → output_where takes separator (r ∷ []) ≡ []
    output_where-no r n = rw n refl

-- no more pass than there are
pub records_where-shorter : (takes : List ℕ → Bool → Bool) (rs : List (List ℕ)) → length (records_where takes rs) ≤ length rs
records_where-shorter takes [] = omega arith
records_where-shorter takes (r ∷ rs) =
    let more = records_where-shorter takes rs in
    elim (cases_Bool (takes (record_path r) (record_is_dir r))) [
      | inl y ↦ rw y (omega (arith, more))
      | inr n ↦ rw n (omega (arith, more))
    ]

-- ---- bad records

pub good_records-append : (rs qs : List (List ℕ)) → All (λ r. is_bad r ≡ false) rs → good_records (rs ++ qs) ≡ rs ++ good_records qs
good_records-append [] qs good = refl
good_records-append (r ∷ rs) qs good =
    let here = All-head (λ r. is_bad r ≡ false) r rs good in
    let more = good_records-append rs qs (All-tail (λ r. is_bad r ≡ false) r rs good) in
    rw (here, one-add) (ap (λ t. r ∷ t) more)

pub good_records-bad : (r : List ℕ) (rs : List (List ℕ)) → is_bad r ≡ true → good_records (r ∷ rs) ≡ []
good_records-bad r rs bad = rw bad refl

pub position_from-good : (n : ℕ) (rs qs : List (List ℕ)) → All (λ r. is_bad r ≡ false) rs → position_from is_bad n (rs ++ qs) ≡ position_from is_bad (n + length rs) qs
position_from-good n [] qs good = let e : n ≡ n + 0 = omega arith in ap (λ k. position_from is_bad k qs) e
position_from-good n (r ∷ rs) qs good =
    let here = All-head (λ r. is_bad r ≡ false) r rs good in
    let e : (n + 1) + length rs ≡ n + suc (length rs) = omega arith in
    rw here (position_from-good (n + 1) rs qs (All-tail (λ r. is_bad r ≡ false) r rs good) ∙ ap (λ k. position_from is_bad k qs) e)

pub position_from-bad : (n : ℕ) (r : List ℕ) (rs : List (List ℕ)) → is_bad r ≡ true → position_from is_bad n (r ∷ rs) ≡ Some n
position_from-bad n r rs bad = rw bad refl
