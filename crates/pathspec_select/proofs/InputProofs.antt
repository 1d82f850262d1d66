-- An input cut at the first line `--`.
use Rattle.std.proofs.Common.{◌≡◌, ◌≢◌, ◌⊎◌, ℕ, zero, suc, ◌+◌, ◌-◌, ◌<◌, ◌≤◌, Bool, true, false, refl, sym, ◌∙◌, ap, subst, inl, inr, List, [], ◌∷◌, ◌++◌, Result, Ok, Err, length, take, drop, slice_index, append_assoc, arith, length-append, length-take-le, one-add, add-one, ◌==◌}
use Rattle.std.specs.Prelude.{OnOk}
use Rattle.std.specs.List.{list_any, before_first, after_first, concat}
use Rattle.std.proofs.lemmas.Bool.{cases_Bool, eqb-true, cond-true, cond-false}
use Rattle.std.proofs.lemmas.List.{append-nil, drop_all, nil_from_length}
use Rattle.std.proofs.lemmas.List.Folds.{concat-append}
use Rattle.std.proofs.lemmas.Bool.Decides.{not_from_Decides, Decides-eqb}
use Rattle.std.proofs.Math.Seq.{take-append_seam}
use Rattle.bstr.specs.Text.{line_len, lines_of}
use Rattle.bstr.proofs.lemmas.LineLemmas.{EndsLine, line_len-bounds, lines-nil, lines-step, lines-append, lines-one}
use Rattle.bstr.proofs.lemmas.RestLemmas.{concat-lines_of}
use Rattle.pathspec_select.specs.Input.{is_end_line, has_end_line, spec_text, listing_text, InputIsInParts}

-- ---- a list cut at the first element that passes

module _ {X : Type 0} (p : X → Bool) where
  pub before-passing : (x : X) (xs : List X) → p x ≡ true → before_first p (x ∷ xs) ≡ []
  before-passing x xs h = rw h refl

  pub after-passing : (x : X) (xs : List X) → p x ≡ true → after_first p (x ∷ xs) ≡ xs
  after-passing x xs h = rw h refl

  pub before-failing : (x : X) (xs : List X) → p x ≡ false → before_first p (x ∷ xs) ≡ x ∷ before_first p xs
  before-failing x xs h = rw (h, one-add) refl

  pub after-failing : (x : X) (xs : List X) → p x ≡ false → after_first p (x ∷ xs) ≡ after_first p xs
  after-failing x xs h = rw (h, one-add) (rw (add-one, add-one) refl)

  -- such a list, in three parts
  pub record IsCutAt (xs : List X) : Type 0 where
    pub first : X
    pub passes : p first ≡ true
    pub whole : xs ≡ before_first p xs ++ first ∷ after_first p xs

  pub cut_at : (xs : List X) → list_any p xs ≡ true → IsCutAt xs
  cut_at [] h = cc
  cut_at (x ∷ xs) h = elim (cases_Bool (p x)) [
    | inl y ↦ record { first = x; passes = y; whole = rw (before-passing x xs y, after-passing x xs y) refl }
    | inr n ↦
        let more = cut_at xs (rw n at h) in
        record { first = more.first; passes = more.passes; whole = rw (before-failing x xs n, after-failing x xs n) (ap (λ t. x ∷ t) more.whole) }
  ]

-- ---- lines

-- a line feed stands at most at the end
abbrev IsOneLine : List ℕ → Type 0
IsOneLine xs = (k : ℕ) → k + 1 < length xs → slice_index xs k ≢ 10

-- so many first bytes of a text are its first line: they are one, and have a line feed at their end or are the whole text
record IsFirst (bs : List ℕ) (n : ℕ) : Type 0 where
  one : IsOneLine (take n bs)
  ends : (slice_index (take n bs) (length (take n bs) - 1) ≡ 10) ⊎ (n ≡ length bs)

first-more : (b c : ℕ) (rest : List ℕ) (n : ℕ) → b ≢ 10 → 0 < n → n ≤ length (c ∷ rest) → IsFirst (c ∷ rest) n → IsFirst (b ∷ c ∷ rest) (suc n)
first-more b c rest n other pos le h = record { one = inner; ends = at_end h.ends }
  where
    held : length (take n (c ∷ rest)) ≡ n
    held = length-take-le n (c ∷ rest) le

    inner : IsOneLine (b ∷ take n (c ∷ rest))
    inner zero l = other
    inner (suc k) l = h.one k (omega arith)

    at_end : (slice_index (take n (c ∷ rest)) (length (take n (c ∷ rest)) - 1) ≡ 10) ⊎ (n ≡ length (c ∷ rest)) → (slice_index (b ∷ take n (c ∷ rest)) (length (b ∷ take n (c ∷ rest)) - 1) ≡ 10) ⊎ (suc n ≡ length (b ∷ c ∷ rest))
    at_end (inl feed) =
        let place : length (b ∷ take n (c ∷ rest)) - 1 ≡ suc (length (take n (c ∷ rest)) - 1) = omega (arith, held) in
        inl (subst (λ j. slice_index (b ∷ take n (c ∷ rest)) j ≡ 10) (sym place) feed)
    at_end (inr whole) = inr (ap suc whole)

first_line : (bs : List ℕ) → 0 < length bs → IsFirst bs (line_len bs)
unfolding line_len
first_line [] l = absurd (omega arith)
first_line (b ∷ []) l = elim (cases_Bool (b == 10)) [
  | inl y ↦ subst (IsFirst (b ∷ [])) (sym (cond-true _ _ _ y)) (record { one = λ k h. absurd (omega arith); ends = inr refl })
  | inr n ↦ subst (IsFirst (b ∷ [])) (sym (cond-false _ _ _ n)) (record { one = λ k h. absurd (omega arith); ends = inr refl })
]
first_line (b ∷ c ∷ rest) l = elim (cases_Bool (b == 10)) [
  | inl y ↦ subst (IsFirst (b ∷ c ∷ rest)) (sym (cond-true _ _ _ y)) (record { one = λ k h. absurd (omega arith); ends = inl (eqb-true b 10 y) })
  | inr n ↦
      let bounds = line_len-bounds (c ∷ rest) (omega arith) in
      subst (IsFirst (b ∷ c ∷ rest)) (sym (cond-false _ _ _ n)) (first-more b c rest (line_len (c ∷ rest)) (not_from_Decides (b == 10) (Decides-eqb b 10) n) bounds.0 bounds.1 (first_line (c ∷ rest) (omega arith)))
]

-- of lines in a row, those of a front are the lines of what they join to
lines-front : (xs ys : List (List ℕ)) (bs : List ℕ) → lines_of bs ≡ xs ++ ys → lines_of (concat xs) ≡ xs
lines-front [] ys bs e = lines-nil
lines-front (x ∷ xs) ys [] e = absurd (let k : [] ≡ x ∷ (xs ++ ys) = sym lines-nil ∙ e in let q : ⊥ = cc in q)
lines-front (x ∷ xs) ys (b ∷ bs) e =
    let all = b ∷ bs in
    let n = line_len all in
    let step : take n all ∷ lines_of (drop n all) ≡ x ∷ (xs ++ ys) = sym (lines-step all (omega arith)) ∙ e in
    let same : take n all ≡ x = cc in
    let others : lines_of (drop n all) ≡ xs ++ ys = cc in
    let first = first_line all (omega arith) in
    let bounds = line_len-bounds all (omega arith) in
    let size = length-take-le n all bounds.1 in
    let inner = lines-front xs ys (drop n all) others in
    let one : lines_of x ≡ x ∷ [] = subst (λ t. lines_of t ≡ t ∷ []) same (lines-one (take n all) (omega (arith, size, bounds.0)) first.one) in
    elim first.ends [
      | inl feed ↦
          let ends : EndsLine x = inr (subst (λ t. slice_index t (length t - 1) ≡ 10) same feed) in
          lines-append (length x) x (concat xs) (omega arith) ends ∙ ap (λ t. t ++ lines_of (concat xs)) one ∙ ap (λ t. x ∷ t) inner
      | inr whole ↦
          let gone : drop n all ≡ [] = drop_all n all (omega (arith, whole)) in
          let none : [] ≡ xs ++ ys = sym lines-nil ∙ ap lines_of (sym gone) ∙ others in
          let nil : xs ≡ [] = nil_from_length xs (let k = ap length none in let m = length-append xs ys in omega (arith, k, m)) in
          rw nil (rw (append-nil x) one)
    ]

-- and so are those of an end
lines-back : (xs ys : List (List ℕ)) (bs : List ℕ) → lines_of bs ≡ xs ++ ys → lines_of (concat ys) ≡ ys
lines-back [] ys bs e = ap lines_of (ap concat (sym e) ∙ concat-lines_of bs) ∙ e
lines-back (x ∷ xs) ys [] e = absurd (let k : [] ≡ x ∷ (xs ++ ys) = sym lines-nil ∙ e in let q : ⊥ = cc in q)
lines-back (x ∷ xs) ys (b ∷ bs) e =
    let all = b ∷ bs in
    let n = line_len all in
    let step : take n all ∷ lines_of (drop n all) ≡ x ∷ (xs ++ ys) = sym (lines-step all (omega arith)) ∙ e in
    let others : lines_of (drop n all) ≡ xs ++ ys = cc in
    lines-back xs ys (drop n all) others

-- Each such input is.
input_is_in_parts : InputIsInParts
input_is_in_parts input h =
    let cut = cut_at is_end_line (lines_of input) h in
    let before = before_first is_end_line (lines_of input) in
    let after = after_first is_end_line (lines_of input) in
    record {
      line = cut.first;
      is_end = cut.passes;
      whole = sym (concat-lines_of input) ∙ ap concat cut.whole ∙ concat-append before (cut.first ∷ after) ∙ sym (append_assoc (concat before) cut.first (concat after));
      before = lines-front before (cut.first ∷ after) input cut.whole;
      after = lines-back (before ++ cut.first ∷ []) after input (cut.whole ∙ sym (append_assoc before (cut.first ∷ []) after));
    }

-- ---- line by line

-- The lines up to a place are none, and the others are left.
pub record IsReadTo (input : List ℕ) (at : ℕ) (lines : List (List ℕ)) : Type 0 where
  pub within : at ≤ length input
  pub bytes : take at input ++ concat lines ≡ input
  pub specs : take at input ++ concat (before_first is_end_line lines) ≡ spec_text input
  pub listing : concat (after_first is_end_line lines) ≡ listing_text input
  pub end_line : list_any is_end_line lines ≡ has_end_line input

-- before the first
pub read-none : (input : List ℕ) → IsReadTo input 0 (lines_of input)
read-none input = record { within = omega arith; bytes = concat-lines_of input; specs = refl; listing = refl; end_line = refl }

read-front : (input : List ℕ) (at : ℕ) (line rest : List ℕ) → at ≤ length input → take at input ++ (line ++ rest) ≡ input → take (at + length line) input ≡ take at input ++ line
read-front input at line rest le whole =
    let size = length-take-le at input le in
    let split : (take at input ++ line) ++ rest ≡ input = append_assoc (take at input) line rest ∙ whole in
    let count : at + length line ≡ length (take at input ++ line) = omega (arith, size, length-append (take at input) line) in
    ap (take (at + length line)) (sym split) ∙ ap (λ n. take n ((take at input ++ line) ++ rest)) count ∙ take-append_seam (take at input ++ line) rest

module _ (input : List ℕ) (at : ℕ) (line : List ℕ) (lines others : List (List ℕ)) (h : IsReadTo input at lines) (next : lines ≡ line ∷ others) where
  -- the next line is no end
  pub read-line : is_end_line line ≡ false → IsReadTo input (at + length line) others
  read-line n =
      let whole : take at input ++ (line ++ concat others) ≡ input = rw next at h.bytes in
      let size = length-take-le at input h.within in
      let long = ap length whole in
      let first = length-append (take at input) (line ++ concat others) in
      let second = length-append line (concat others) in
      let front : take (at + length line) input ≡ take at input ++ line = read-front input at line (concat others) h.within whole in
      record {
        within = omega (arith, size, long, first, second);
        bytes = rw front (append_assoc (take at input) line (concat others) ∙ whole);
        specs = rw front (append_assoc (take at input) line (concat (before_first is_end_line others)) ∙ (rw (next, before-failing is_end_line line others n) at h.specs));
        listing = rw (next, after-failing is_end_line line others n) at h.listing;
        end_line = rw (next, n) at h.end_line;
      }

  -- it is the end
  pub read-end : is_end_line line ≡ true → (take at input ≡ spec_text input) × (concat others ≡ listing_text input) × (has_end_line input ≡ true)
  read-end y = (
    sym (append-nil (take at input)) ∙ (rw (next, before-passing is_end_line line others y) at h.specs),
    rw (next, after-passing is_end_line line others y) at h.listing,
    sym (rw (next, y) at h.end_line),
  )

-- the bytes that lines are of
pub concat-of : (bs : List ℕ) (lines : List (List ℕ)) → lines_of bs ≡ lines → bs ≡ concat lines
concat-of bs lines e = sym (concat-lines_of bs) ∙ ap concat e

-- Whatever a result is.
pub parts-on_ok : {A E : Type 0} (result : Result A E) → OnOk result InputIsInParts
parts-on_ok (Ok value) = input_is_in_parts
parts-on_ok (Err error) = tt
