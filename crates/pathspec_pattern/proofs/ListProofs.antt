-- The value that bytes write, byte after byte, and the assignments of a list, part after part.
use Rattle.std.proofs.Common.{◌≡◌, ℕ, ◌+◌, ◌<◌, Bool, true, false, not, ◌&&◌, cond, inl, inr, refl, sym, ◌∙◌, ap, List, [], ◌∷◌, ◌++◌, drop, length, map, filter, ◌==◌, get_or, Result, Ok, Err, append_assoc, arith}
use Rattle.std.proofs.lemmas.Bool.{cases_Bool, and_parts, ne_eqb, false≢true}
use Rattle.std.proofs.Math.Seq.{drop-cons, drop-length}
use Rattle.std.proofs.Math.Numerals.{one-add, add-one}
use Rattle.std.proofs.lemmas.List.{append-nil}
use Rattle.std.specs.List.{slice_split, onto_first, before_first, after_first}
use Rattle.pathspec_parts.specs.Bytes.{space, backslash, is_empty}
use Rattle.pathspec_parts.specs.Attributes.{Assignment}
use Rattle.pathspec_pattern.specs.Results.{all_ok, ◌>>=◌}
use Rattle.pathspec_pattern.specs.Faults.{Fault}
use Rattle.pathspec_pattern.specs.Faults.Fault.{EmptyAttributes, InvalidValueByte, TrailingEscape}
use Rattle.pathspec_pattern.specs.AttributeLists.{written_bytes, is_value_byte, byte_of_written, value_of, assignment_of, parts, assignments_of}

-- values that are made, in front of those that are to come; an error that is to come stays
abbrev pub in_front : {A E : Type 0} → List A → Result (List A) E → Result (List A) E
in_front made coming = coming >>= λ more. Ok (made ++ more)

module _ {A E : Type 0} where
  pub front-more : (made : List A) (x : A) (coming : Result (List A) E) → in_front made (coming >>= λ more. Ok (x ∷ more)) ≡ in_front (made ++ x ∷ []) coming
  front-more made x (Ok more) = ap Ok (sym (append_assoc made (x ∷ []) more))
  front-more made x (Err e) = refl

  pub front-all : (made : List A) → in_front {E = E} made (Ok []) ≡ Ok made
  front-all made = ap Ok (append-nil made)

-- ---- a value

-- what is to come of a value, after a backslash or not
abbrev pub value_from : List ℕ → Bool → List ℕ → Result (List ℕ) Fault
value_from written escaped rest = all_ok (map (byte_of_written written) (written_bytes escaped rest))

-- a byte that no backslash precedes, and that is no escape
is_plain : (b : ℕ) → (b == backslash && true) ≡ false → (b == backslash) ≡ false
is_plain b h = elim (cases_Bool (b == backslash)) [
  | inl s ↦ let clash = rw s at h in cc
  | inr s ↦ s
]

module _ (written : List ℕ) where
  -- a backslash that nothing escapes
  value-skip : (e : Bool) (b : ℕ) (bs : List ℕ) → (b == backslash && not e) ≡ true → value_from written e (b ∷ bs) ≡ value_from written true bs
  value-skip true b bs h = absurd (false≢true (and_parts (b == backslash) false h).1)
  value-skip false b bs h = rw (and_parts (b == backslash) true h).0 refl

  -- another byte, which a value may hold
  value-take : (e : Bool) (b : ℕ) (bs : List ℕ) → (b == backslash && not e) ≡ false → is_value_byte b ≡ true → value_from written e (b ∷ bs) ≡ (value_from written false bs >>= λ more. Ok (b ∷ more))
  value-take true b bs h v = rw v refl
  value-take false b bs h v = rw (is_plain b h, v) refl

  -- and one which it may not
  value-refuse : (e : Bool) (b : ℕ) (bs : List ℕ) → (b == backslash && not e) ≡ false → is_value_byte b ≡ false → value_from written e (b ∷ bs) ≡ Err (InvalidValueByte b)
  value-refuse true b bs h v = rw v refl
  value-refuse false b bs h v = rw (is_plain b h, v) refl

  -- nothing is left
  value-end : (e : Bool) → value_from written e [] ≡ cond e (Err (TrailingEscape written)) (Ok [])
  value-end true = refl
  value-end false = refl

  -- the bytes before a place, and whether a backslash escapes the byte there
  module _ (made : List ℕ) (at : ℕ) (e : Bool) (l : at < length written) (h : value_of written ≡ in_front made (value_from written e (drop at written))) where
    here : value_of written ≡ in_front made (value_from written e (get_or written at 0 ∷ drop (at + 1) written))
    here = h ∙ rw (add-one, drop-cons written at 0 l) refl

    pub value-skips : (get_or written at 0 == backslash && not e) ≡ true → value_of written ≡ in_front made (value_from written true (drop (at + 1) written))
    value-skips s = here ∙ ap (in_front made) (value-skip e (get_or written at 0) (drop (at + 1) written) s)

    pub value-takes : (get_or written at 0 == backslash && not e) ≡ false → is_value_byte (get_or written at 0) ≡ true → value_of written ≡ in_front (made ++ get_or written at 0 ∷ []) (value_from written false (drop (at + 1) written))
    value-takes s v = here ∙ ap (in_front made) (value-take e (get_or written at 0) (drop (at + 1) written) s v) ∙ front-more made (get_or written at 0) (value_from written false (drop (at + 1) written))

    pub value-refuses : (get_or written at 0 == backslash && not e) ≡ false → is_value_byte (get_or written at 0) ≡ false → value_of written ≡ Err (InvalidValueByte (get_or written at 0))
    value-refuses s v = here ∙ ap (in_front made) (value-refuse e (get_or written at 0) (drop (at + 1) written) s v)

  module _ (made : List ℕ) (at : ℕ) (e : Bool) (l : at ≡ length written) (h : value_of written ≡ in_front made (value_from written e (drop at written))) where
    none_left : value_of written ≡ in_front made (cond e (Err (TrailingEscape written)) (Ok []))
    none_left = h ∙ rw (l, drop-length, value-end e) refl

    pub value-trailing : e ≡ true → value_of written ≡ Err (TrailingEscape written)
    value-trailing t = none_left ∙ rw t refl

    pub value-all : e ≡ false → value_of written ≡ Ok made
    value-all f = none_left ∙ rw f (front-all made)

-- ---- a list

-- the assignments that are to come
abbrev pub list_from : List ℕ → Result (List Assignment) Fault
list_from rest = all_ok (map assignment_of (parts rest))

abbrev is_space : ℕ → Bool
is_space b = b == space

-- the parts after the first, also empty ones
abbrev others : List ℕ → List (List ℕ)
others [] = []
others (b ∷ bs) = cond (is_space b) (slice_split is_space bs) (others bs)

split-first : (list : List ℕ) → slice_split is_space list ≡ before_first is_space list ∷ others list
split-first [] = refl
split-first (b ∷ bs) = elim (cases_Bool (is_space b)) [
  | inl h ↦ rw h refl
  | inr h ↦ rw (h, one-add) (ap (onto_first b) (split-first bs))
]

others-parts : (list : List ℕ) → filter (λ part. not (is_empty part)) (others list) ≡ parts (after_first is_space list)
others-parts [] = refl
others-parts (b ∷ bs) = elim (cases_Bool (is_space b)) [
  | inl h ↦ rw h refl
  | inr h ↦ rw (h, one-add, add-one) (rw add-one at (others-parts bs))
]

-- a first part that counts
parts-first : (list : List ℕ) → is_empty (before_first is_space list) ≡ false → parts list ≡ before_first is_space list ∷ parts (after_first is_space list)
parts-first list h = ap (filter (λ part. not (is_empty part))) (split-first list) ∙ (rw h (ap (λ more. before_first is_space list ∷ more) (others-parts list)))

-- and an empty one
parts-skip : (list : List ℕ) → is_empty (before_first is_space list) ≡ true → parts list ≡ parts (after_first is_space list)
parts-skip list h = ap (filter (λ part. not (is_empty part))) (split-first list) ∙ (rw h (others-parts list))

-- the test for emptiness that the code makes
emptiness : (text : List ℕ) → is_empty text ≡ (length text == 0)
emptiness [] = refl
emptiness (b ∷ bs) = sym (ne_eqb (length (b ∷ bs)) 0 (λ e. omega (arith, e)))

-- the first part of what is left, and what stands after it
module _ (list rest part after : List ℕ) (made : List Assignment) (h : list_from list ≡ in_front made (list_from rest)) (is_part : part ≡ before_first is_space rest) (is_after : after ≡ after_first is_space rest) where
  pub list-skips : (length part == 0) ≡ true → list_from list ≡ in_front made (list_from after)
  list-skips none = h ∙ rw (parts-skip rest (rw is_part at (emptiness part ∙ none)), is_after) refl

  counted : (length part == 0) ≡ false → list_from rest ≡ all_ok (assignment_of part ∷ map assignment_of (parts after))
  counted some = rw (parts-first rest (rw is_part at (emptiness part ∙ some)), is_part, is_after) refl

  pub list-takes : (a : Assignment) → (length part == 0) ≡ false → assignment_of part ≡ Ok a → list_from list ≡ in_front (made ++ a ∷ []) (list_from after)
  list-takes a some said = h ∙ ap (in_front made) (counted some ∙ rw said refl) ∙ front-more made a (list_from after)

  refused : (fault : Fault) → (length part == 0) ≡ false → assignment_of part ≡ Err fault → list_from rest ≡ Err fault
  refused fault some said = counted some ∙ rw said refl

  pub list-refuses : (fault : Fault) → (length part == 0) ≡ false → assignment_of part ≡ Err fault → list_from list ≡ Err fault
  list-refuses fault some said = h ∙ ap (in_front made) (refused fault some said)

-- no part is left
pub list-all : (list rest : List ℕ) (made : List Assignment) → list_from list ≡ in_front made (list_from rest) → (length rest == 0) ≡ true → list_from list ≡ Ok made
list-all list [] made h none = h ∙ front-all made
list-all list (b ∷ bs) made h none = absurd (false≢true (emptiness (b ∷ bs) ∙ none))

-- the empty list, and the others
pub list-empty : (list : List ℕ) → (length list == 0) ≡ true → assignments_of list ≡ Err EmptyAttributes
unfolding assignments_of
list-empty list none = rw (emptiness list ∙ none) refl

pub list-filled : (list : List ℕ) → (length list == 0) ≡ false → assignments_of list ≡ list_from list
unfolding assignments_of
list-filled list some = rw (emptiness list ∙ some) refl
