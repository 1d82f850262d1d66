-- The words of a line, and the assignments that they write, word after word.
use Rattle.std.proofs.Common.{◌≡◌, ℕ, false, not, cond, inl, inr, refl, sym, ◌∙◌, ap, List, [], ◌∷◌, ◌++◌, length, map, filter, ◌==◌, Option, Some, None, append_assoc, arith}
use Rattle.std.proofs.lemmas.Bool.{cases_Bool, ne_eqb}
use Rattle.std.proofs.Math.Numerals.{one-add, add-one}
use Rattle.std.specs.List.{slice_split, onto_first, before_first, after_first}
use Rattle.std.specs.Option.{option_map}
use Rattle.pathspec_glob.specs.Bytes.{is_empty}
use Rattle.pathspec_parts.specs.Attributes.{Assignment}
use Rattle.pathspec_attributes.specs.Lines.{is_blank, words}
use Rattle.pathspec_attributes.specs.Readings.{all_some, assignment_of, assignments_of}

-- ---- words

-- the parts after the first, also empty ones
abbrev others : List ℕ → List (List ℕ)
others [] = []
others (b ∷ bs) = cond (is_blank b) (slice_split is_blank bs) (others bs)

split-first : (text : List ℕ) → slice_split is_blank text ≡ before_first is_blank text ∷ others text
split-first [] = refl
split-first (b ∷ bs) = elim (cases_Bool (is_blank b)) [
  | inl h ↦ rw h refl
  | inr h ↦ rw (h, one-add) (ap (onto_first b) (split-first bs))
]

others-words : (text : List ℕ) → filter (λ word. not (is_empty word)) (others text) ≡ words (after_first is_blank text)
others-words [] = refl
others-words (b ∷ bs) = elim (cases_Bool (is_blank b)) [
  | inl h ↦ rw h refl
  | inr h ↦ rw (h, one-add, add-one) (rw add-one at (others-words bs))
]

-- a first word
words-first : (text : List ℕ) → is_empty (before_first is_blank text) ≡ false → words text ≡ before_first is_blank text ∷ words (after_first is_blank text)
words-first text h = ap (filter (λ word. not (is_empty word))) (split-first text) ∙ (rw h (ap (λ more. before_first is_blank text ∷ more) (others-words text)))

-- the test for emptiness that the code makes
pub emptiness : (text : List ℕ) → is_empty text ≡ (length text == 0)
emptiness [] = refl
emptiness (b ∷ bs) = sym (ne_eqb (length (b ∷ bs)) 0 (λ e. omega (arith, e)))

-- ---- assignments

-- assignments that are read, in front of those that are to come
abbrev pub in_front : List Assignment → Option (List Assignment) → Option (List Assignment)
in_front made coming = option_map (λ more. made ++ more) coming

front-more : (made : List Assignment) (a : Assignment) (coming : Option (List Assignment)) → in_front made (option_map (λ more. a ∷ more) coming) ≡ in_front (made ++ a ∷ []) coming
front-more made a None = refl
front-more made a (Some more) = ap Some (sym (append_assoc made (a ∷ []) more))

-- the whole, by what is read and the first word of the rest
module _ (whole : Option (List Assignment)) (made : List Assignment) (rest word after : List ℕ) (h : whole ≡ in_front made (assignments_of rest)) (is_word : word ≡ before_first is_blank rest) (is_after : after ≡ after_first is_blank rest) where
  counted : (length word == 0) ≡ false → assignments_of rest ≡ all_some (assignment_of word ∷ map assignment_of (words after))
  counted some = rw (words-first rest (rw is_word at (emptiness word ∙ some)), is_word, is_after) refl

  pub words-takes : (a : Assignment) → (length word == 0) ≡ false → assignment_of word ≡ Some a → whole ≡ in_front (made ++ a ∷ []) (assignments_of after)
  words-takes a some said = h ∙ ap (in_front made) (counted some ∙ rw said refl) ∙ front-more made a (assignments_of after)

  refused : (length word == 0) ≡ false → assignment_of word ≡ None → assignments_of rest ≡ None
  refused some said = counted some ∙ rw said refl

  pub words-refuses : (length word == 0) ≡ false → assignment_of word ≡ None → whole ≡ None
  words-refuses some said = h ∙ ap (in_front made) (refused some said)
