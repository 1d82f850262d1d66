-- The position of a byte, and what is cut there.
use Rattle.std.proofs.Common.{◌≡◌, ℕ, ◌+◌, ◌<◌, Bool, true, false, inl, inr, refl, ap, List, [], ◌∷◌, length, Some, None, cond, arith}
use Rattle.std.proofs.lemmas.Bool.{cases_Bool, or_parts}
use Rattle.std.proofs.lemmas.Grind.{common_steps}
use Rattle.std.specs.List.{list_any, position, position_or_len, slice_split, onto_first, before_first, after_first}
use Rattle.std.proofs.lemmas.List.Splits.{slice_split_first}
use Rattle.pathspec_faults.proofs.FoundProofs.{any_below}

none_whole : (p : ℕ → Bool) (text : List ℕ) → list_any p text ≡ false → position_or_len p text ≡ length text
none_whole p [] h = refl
none_whole p (b ∷ bs) h = let q = or_parts (p b) (list_any p bs) h in rw q.0 (let more : position_or_len p bs ≡ length bs = none_whole p bs q.1 in let it : 1 + position_or_len p bs ≡ length (b ∷ bs) = omega (arith, more) in it)

-- the position, where the text holds such a byte
pub position-any : (p : ℕ → Bool) (text : List ℕ) → position p text ≡ cond (list_any p text) (Some (position_or_len p text)) None
position-any p text = elim (cases_Bool (list_any p text)) [
  | inl y ↦ let below : position_or_len p text < length text = any_below p text y in rw y (grind (arith, common_steps, below))
  | inr n ↦ let at : position_or_len p text ≡ length text = none_whole p text n in rw n (grind (arith, common_steps, at))
]

-- a list that isn't cut, and the first cut
pub split_none : (p : ℕ → Bool) (text : List ℕ) → list_any p text ≡ false → slice_split p text ≡ text ∷ []
split_none p [] h = refl
split_none p (b ∷ bs) h = let q = or_parts (p b) (list_any p bs) h in rw q.0 (ap (onto_first b) (split_none p bs q.1))

pub split_any : (p : ℕ → Bool) (text : List ℕ) → list_any p text ≡ true → slice_split p text ≡ before_first p text ∷ slice_split p (after_first p text)
split_any p text h = slice_split_first p text 0 (any_below p text h)

-- what a position that is told says
pub position_some : (p : ℕ → Bool) (text : List ℕ) (at : ℕ) → Some at ≡ cond (list_any p text) (Some (position_or_len p text)) None → (list_any p text ≡ true) × (at ≡ position_or_len p text)
position_some p text at h = elim (cases_Bool (list_any p text)) [
  | inl y ↦ let it : Some at ≡ Some (position_or_len p text) = rw y at h in (y, let same : at ≡ position_or_len p text = cc in same)
  | inr n ↦ let it : Some at ≡ None = rw n at h in absurd (let bad : ⊥ = cc in bad)
]

pub position_none : (p : ℕ → Bool) (text : List ℕ) → None ≡ cond (list_any p text) (Some (position_or_len p text)) None → list_any p text ≡ false
position_none p text h = elim (cases_Bool (list_any p text)) [
  | inl y ↦ let it : None ≡ Some (position_or_len p text) = rw y at h in absurd (let bad : ⊥ = cc in bad)
  | inr n ↦ n
]
