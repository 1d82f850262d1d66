-- The components of a path are its first piece, where that is one, and then those of the rest.
use Rattle.std.proofs.Common.{◌≡◌, ℕ, true, inl, inr, refl, ◌∙◌, ap, List, [], ◌∷◌, cond, filter}
use Rattle.std.proofs.lemmas.Bool.{cases_Bool}
use Rattle.std.proofs.Math.Numerals.{one-add, add-one}
use Rattle.std.specs.List.{onto_first, before_first, after_first}
use Rattle.pathspec_parts.specs.Paths.{pieces, is_component, components, is_slash}

-- the pieces after the first
abbrev others : List ℕ → List (List ℕ)
others [] = []
others (b ∷ bs) = cond (is_slash b) (pieces bs) (others bs)

pieces-first : (path : List ℕ) → pieces path ≡ before_first is_slash path ∷ others path
pieces-first [] = refl
pieces-first (b ∷ bs) = elim (cases_Bool (is_slash b)) [
  | inl h ↦ rw h refl
  | inr h ↦ rw (h, one-add) (ap (onto_first b) (pieces-first bs))
]

others-components : (path : List ℕ) → filter is_component (others path) ≡ components (after_first is_slash path)
others-components [] = refl
others-components (b ∷ bs) = elim (cases_Bool (is_slash b)) [
  | inl h ↦ rw h refl
  | inr h ↦ rw (h, one-add, add-one) (rw add-one at (others-components bs))
]

-- a first piece that is a component
pub components-first : (path : List ℕ) → is_component (before_first is_slash path) ≡ true → components path ≡ before_first is_slash path ∷ components (after_first is_slash path)
components-first path h = ap (filter is_component) (pieces-first path) ∙ (rw h (ap (λ cs. before_first is_slash path ∷ cs) (others-components path)))

-- the first of what is left is given
pub components-given : (left : List (List ℕ)) (path piece rest item : List ℕ) → components path ≡ left → piece ≡ before_first is_slash path → rest ≡ after_first is_slash path → is_component piece ≡ true → item ≡ piece → left ≡ item ∷ components rest
components-given left path piece rest item l p r t i = rw (← l, i, p, r) (components-first path (rw p at t))
