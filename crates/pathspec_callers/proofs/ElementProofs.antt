-- The elements of a list, one by one.
use Rattle.std.proofs.Common.{◌≡◌, List, [], ◌∷◌, inl, inr, ◌⊎◌, arith}
use Rattle.std.proofs.lemmas.List.Elements.{Contains-append_cases, Contains-push_cases}
use Rattle.std.specs.Prelude.{Contains}

-- the first of a list, or one of those after it
pub first_or_later : {X : Type 0} (y : X) (xs : List X) (x : X) → Contains (y ∷ xs) x → (y ≡ x) ⊎ Contains xs x
first_or_later y xs x c = elim (Contains-append_cases (y ∷ []) xs x c) [
  | inl one ↦ elim (Contains-push_cases [] y x one) [
    | inl none ↦ let clash : ⊥ = omega (arith, none.1) in absurd clash
    | inr e ↦ inl e
  ]
  | inr later ↦ inr later
]
