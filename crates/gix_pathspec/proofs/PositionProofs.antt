-- The places of the elements of a list that pass a test, and the list of these.
use Rattle.std.proofs.Common.{◌≡◌, ℕ, zero, suc, ◌+◌, ◌<◌, Bool, true, false, cond, refl, sym, ◌∙◌, ap, arith, List, [], ◌∷◌, ◌++◌, length, filter, get_or, Option, Some, None, slice_get}
use Rattle.std.specs.Prelude.{filter_map, is_some}
use Rattle.std.specs.List.{cons_option}
use Rattle.gix_pathspec.specs.SetSources.{positions_from}

-- the element at the place with a number, which passes the test, and stands under the number among all that do
pub record IsPositionAt {X : Type 0} (test : X → Bool) (p : ℕ) (xs : List X) (k : ℕ) : Type 0 where
  pub at : ℕ
  pub element : X
  pub place : get_or (positions_from test p xs) k 0 ≡ p + at
  pub there : slice_get xs at ≡ Some element
  pub passes : test element ≡ true
  pub listed : slice_get (filter test xs) k ≡ Some element

module _ {X : Type 0} (test : X → Bool) where
  pub position-at : (p : ℕ) (xs : List X) (k : ℕ) → k < length (positions_from test p xs) → IsPositionAt test p xs k
  position-at p [] k l = absurd (let no : ⊥ = omega (arith, l) in no)
  position-at p (x ∷ xs) k l =
      let r = found (test x) refl k l (λ k l. position-at (p + 1) xs k l) in
      record { at = r.0; element = r.1; place = r.2; there = r.3; passes = r.4; listed = r.5 }
    where
      rest : ℕ → Bool → List ℕ
      rest q b = cond b (q ∷ positions_from test (q + 1) xs) (positions_from test (q + 1) xs)

      found : (b : Bool) → test x ≡ b → (k : ℕ) → k < length (rest p b) → ((k : ℕ) → k < length (positions_from test (p + 1) xs) → IsPositionAt test (p + 1) xs k)
          → (at : ℕ) × (element : X) × (get_or (rest p b) k 0 ≡ p + at) × (slice_get (x ∷ xs) at ≡ Some element) × (test element ≡ true) × (slice_get (cond b (x ∷ filter test xs) (filter test xs)) k ≡ Some element)
      found true e zero l more = (0, x, omega arith, refl, e, refl)
      found true e (suc k) l more = let r = more k (omega (arith, l)) in (suc r.at, r.element, omega (arith, r.place), r.there, r.passes, r.listed)
      found false e k l more = let r = more k l in (suc r.at, r.element, omega (arith, r.place), r.there, r.passes, r.listed)

  -- as many places as elements that pass
  pub positions-count : (p : ℕ) (xs : List X) → length (positions_from test p xs) ≡ length (filter test xs)
  positions-count p [] = refl
  positions-count p (x ∷ xs) = at (test x) (positions-count (p + 1) xs)
    where
      at : (b : Bool) → length (positions_from test (p + 1) xs) ≡ length (filter test xs)
          → length (cond b (p ∷ positions_from test (p + 1) xs) (positions_from test (p + 1) xs)) ≡ length (cond b (x ∷ filter test xs) (filter test xs))
      at true more = ap suc more
      at false more = more

  -- each element that passes has a number
  pub position-number : (p : ℕ) (xs : List X) (q : ℕ) (x : X) → slice_get xs q ≡ Some x → test x ≡ true
      → (k : ℕ) × (k < length (positions_from test p xs)) × (get_or (positions_from test p xs) k 0 ≡ p + q)
  position-number p [] q x is m = cc
  position-number p (y ∷ xs) zero x is m = let same : y ≡ x = cc in at (test y) (ap test same ∙ m)
    where
      at : (b : Bool) → b ≡ true → (k : ℕ) × (k < length (cond b (p ∷ positions_from test (p + 1) xs) (positions_from test (p + 1) xs))) × (get_or (cond b (p ∷ positions_from test (p + 1) xs) (positions_from test (p + 1) xs)) k 0 ≡ p + 0)
      at true e = (0, omega arith, omega arith)
      at false e = cc
  position-number p (y ∷ xs) (suc q) x is m = at (test y) (position-number (p + 1) xs q x is m)
    where
      at : (b : Bool) → ((k : ℕ) × (k < length (positions_from test (p + 1) xs)) × (get_or (positions_from test (p + 1) xs) k 0 ≡ p + 1 + q))
          → (k : ℕ) × (k < length (cond b (p ∷ positions_from test (p + 1) xs) (positions_from test (p + 1) xs))) × (get_or (cond b (p ∷ positions_from test (p + 1) xs) (positions_from test (p + 1) xs)) k 0 ≡ p + suc q)
      at true r = (suc r.0, omega (arith, r.1), omega (arith, r.2))
      at false r = (r.0, r.1, omega (arith, r.2))

  -- places rise
  pub positions-rise : (p : ℕ) (xs : List X) (j k : ℕ) → j < k → k < length (positions_from test p xs) → get_or (positions_from test p xs) j 0 < get_or (positions_from test p xs) k 0
  positions-rise p [] j k less l = absurd (let no : ⊥ = omega (arith, l) in no)
  positions-rise p (x ∷ xs) j k less l = at (test x) j k less l (λ j k less l. positions-rise (p + 1) xs j k less l)
    where
      rest : Bool → List ℕ
      rest b = cond b (p ∷ positions_from test (p + 1) xs) (positions_from test (p + 1) xs)

      at : (b : Bool) (j k : ℕ) → j < k → k < length (rest b)
          → ((j k : ℕ) → j < k → k < length (positions_from test (p + 1) xs) → get_or (positions_from test (p + 1) xs) j 0 < get_or (positions_from test (p + 1) xs) k 0)
          → get_or (rest b) j 0 < get_or (rest b) k 0
      at true j zero less l more = absurd (let no : ⊥ = omega (arith, less) in no)
      at true zero (suc k) less l more = let r = position-at (p + 1) xs k (omega (arith, l)) in omega (arith, r.place)
      at true (suc j) (suc k) less l more = more j k (omega (arith, less)) (omega (arith, l))
      at false j k less l more = more j k less l

  -- the places of the elements, and of one more behind them
  pub positions-more : (p : ℕ) (xs : List X) (x : X) → positions_from test p (xs ++ x ∷ []) ≡ positions_from test p xs ++ cond (test x) ((p + length xs) ∷ []) []
  positions-more p [] x = at (test x)
    where
      at : (b : Bool) → cond b (p ∷ []) [] ≡ cond b ((p + 0) ∷ []) []
      at true = let e : p ≡ p + 0 = omega arith in ap (λ k. k ∷ []) e
      at false = refl
  positions-more p (y ∷ xs) x =
      let e : p + 1 + length xs ≡ p + length (y ∷ xs) = omega arith in
      at (test y) (positions-more (p + 1) xs x ∙ ap (λ k. positions_from test (p + 1) xs ++ cond (test x) (k ∷ []) []) e)
    where
      at : (b : Bool) → positions_from test (p + 1) (xs ++ x ∷ []) ≡ positions_from test (p + 1) xs ++ cond (test x) ((p + length (y ∷ xs)) ∷ []) []
          → cond b (p ∷ positions_from test (p + 1) (xs ++ x ∷ [])) (positions_from test (p + 1) (xs ++ x ∷ [])) ≡ cond b (p ∷ positions_from test (p + 1) xs) (positions_from test (p + 1) xs) ++ cond (test x) ((p + length (y ∷ xs)) ∷ []) []
      at true more = ap (λ ks. p ∷ ks) more
      at false more = more

-- what a function gives of the elements for which it gives something, under their numbers
pub mapped-at : {X Y : Type 0} (f : X → Option Y) (p : ℕ) (xs : List X) (k : ℕ) (x : X) → slice_get (filter (λ x. is_some (f x)) xs) k ≡ Some x → slice_get (filter_map f xs) k ≡ f x
mapped-at f p [] k x e = cc
mapped-at f p (y ∷ xs) k x e = at (f y) refl k e (λ k e. mapped-at f p xs k x e)
  where
    at : (o : Option _) → f y ≡ o → (k : ℕ) → slice_get (cond (is_some o) (y ∷ filter (λ x. is_some (f x)) xs) (filter (λ x. is_some (f x)) xs)) k ≡ Some x
        → ((k : ℕ) → slice_get (filter (λ x. is_some (f x)) xs) k ≡ Some x → slice_get (filter_map f xs) k ≡ f x) → slice_get (cons_option o (filter_map f xs)) k ≡ f x
    at (Some z) g zero e more = let same : y ≡ x = cc in sym g ∙ ap f same
    at (Some z) g (suc k) e more = more k e
    at None g k e more = more k e

-- and how many they are
pub mapped-count : {X Y : Type 0} (f : X → Option Y) (xs : List X) → length (filter_map f xs) ≡ length (filter (λ x. is_some (f x)) xs)
mapped-count f [] = refl
mapped-count f (x ∷ xs) = at (f x) (mapped-count f xs)
  where
    at : (o : Option _) → length (filter_map f xs) ≡ length (filter (λ x. is_some (f x)) xs)
        → length (cons_option o (filter_map f xs)) ≡ length (cond (is_some o) (x ∷ filter (λ x. is_some (f x)) xs) (filter (λ x. is_some (f x)) xs))
    at (Some y) e = ap suc e
    at None e = e
