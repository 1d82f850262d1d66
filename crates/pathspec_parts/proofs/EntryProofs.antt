-- The numbers of the entries that pass: they rise, and each is the number of an entry that passes.
use Rattle.std.proofs.Common.{◌≡◌, ℕ, zero, suc, ◌+◌, ◌<◌, ◌≤◌, Bool, true, false, cond, refl, sym, ◌∙◌, ap, subst, List, [], ◌∷◌, ◌++◌, length, get_or, map, arith, inl, inr, Some}
use Rattle.std.proofs.lemmas.Bool.{cases_Bool}
use Rattle.std.proofs.lemmas.List.Elements.{Contains-get_or}
use Rattle.std.specs.Prelude.{◌⊎◌, ◌↔◌, filter, slice_get, Contains}
use Rattle.std.specs.List.{enumerate_from}
use Rattle.std.specs.List.Sorted.{IsStrictlyIncreasing}
use Rattle.pathspec_parts.specs.Entries.{Entry, entries_where}

-- the numbers, from n on, of the elements that pass
abbrev pub numbers_from : {X : Type 0} → (X → Bool) → ℕ → List X → List ℕ
numbers_from p n xs = map (λ e. e.0) (filter (λ e. p e.1) (enumerate_from n xs))

-- an element that passes is counted
pub numbers_from-yes : {X : Type 0} (p : X → Bool) (n : ℕ) (x : X) (xs : List X) → p x ≡ true → numbers_from p n (x ∷ xs) ≡ n ∷ numbers_from p (n + 1) xs
numbers_from-yes p n x xs y = rw y refl

-- one that does not is left out
pub numbers_from-no : {X : Type 0} (p : X → Bool) (n : ℕ) (x : X) (xs : List X) → p x ≡ false → numbers_from p n (x ∷ xs) ≡ numbers_from p (n + 1) xs
numbers_from-no p n x xs y = rw y refl

-- ---- what Contains says of a list in parts

-- the first element
pub Contains-here : (x : ℕ) (xs : List ℕ) → Contains (x ∷ xs) x
Contains-here x xs = (0, omega arith, refl)

-- an element after the first
pub Contains-later : (y x : ℕ) (xs : List ℕ) → Contains xs x → Contains (y ∷ xs) x
Contains-later y x xs c = (suc c.0, omega (arith, c.1), c.2)

-- either of the two
pub Contains-cases : (y x : ℕ) (xs : List ℕ) → Contains (y ∷ xs) x → (y ≡ x) ⊎ Contains xs x
Contains-cases y x xs (zero, l, e) = inl e
Contains-cases y x xs (suc k, l, e) = inr (k, omega (arith, l), e)

-- the empty list has none
Contains-none : (x : ℕ) → Contains [] x → ⊥
Contains-none x c = omega (arith, c.1)

-- ---- each is the number of an element that passes

-- the element with this number, where the first has number n
abbrev IsNumbered : {X : Type 0} → (X → Bool) → ℕ → List X → ℕ → Type 0
IsNumbered {X} p n xs m = (i : ℕ) × (x : X) × (m ≡ n + i) × (slice_get xs i ≡ Some x) × (p x ≡ true)

-- one more element in front
numbered-later : {X : Type 0} (p : X → Bool) (n m : ℕ) (y : X) (xs : List X) → IsNumbered p (n + 1) xs m → IsNumbered p n (y ∷ xs) m
numbered-later p n m y xs r = (suc r.0, r.1, omega (arith, r.2), r.3, r.4)

-- a number of the list is that of an element that passes
numbered-from : {X : Type 0} (p : X → Bool) (n m : ℕ) (xs : List X) → Contains (numbers_from p n xs) m → IsNumbered p n xs m
numbered-from p n m [] c = absurd (Contains-none m c)
numbered-from p n m (x ∷ xs) c = elim (cases_Bool (p x)) [
  | inl y ↦ elim (Contains-cases n m (numbers_from p (n + 1) xs) (subst (λ k. Contains k m) (numbers_from-yes p n x xs y) c)) [
    | inl e ↦ (0, x, omega (arith, e), refl, y)
    | inr d ↦ numbered-later p n m x xs (numbered-from p (n + 1) m xs d)
  ]
  | inr f ↦ numbered-later p n m x xs (numbered-from p (n + 1) m xs (subst (λ k. Contains k m) (numbers_from-no p n x xs f) c))
]

-- one more element in front leaves the numbers
Contains-numbers_from : {X : Type 0} (p : X → Bool) (n m : ℕ) (y : X) (xs : List X) → Contains (numbers_from p (n + 1) xs) m → Contains (numbers_from p n (y ∷ xs)) m
Contains-numbers_from p n m y xs c = elim (cases_Bool (p y)) [
  | inl h ↦ subst (λ k. Contains k m) (sym (numbers_from-yes p n y xs h)) (Contains-later n m (numbers_from p (n + 1) xs) c)
  | inr f ↦ subst (λ k. Contains k m) (sym (numbers_from-no p n y xs f)) c
]

-- an element that passes has its number in the list
numbered-to : {X : Type 0} (p : X → Bool) (n m i : ℕ) (xs : List X) (x : X) → m ≡ n + i → slice_get xs i ≡ Some x → p x ≡ true → Contains (numbers_from p n xs) m
numbered-to p n m i [] x q e h = cc
numbered-to p n m zero (y ∷ xs) x q e h =
    let first : Contains (n ∷ numbers_from p (n + 1) xs) m = subst (λ j. Contains (n ∷ numbers_from p (n + 1) xs) j) (omega (arith, q)) (Contains-here n (numbers_from p (n + 1) xs)) in
    subst (λ k. Contains k m) (sym (numbers_from-yes p n y xs cc)) first
numbered-to p n m (suc i) (y ∷ xs) x q e h = Contains-numbers_from p n m y xs (numbered-to p (n + 1) m i xs x (omega (arith, q)) e h)

-- ---- they rise

-- no number is below the first
all-from : {X : Type 0} (p : X → Bool) (n : ℕ) (xs : List X) → (m : ℕ) → Contains (numbers_from p n xs) m → n ≤ m
all-from p n xs m c = let r = numbered-from p n m xs c in omega (arith, r.2)

-- a smaller number in front of numbers that rise
IsStrictlyIncreasing-cons : (x : ℕ) (xs : List ℕ) → ((m : ℕ) → Contains xs m → x < m) → IsStrictlyIncreasing xs → IsStrictlyIncreasing (x ∷ xs)
IsStrictlyIncreasing-cons x xs a r zero l = a (get_or xs 0 0) (Contains-get_or xs 0 0 (omega (arith, l)))
IsStrictlyIncreasing-cons x xs a r (suc k) l = let e : suc k + 1 ≡ suc (k + 1) = omega arith in rw e (r k (omega (arith, l)))

-- the numbers rise
numbers_from-rising : {X : Type 0} (p : X → Bool) (n : ℕ) (xs : List X) → IsStrictlyIncreasing (numbers_from p n xs)
numbers_from-rising p n [] = λ k l. absurd (omega (arith, l))
numbers_from-rising p n (x ∷ xs) = elim (cases_Bool (p x)) [
  | inl y ↦ rw (numbers_from-yes p n x xs y) (IsStrictlyIncreasing-cons n (numbers_from p (n + 1) xs) (λ m c. let h = all-from p (n + 1) xs m c in omega (arith, h)) (numbers_from-rising p (n + 1) xs))
  | inr f ↦ rw (numbers_from-no p n x xs f) (numbers_from-rising p (n + 1) xs)
]

-- The numbers of the entries that pass rise.
pub entries_where-rising : (takes : List ℕ → Bool → Bool) (es : List Entry) → IsStrictlyIncreasing (entries_where takes es)
unfolding entries_where
entries_where-rising takes es = numbers_from-rising (λ e. takes e.path e.is_dir) 0 es

-- one more entry at the end
numbers_from-push : {X : Type 0} (p : X → Bool) (n : ℕ) (xs : List X) (y : X) → numbers_from p n (xs ++ y ∷ []) ≡ numbers_from p n xs ++ cond (p y) ((n + length xs) ∷ []) []
numbers_from-push p n [] y = elim (cases_Bool (p y)) [
  | inl h ↦ let e : n ≡ n + 0 = omega arith in rw h (ap (λ k. k ∷ []) e)
  | inr h ↦ rw h refl
]
numbers_from-push p n (x ∷ xs) y =
    let r = numbers_from-push p (n + 1) xs y in
    let e : (n + 1) + length xs ≡ n + suc (length xs) = omega arith in
    let s : numbers_from p (n + 1) (xs ++ y ∷ []) ≡ numbers_from p (n + 1) xs ++ cond (p y) ((n + suc (length xs)) ∷ []) [] = subst (λ (k : ℕ). numbers_from p (n + 1) (xs ++ y ∷ []) ≡ numbers_from p (n + 1) xs ++ cond (p y) (k ∷ []) []) e r in
    elim (cases_Bool (p x)) [
      | inl h ↦ numbers_from-yes p n x (xs ++ y ∷ []) h ∙ (ap (λ t. n ∷ t) s ∙ ap (λ t. t ++ cond (p y) ((n + suc (length xs)) ∷ []) []) (sym (numbers_from-yes p n x xs h)))
      | inr h ↦ numbers_from-no p n x (xs ++ y ∷ []) h ∙ (s ∙ ap (λ t. t ++ cond (p y) ((n + suc (length xs)) ∷ []) []) (sym (numbers_from-no p n x xs h)))
    ]

-- One more entry adds its number where it passes.
pub entries_where-push : (takes : List ℕ → Bool → Bool) (es : List Entry) (e : Entry) → entries_where takes (es ++ e ∷ []) ≡ entries_where takes es ++ cond (takes e.path e.is_dir) (length es ∷ []) []
unfolding entries_where
entries_where-push takes es e = let same : 0 + length es ≡ length es = omega arith in subst (λ (k : ℕ). numbers_from (λ (x : Entry). takes x.path x.is_dir) 0 (es ++ e ∷ []) ≡ numbers_from (λ (x : Entry). takes x.path x.is_dir) 0 es ++ cond (takes e.path e.is_dir) (k ∷ []) []) same (numbers_from-push (λ (x : Entry). takes x.path x.is_dir) 0 es e)

-- A number is among them just where an entry with it passes.
pub Contains-entries_where : (takes : List ℕ → Bool → Bool) (es : List Entry) (n : ℕ) → Contains (entries_where takes es) n ↔ ((e : Entry) × (slice_get es n ≡ Some e) × (takes e.path e.is_dir ≡ true))
unfolding entries_where
Contains-entries_where takes es n =
    let p : Entry → Bool = λ e. takes e.path e.is_dir in (
      λ c. let r = numbered-from p 0 n es c in
          let e : r.0 ≡ n = omega (arith, r.2) in
          (r.1, subst (λ k. slice_get es k ≡ Some r.1) e r.3, r.4),
      λ h. numbered-to p 0 n n es h.0 (omega arith) h.1 h.2,
    )
