-- Lists that are made from a range of numbers, their ends, and one changed element.
use Rattle.std.proofs.Common.{◌≡◌, ◌≢◌, ℕ, zero, suc, ◌+◌, ◌-◌, ◌<◌, ◌≤◌, Bool, true, false, cond, refl, sym, ◌∙◌, ap, subst, List, [], ◌∷◌, ◌++◌, length, map, set, take, get_or, arith, inl, inr, Some}
use Rattle.std.proofs.lemmas.List.{append-nil, map-append, take_more, length_push, take-append-le, take_all}
use Rattle.std.proofs.lemmas.List.Elements.{Contains-append_left, Contains-push, Contains-push_cases}
use Rattle.std.proofs.lemmas.List.FromFn.{filter_of_map_range_with_len_more}
use Rattle.std.proofs.lemmas.List.Sums.{sum_by-append}
use Rattle.std.proofs.lemmas.Bool.{cases_Bool, cases_lt, both_ways}
use Rattle.std.specs.Prelude.{◌⊎◌, ◌↔◌, slice_get, Contains, filter, count_by}
use Rattle.std.specs.List.{range_with_len}

-- ---- ends

-- a list is empty, or ends with an element
pub snoc_cases : {X : Type 0} (xs : List X) → (xs ≡ []) ⊎ ((front : List X) × (x : X) × (xs ≡ front ++ x ∷ []))
snoc_cases [] = inl refl
snoc_cases (x ∷ xs) = elim (snoc_cases xs) [
  | inl e ↦ inr ([], x, ap (λ t. x ∷ t) e)
  | inr r ↦ inr (x ∷ r.0, r.1, ap (λ t. x ∷ t) r.2)
]

-- of two lists that end with an element and are one the ends are one
pub snoc_parts : {X : Type 0} (xs ys : List X) (x y : X) → xs ++ x ∷ [] ≡ ys ++ y ∷ [] → (xs ≡ ys) × (x ≡ y)
snoc_parts [] [] x y e = (refl, cc)
snoc_parts [] (b ∷ []) x y e = cc
snoc_parts [] (b ∷ c ∷ ys) x y e = cc
snoc_parts (a ∷ []) [] x y e = cc
snoc_parts (a ∷ c ∷ xs) [] x y e = cc
snoc_parts (a ∷ xs) (b ∷ ys) x y e =
    let head : a ≡ b = cc in
    let tail : xs ++ x ∷ [] ≡ ys ++ y ∷ [] = cc in
    let r = snoc_parts xs ys x y tail in
    (ap (λ t. a ∷ t) r.0 ∙ ap (λ t. t ∷ ys) head, r.1)

-- a list without its end
pub take-snoc : {X : Type 0} (xs : List X) (x : X) → take (length (xs ++ x ∷ []) - 1) (xs ++ x ∷ []) ≡ xs
take-snoc xs x = let k : length (xs ++ x ∷ []) - 1 ≡ length xs = omega (arith, length_push xs x) in ap (λ n. take n (xs ++ x ∷ [])) k ∙ (take-append-le (length xs) xs (x ∷ []) (omega arith) ∙ take_all (length xs) xs (omega arith))

-- one more element is counted where it passes
pub count_by-push : {X : Type 0} (p : X → Bool) (xs : List X) (x : X) → count_by p (xs ++ x ∷ []) ≡ count_by p xs + cond (p x) 1 0
count_by-push p xs x = sum_by-append (λ y. cond (p y) 1 0) xs (x ∷ []) ∙ omega arith

-- ---- elements

-- what stands behind a list leaves its elements
pub get-front : {X : Type 0} (xs ys : List X) (i : ℕ) → i < length xs → slice_get (xs ++ ys) i ≡ slice_get xs i
get-front [] ys i l = absurd (omega (arith, l))
get-front (x ∷ xs) ys zero l = refl
get-front (x ∷ xs) ys (suc i) l = get-front xs ys i (omega (arith, l))

-- a changed element
pub get-set_same : {X : Type 0} (xs : List X) (i : ℕ) (x : X) → i < length xs → slice_get (set xs i x) i ≡ Some x
get-set_same [] i x l = absurd (omega (arith, l))
get-set_same (y ∷ xs) zero x l = refl
get-set_same (y ∷ xs) (suc i) x l = get-set_same xs i x (omega (arith, l))

-- and the others
pub get-set_other : {X : Type 0} (xs : List X) (i j : ℕ) (x : X) → j ≢ i → slice_get (set xs i x) j ≡ slice_get xs j
get-set_other [] i j x n = refl
get-set_other (y ∷ xs) zero zero x n = absurd (n refl)
get-set_other (y ∷ xs) zero (suc j) x n = refl
get-set_other (y ∷ xs) (suc i) zero x n = refl
get-set_other (y ∷ xs) (suc i) (suc j) x n = get-set_other xs i j x (λ e. n (ap suc e))

-- ---- ranges

-- the element at a place of a range
pub get-map_range : {X : Type 0} (f : ℕ → X) (a n i : ℕ) → i < n → slice_get (map f (range_with_len a n)) i ≡ Some (f (a + i))
get-map_range f a zero i l = absurd (omega (arith, l))
get-map_range f a (suc n) zero l = let e : a ≡ a + 0 = omega arith in ap (λ k. Some (f k)) e
get-map_range f a (suc n) (suc i) l = let e : (a + 1) + i ≡ a + suc i = omega arith in get-map_range f (a + 1) n i (omega (arith, l)) ∙ ap (λ k. Some (f k)) e

-- functions that agree make one list
pub map_range-same : {X : Type 0} (f g : ℕ → X) (a n : ℕ) → ((i : ℕ) → a ≤ i → i < a + n → f i ≡ g i) → map f (range_with_len a n) ≡ map g (range_with_len a n)
map_range-same f g a zero h = refl
map_range-same f g a (suc n) h =
    ap (λ x. x ∷ map f (range_with_len (a + 1) n)) (h a (omega arith) (omega arith))
    ∙ ap (λ t. g a ∷ t) (map_range-same f g (a + 1) n (λ i le lt. h i (omega (arith, le)) (omega (arith, lt))))

keep-same : {X : Type 0} (b c : Bool) (x y : X) (xs ys : List X) → b ≡ c → x ≡ y → xs ≡ ys → cond b (x ∷ xs) xs ≡ cond c (y ∷ ys) ys
keep-same b c x y xs ys e f g = ap (λ d. cond d (x ∷ xs) xs) e ∙ (ap (λ z. cond c (z ∷ xs) xs) f ∙ ap (λ zs. cond c (y ∷ zs) zs) g)

-- and where tests agree too, one list of those that pass
pub filter_range-same : {X : Type 0} (p q : X → Bool) (f g : ℕ → X) (a n : ℕ) → ((i : ℕ) → a ≤ i → i < a + n → (f i ≡ g i) × (p (f i) ≡ q (g i))) → filter p (map f (range_with_len a n)) ≡ filter q (map g (range_with_len a n))
filter_range-same p q f g a zero h = refl
filter_range-same p q f g a (suc n) h =
    let here = h a (omega arith) (omega arith) in
    keep-same (p (f a)) (q (g a)) (f a) (g a) (filter p (map f (range_with_len (a + 1) n))) (filter q (map g (range_with_len (a + 1) n))) here.1 here.0
    (filter_range-same p q f g (a + 1) n (λ i le lt. h i (omega (arith, le)) (omega (arith, lt))))

module _ {X : Type 0} (number : X → ℕ) (f : ℕ → X) (numbered : (i : ℕ) → number (f i) ≡ i) where
  abbrev upto : (X → Bool) → ℕ → List X
  upto p n = filter p (map f (range_with_len 0 n))

  more : (p : X → Bool) (n : ℕ) → upto p (suc n) ≡ upto p n ++ cond (p (f n)) (f n ∷ []) []
  more p n = let one : suc n ≡ n + 1 = omega arith in ap (upto p) one ∙ filter_of_map_range_with_len_more p f 0 n n (omega arith)

  more-yes : (p : X → Bool) (n : ℕ) → p (f n) ≡ true → upto p (suc n) ≡ upto p n ++ f n ∷ []
  more-yes p n y = more p n ∙ ap (λ b. upto p n ++ cond b (f n ∷ []) []) y

  more-no : (p : X → Bool) (n : ℕ) → p (f n) ≡ false → upto p (suc n) ≡ upto p n
  more-no p n h = more p n ∙ (ap (λ b. upto p n ++ cond b (f n ∷ []) []) h ∙ append-nil (upto p n))

  -- the numbers of those that pass
  pub Contains-filter_range : (p : X → Bool) (n i : ℕ) → Contains (map number (filter p (map f (range_with_len 0 n)))) i ↔ ((i < n) × (p (f i) ≡ true))
  Contains-filter_range p zero i = (λ c. absurd (omega (arith, c.1)), λ h. absurd (omega (arith, h.0)))
  Contains-filter_range p (suc n) i = elim (cases_Bool (p (f n))) [
    | inl y ↦
        let is : map number (upto p (suc n)) ≡ map number (upto p n) ++ number (f n) ∷ [] = ap (map number) (more-yes p n y) ∙ map-append number (upto p n) (f n ∷ []) in (
          λ c. elim (Contains-push_cases (map number (upto p n)) (number (f n)) i (subst (λ (t : List ℕ). Contains t i) is c)) [
            | inl d ↦ let r = (Contains-filter_range p n i).0 d in (omega (arith, r.0), r.1)
            | inr d ↦ let e : n ≡ i = sym (numbered n) ∙ d in (omega (arith, e), ap (λ k. p (f k)) (sym e) ∙ y)
          ],
          λ h. subst (λ (t : List ℕ). Contains t i) (sym is) (elim (cases_last i n h.0) [
            | inl lt ↦ Contains-append_left (map number (upto p n)) (number (f n) ∷ []) i ((Contains-filter_range p n i).1 (lt, h.1))
            | inr e ↦ subst (λ k. Contains (map number (upto p n) ++ number (f n) ∷ []) k) (numbered n ∙ sym e) (Contains-push (map number (upto p n)) (number (f n)))
          ]),
        )
    | inr y ↦
        let is : map number (upto p (suc n)) ≡ map number (upto p n) = ap (map number) (more-no p n y) in (
          λ c. let r = (Contains-filter_range p n i).0 (subst (λ (t : List ℕ). Contains t i) is c) in (omega (arith, r.0), r.1),
          λ h. subst (λ (t : List ℕ). Contains t i) (sym is) (elim (cases_last i n h.0) [
            | inl lt ↦ (Contains-filter_range p n i).1 (lt, h.1)
            | inr e ↦ absurd (both_ways (p (f n)) y (ap (λ k. p (f k)) (sym e) ∙ h.1))
          ]),
        )
  ]
    where
      cases_last : (i n : ℕ) → i < suc n → (i < n) ⊎ (i ≡ n)
      cases_last i n l = elim (cases_lt i n) [
        | inl lt ↦ inl lt
        | inr ge ↦ inr (omega (arith, l, ge))
      ]

  -- those that pass a test that differs for the last of them alone are the others
  pub filter_range-without_last : (p q : X → Bool) (n t : ℕ) (xs : List X) (x : X) → filter p (map f (range_with_len 0 n)) ≡ xs ++ x ∷ [] → number x ≡ t
      → ((i : ℕ) → i < n → i ≢ t → p (f i) ≡ q (f i)) → q (f t) ≡ false → p (f t) ≡ true → filter q (map f (range_with_len 0 n)) ≡ xs
  filter_range-without_last p q zero t [] x e k h off on = cc
  filter_range-without_last p q zero t (y ∷ xs) x e k h off on = cc
  filter_range-without_last p q (suc n) t xs x e k h off on = elim (cases_Bool (p (f n))) [
    | inl y ↦
        let both = snoc_parts (upto p n) xs (f n) x (sym (more-yes p n y) ∙ e) in
        let last : n ≡ t = sym (numbered n) ∙ (ap number both.1 ∙ k) in
        more-no q n (ap (λ i. q (f i)) last ∙ off)
        ∙ (sym (filter_range-same p q f f 0 n (λ i le lt. (refl, h i (omega (arith, lt)) (λ same. omega (arith, same, last, lt))))) ∙ both.0)
    | inr y ↦
        let other : n ≢ t = λ same. both_ways (p (f n)) y (ap (λ i. p (f i)) same ∙ on) in
        more-no q n (sym (h n (omega arith) other) ∙ y)
        ∙ filter_range-without_last p q n t xs x (sym (more-no p n y) ∙ e) k (λ i lt. h i (omega (arith, lt))) off on
  ]

-- ---- two lists of which something is read

-- what is read of the elements at a place, where it is the same of all
pub map-at : {X Y Z : Type 0} (f : X → Z) (g : Y → Z) (xs : List X) (ys : List Y) (i : ℕ) (x : X) (y : Y) → map f xs ≡ map g ys → i < length ys → x ≡ get_or xs i x → y ≡ get_or ys i y → f x ≡ g y
map-at f g [] [] i x y e l p q = absurd (omega (arith, l))
map-at f g [] (b ∷ ys) i x y e l p q = cc
map-at f g (a ∷ xs) [] i x y e l p q = cc
map-at f g (a ∷ xs) (b ∷ ys) zero x y e l p q = let same : f a ≡ g b = cc in ap f p ∙ same ∙ ap g (sym q)
map-at f g (a ∷ xs) (b ∷ ys) (suc i) x y e l p q = let rest : map f xs ≡ map g ys = cc in map-at f g xs ys i x y rest (omega (arith, l)) p q

-- one more place
pub map-more : {X Y Z : Type 0} (f : X → Z) (g : Y → Z) (xs : List X) (ys : List Y) (i : ℕ) (x : X) (y : Y) → i < length xs → i < length ys → x ≡ get_or xs i x → y ≡ get_or ys i y → f x ≡ g y → map f (take i xs) ≡ map g (take i ys) → map f (take (i + 1) xs) ≡ map g (take (i + 1) ys)
map-more f g xs ys i x y l m p q e same =
    let front : take (i + 1) xs ≡ take i xs ++ x ∷ [] = take_more xs i x l ∙ ap (λ z. take i xs ++ z ∷ []) (sym p) in
    let back : take (i + 1) ys ≡ take i ys ++ y ∷ [] = take_more ys i y m ∙ ap (λ z. take i ys ++ z ∷ []) (sym q) in
    rw (front, back, map-append, map-append, same, e) refl
