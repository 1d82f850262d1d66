-- How far texts agree, step by step, and what stands between two texts that agree.
use Rattle.std.proofs.Common.{◌≡◌, ◌≢◌, ℕ, suc, zero, ◌+◌, ◌<◌, ◌≤◌, Bool, true, false, ltb, inl, inr, refl, sym, ◌∙◌, ap, List, [], ◌∷◌, ◌++◌, length, get_or, arith, nat_eq, take}
use Rattle.std.proofs.lemmas.Bool.{cases_Bool, cases_lt, false≢true, false_from_ne_true}
use Rattle.std.proofs.lemmas.List.Sums.{common_prefix_len-le}
use Rattle.std.proofs.lemmas.Bool.Decides.{nat_tests}
use Rattle.pathspec_glob.specs.Bytes.{begins_with}
use Rattle.pathspec_heads.specs.Agreement.{agreement, is_behind}

pub agreement-more : (x y : List ℕ) (n : ℕ) → n ≤ agreement x y → n < length x → n < length y → get_or x n 0 ≡ get_or y n 0 → n + 1 ≤ agreement x y
agreement-more [] y n h i j e = absurd (omega (arith, i))
agreement-more (b ∷ x) [] n h i j e = absurd (omega (arith, j))
agreement-more (b ∷ x) (c ∷ y) zero h i j e = grind (arith, nat_tests)
agreement-more (b ∷ x) (c ∷ y) (suc n) h i j e = grind (arith, nat_tests, agreement-more x y n)

pub agreement-front : (x y : List ℕ) → begins_with y x ≡ true → length x ≤ agreement x y
agreement-front [] y h = omega arith
agreement-front (b ∷ x) [] h = cc
agreement-front (b ∷ x) (c ∷ y) h = grind (arith, nat_tests, agreement-front x y)

pub front-agreement : (x y : List ℕ) → length x ≤ agreement x y → begins_with y x ≡ true
front-agreement [] y h = refl
front-agreement (b ∷ x) [] h = absurd (omega (arith, h))
front-agreement (b ∷ x) (c ∷ y) h = grind (arith, nat_tests, front-agreement x y)

pub not_behind : (x y : List ℕ) → length x ≤ agreement x y → is_behind x y ≡ false
not_behind [] [] h = refl
not_behind [] (c ∷ y) h = refl
not_behind (b ∷ x) [] h = absurd (omega (arith, h))
not_behind (b ∷ x) (c ∷ y) h = grind (arith, nat_tests, not_behind x y)

-- what stands between two texts that agree with a third one in n bytes agrees in them too
pub squeezed : (n : ℕ) (l m h t : List ℕ) → n ≤ agreement l t → n ≤ agreement h t → is_behind l m ≡ false → is_behind m h ≡ false → n ≤ agreement m t
squeezed zero l m h t a b p q = omega arith
squeezed (suc n) [] m h t a b p q = absurd (omega (arith, a))
squeezed (suc n) (x ∷ l) m h [] a b p q = absurd (omega (arith, a))
squeezed (suc n) (x ∷ l) m [] (y ∷ t) a b p q = absurd (omega (arith, b))
squeezed (suc n) (x ∷ l) [] (z ∷ h) (y ∷ t) a b p q = cc
squeezed (suc n) (x ∷ l) (w ∷ m) (z ∷ h) (y ∷ t) a b p q = grind (arith, nat_tests, squeezed n l m h t)

-- a text that agrees further with the later of two than the earlier does: the earlier is not behind it
pub below-shared : (x y t : List ℕ) → is_behind x y ≡ false → agreement x y < agreement y t → (is_behind x t ≡ false) × (agreement x y ≡ agreement x t)
below-shared [] y [] p a = (refl, refl)
below-shared [] y (d ∷ t) p a = (refl, refl)
below-shared (b ∷ x) [] t p a = cc
below-shared (b ∷ x) (c ∷ y) [] p a = absurd (omega (arith, a))
below-shared (b ∷ x) (c ∷ y) (d ∷ t) p a = grind (arith, nat_tests, below-shared x y t)

-- a text that agrees further with the earlier of two than the later does: the later is behind it
pub above-shared : (x y t : List ℕ) → is_behind x y ≡ false → agreement x y < agreement x t → is_behind y t ≡ true
above-shared [] y t p a = absurd (omega (arith, a))
above-shared (b ∷ x) [] t p a = cc
above-shared (b ∷ x) (c ∷ y) [] p a = absurd (omega (arith, a))
above-shared (b ∷ x) (c ∷ y) (d ∷ t) p a = grind (arith, nat_tests, above-shared x y t)

-- where one of two texts agrees with a third one further than the other does, the two agree as far as that other
pub agreement-nearer : (x y t : List ℕ) → agreement x t < agreement y t → agreement x y ≡ agreement x t
agreement-nearer [] y [] a = refl
agreement-nearer [] y (d ∷ t) a = refl
agreement-nearer (b ∷ x) [] t a = absurd (omega (arith, a))
agreement-nearer (b ∷ x) (c ∷ y) [] a = absurd (omega (arith, a))
agreement-nearer (b ∷ x) (c ∷ y) (d ∷ t) a = grind (arith, nat_tests, agreement-nearer x y t)

-- where a text agrees with a third one further than with another, that other agrees with the third one no further
pub agreement-passed : (x y t : List ℕ) → agreement x y < agreement x t → agreement y t ≤ agreement x t
agreement-passed x y t l = elim (cases_lt (agreement x t) (agreement y t)) [
  | inl more ↦ absurd (omega (arith, agreement-nearer x y t more, l))
  | inr few ↦ few
]

-- the text ends where the head still goes on
pub agreement-text_ends : (x y : List ℕ) → length y ≤ agreement x y → length y < length x → (length y ≡ agreement x y) × (true ≡ is_behind x y)
agreement-text_ends [] y h i = absurd (omega (arith, i))
agreement-text_ends (b ∷ x) [] h i = (refl, refl)
agreement-text_ends (b ∷ x) (c ∷ y) h i = grind (arith, nat_tests, agreement-text_ends x y)

-- the head ends
pub agreement-head_ends : (x y : List ℕ) → length x ≤ agreement x y → (length x ≡ agreement x y) × (false ≡ is_behind x y)
agreement-head_ends [] [] h = (refl, refl)
agreement-head_ends [] (c ∷ y) h = (refl, refl)
agreement-head_ends (b ∷ x) [] h = absurd (omega (arith, h))
agreement-head_ends (b ∷ x) (c ∷ y) h = grind (arith, nat_tests, agreement-head_ends x y)

-- two bytes differ
pub agreement-apart : (x y : List ℕ) (n : ℕ) → n ≤ agreement x y → n < length x → n < length y → get_or x n 0 ≢ get_or y n 0 → (n ≡ agreement x y) × (ltb (get_or y n 0) (get_or x n 0) ≡ is_behind x y)
agreement-apart [] y n h i j e = absurd (omega (arith, i))
agreement-apart (b ∷ x) [] n h i j e = absurd (omega (arith, j))
agreement-apart (b ∷ x) (c ∷ y) zero h i j e = grind (arith, nat_tests)
agreement-apart (b ∷ x) (c ∷ y) (suc n) h i j e = grind (arith, nat_tests, agreement-apart x y n)

-- a text that goes on agrees in as many bytes at least
pub agreement-longer : (x y z : List ℕ) → agreement x y ≤ agreement x (y ++ z)
agreement-longer [] y z = omega arith
agreement-longer (b ∷ x) [] z = omega arith
agreement-longer (b ∷ x) (c ∷ y) z = grind (arith, nat_tests, agreement-longer x y z)

pub agreement-self : (x : List ℕ) → length x ≤ agreement x x
agreement-self [] = omega arith
agreement-self (b ∷ x) = grind (arith, nat_tests, agreement-self x)

pub agreement-sym : (x y : List ℕ) → agreement x y ≡ agreement y x
agreement-sym [] [] = refl
agreement-sym [] (c ∷ y) = refl
agreement-sym (b ∷ x) [] = refl
agreement-sym (b ∷ x) (c ∷ y) = grind (arith, nat_tests, agreement-sym x y)

-- no behind, from text to text
pub not_behind-through : (x y z : List ℕ) → is_behind x y ≡ false → is_behind y z ≡ false → is_behind x z ≡ false
not_behind-through [] y [] p q = refl
not_behind-through [] y (d ∷ z) p q = refl
not_behind-through (b ∷ x) [] z p q = cc
not_behind-through (b ∷ x) (c ∷ y) [] p q = cc
not_behind-through (b ∷ x) (c ∷ y) (d ∷ z) p q = grind (arith, nat_tests, not_behind-through x y z)

pub begins-through : (x y z : List ℕ) → begins_with y x ≡ true → begins_with z y ≡ true → begins_with z x ≡ true
begins-through [] y z p q = refl
begins-through (b ∷ x) [] z p q = cc
begins-through (b ∷ x) (c ∷ y) [] p q = cc
begins-through (b ∷ x) (c ∷ y) (d ∷ z) p q = grind (arith, nat_tests, begins-through x y z)

-- a front of a text that is no longer than n begins the first n bytes of the text
pub begins-take : (x t : List ℕ) (n : ℕ) → begins_with t x ≡ true → length x ≤ n → begins_with (take n t) x ≡ true
begins-take [] t n h l = refl
begins-take (b ∷ x) [] n h l = cc
begins-take (b ∷ x) (c ∷ t) zero h l = absurd (omega (arith, l))
begins-take (b ∷ x) (c ∷ t) (suc n) h l = grind (arith, nat_tests, begins-take x t n)

pub take-begins : (x t : List ℕ) (n : ℕ) → begins_with (take n t) x ≡ true → (begins_with t x ≡ true) × (length x ≤ n)
take-begins [] t n h = (refl, omega arith)
take-begins (b ∷ x) [] zero h = cc
take-begins (b ∷ x) [] (suc n) h = cc
take-begins (b ∷ x) (c ∷ t) zero h = cc
take-begins (b ∷ x) (c ∷ t) (suc n) h = grind (arith, nat_tests, take-begins x t n)

-- a front of a text begins what stands between the two
pub begins-between : (x m t : List ℕ) → begins_with t x ≡ true → is_behind x m ≡ false → is_behind m t ≡ false → begins_with m x ≡ true
begins-between x m t h p q =
    let in_x : length x ≤ agreement x x = agreement-self x in
    let in_t : length x ≤ agreement t x = omega (arith, agreement-front x t h, agreement-sym x t) in
    front-agreement x m (omega (arith, squeezed (length x) x m t x in_x in_t p q, agreement-sym x m))

pub both : (a b : Bool) → (a ≡ true → b ≡ true) → (b ≡ true → a ≡ true) → a ≡ b
both true b f g = sym (f refl)
both false true f g = g refl
both false false f g = refl

-- a front is not behind
pub begins-not_behind : (x t : List ℕ) → begins_with t x ≡ true → is_behind x t ≡ false
begins-not_behind x t h = not_behind x t (agreement-front x t h)

-- what agrees with a text no longer begins it where it is behind
pub behind-not_front : (x t : List ℕ) → is_behind x t ≡ true → begins_with t x ≡ false
behind-not_front x t h = false_from_ne_true (begins_with t x) (λ e. false≢true (sym (begins-not_behind x t e) ∙ h))

-- what stands behind what is behind
pub behind-further : (x y t : List ℕ) → is_behind x t ≡ true → is_behind x y ≡ false → is_behind y t ≡ true
behind-further x y t h p = elim (cases_Bool (is_behind y t)) [
  | inl s ↦ s
  | inr s ↦ absurd (false≢true (sym (not_behind-through x y t p s) ∙ h))
]

pub same_agreed : (n : ℕ) (x t : List ℕ) → n ≤ agreement x t → take n x ≡ take n t
same_agreed zero x t h = refl
same_agreed (suc n) [] t h = absurd (omega (arith, h))
same_agreed (suc n) (b ∷ x) [] h = absurd (omega (arith, h))
same_agreed (suc n) (b ∷ x) (c ∷ t) h = grind (arith, nat_tests, same_agreed n x t)

-- What stands at or before x, which is not behind the text, begins the text exactly where it begins what x and the text have in common.
pub same_fronts : (h x t : List ℕ) → is_behind h x ≡ false → is_behind x t ≡ false → begins_with (take (agreement x t) x) h ≡ begins_with t h
same_fronts h x t p q =
    let n = agreement x t in
    both (begins_with (take n x) h) (begins_with t h)
    (λ e. (take-begins h t n (ap (λ y. begins_with y h) (sym (same_agreed n x t (omega arith))) ∙ e)).0)
    (λ e.
    let in_x = begins-between h x t e p q in
    let in_h : length h ≤ agreement h h = agreement-self h in
    let shorter : length h ≤ n = squeezed (length h) h x t t (agreement-front h t e) (omega (arith, agreement-front h t e, agreement-self t, common_prefix_len-le nat_eq h t)) p q in
    begins-take h x n in_x shorter)
