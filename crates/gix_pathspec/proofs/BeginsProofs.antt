-- Fronts of texts: two fronts of one text, and the tests for what begins a text and for what lies below it.
use Rattle.std.proofs.Common.{◌≡◌, ℕ, Bool, true, false, inl, inr, refl, sym, ◌∙◌, ap, List, [], ◌∷◌, ◌++◌, length, take, drop, append_assoc, arith, length-append, ◌⊎◌, subst, ◌==◌, ◌||◌, ◌&&◌}
use Rattle.std.proofs.lemmas.Bool.{and_parts, and_from, eqb-true, eq-eqb, cases_Bool, or_left, or_right}
use Rattle.std.proofs.lemmas.List.{append-nil, map-append, length-map, take-map, drop-map}
use Rattle.std.proofs.lemmas.Slice.Eq.{bytes_eq-Decides}
use Rattle.std.specs.Prelude.{bytes_eq, ◌≤◌}
use Rattle.std.specs.Char.{to_ascii_lowercase}
use Rattle.gix_pathspec.specs.Bytes.{slash, is_empty, begins_with, fold_case}
use Rattle.gix_pathspec.specs.Paths.{is_below, IsBelow, IsAtOrBelow}
use Rattle.gix_pathspec.specs.Prefixes.{IsFrontOf}
use Rattle.gix_pathspec.specs.Stems.{leads_to}
use Rattle.gix_pathspec.specs.Pruning.{agree}

-- ---- what begins a text

pub front-itself : (x : List ℕ) → IsFrontOf x x
front-itself x = ([], sym (append-nil x))

pub front-through : (x y z : List ℕ) → IsFrontOf x y → IsFrontOf y z → IsFrontOf x z
front-through x y z p q = (p.0 ++ q.0, q.1 ∙ (ap (λ t. t ++ q.0) p.1 ∙ append_assoc x p.0 q.0))

pub begins_with-append : (x rest : List ℕ) → begins_with (x ++ rest) x ≡ true
begins_with-append [] rest = refl
begins_with-append (b ∷ x) rest = and_from (b == b) (begins_with (x ++ rest) x) (eq-eqb b b refl) (begins_with-append x rest)

-- the test and the statement
pub begins_with-from_front : (x y : List ℕ) → IsFrontOf x y → begins_with y x ≡ true
begins_with-from_front x y p = rw p.1 (begins_with-append x p.0)

front-cons : (b c : ℕ) (x y : List ℕ) → b ≡ c → IsFrontOf x y → IsFrontOf (b ∷ x) (c ∷ y)
front-cons b c x y e p = (p.0, rw e (ap (λ t. c ∷ t) p.1))

pub front-from_begins_with : (x y : List ℕ) → begins_with y x ≡ true → IsFrontOf x y
front-from_begins_with [] y h = (y, refl)
front-from_begins_with (b ∷ x) [] h = cc
front-from_begins_with (b ∷ x) (c ∷ y) h =
    let p = and_parts (b == c) (begins_with y x) h in
    front-cons b c x y (eqb-true b c p.0) (front-from_begins_with x y p.1)

pub front-from_is_empty : (x y : List ℕ) → is_empty x ≡ true → IsFrontOf x y
front-from_is_empty [] y h = (y, refl)
front-from_is_empty (b ∷ x) y h = cc

-- a front is no longer
pub length-front : (x y : List ℕ) → IsFrontOf x y → length x ≤ length y
length-front x y p = omega (arith, ap length p.1, length-append x p.0)

-- one of two fronts of a text begins the other, and the rests show how
pub two_fronts : (x y a b : List ℕ) → x ++ a ≡ y ++ b → ((e : List ℕ) × (x ≡ y ++ e) × (b ≡ e ++ a)) ⊎ ((e : List ℕ) × (y ≡ x ++ e) × (a ≡ e ++ b))
two_fronts [] y a b h = inr (y, refl, h)
two_fronts (c ∷ x) [] a b h = inl (c ∷ x, refl, sym h)
two_fronts (c ∷ x) (d ∷ y) a b h =
    let first : c ≡ d = cc in
    let rest : x ++ a ≡ y ++ b = cc in
    elim (two_fronts x y a b rest) [
      | inl p ↦ inl (p.0, rw (first, p.1) refl, p.2)
      | inr p ↦ inr (p.0, rw (first, p.1) refl, p.2)
    ]

-- fronts of one text agree as far as both go
pub agree-from_fronts : (x y z : List ℕ) → IsFrontOf x z → IsFrontOf y z → agree x y ≡ true
agree-from_fronts x y z p q = elim (two_fronts x y p.0 q.0 (sym p.1 ∙ q.1)) [
  | inl r ↦ or_left (begins_with x y) (begins_with y x) (begins_with-from_front y x (r.0, r.1))
  | inr r ↦ or_right (begins_with x y) (begins_with y x) (begins_with-from_front x y (r.0, r.1))
]

longer_is : (x y e : List ℕ) → x ≡ y ++ e → length x ≤ length y → IsFrontOf x y
longer_is x y [] p h = ([], sym (append-nil x ∙ (p ∙ append-nil y)))
longer_is x y (c ∷ e) p h = absurd (omega (arith, ap length p, length-append y (c ∷ e)))

-- the shorter front begins the longer one
pub front-from_length : (x y z : List ℕ) → IsFrontOf x z → IsFrontOf y z → length x ≤ length y → IsFrontOf x y
front-from_length x y z p q h = elim (two_fronts x y p.0 q.0 (sym p.1 ∙ q.1)) [
  | inr r ↦ (r.0, r.1)
  | inl r ↦ longer_is x y r.0 r.1 h
]

-- ---- without case

pub folded-append : (f : Bool) (x y : List ℕ) → fold_case f (x ++ y) ≡ fold_case f x ++ fold_case f y
folded-append true x y = map-append to_ascii_lowercase x y
folded-append false x y = refl

pub folded-slash : (f : Bool) (x : List ℕ) → fold_case f (slash ∷ x) ≡ slash ∷ fold_case f x
folded-slash true x = refl
folded-slash false x = refl

pub folded-nil : (f : Bool) → fold_case f [] ≡ []
folded-nil true = refl
folded-nil false = refl

pub length-folded : (f : Bool) (x : List ℕ) → length (fold_case f x) ≡ length x
length-folded true x = length-map x to_ascii_lowercase
length-folded false x = refl

pub front-folded : (f : Bool) (x y : List ℕ) → IsFrontOf x y → IsFrontOf (fold_case f x) (fold_case f y)
front-folded f x y p = (fold_case f p.0, ap (fold_case f) p.1 ∙ folded-append f x p.0)

pub folded-take : (f : Bool) (n : ℕ) (x : List ℕ) → fold_case f (take n x) ≡ take n (fold_case f x)
folded-take true n x = sym (take-map to_ascii_lowercase n x)
folded-take false n x = refl

pub folded-drop : (f : Bool) (n : ℕ) (x : List ℕ) → fold_case f (drop n x) ≡ drop n (fold_case f x)
folded-drop true n x = sym (drop-map to_ascii_lowercase n x)
folded-drop false n x = refl

-- ---- what lies below a text

pub is_below-from_IsBelow : (x d : List ℕ) → IsBelow x d → is_below x d ≡ true
is_below-from_IsBelow x d p = begins_with-from_front (d ++ slash ∷ []) x (p.0, p.1 ∙ sym (append_assoc d (slash ∷ []) p.0))

pub IsBelow-from_is_below : (x d : List ℕ) → is_below x d ≡ true → IsBelow x d
IsBelow-from_is_below x d h = let p = front-from_begins_with (d ++ slash ∷ []) x h in (p.0, p.1 ∙ append_assoc d (slash ∷ []) p.0)

-- nothing, or a slash and more
abbrev pub IsTail : List ℕ → Type 0
IsTail rest = (rest ≡ []) ⊎ ((more : List ℕ) × (rest ≡ slash ∷ more))

-- what lies at or below d is d with a tail
pub tail_of : (x d : List ℕ) → IsAtOrBelow x d → (rest : List ℕ) × (x ≡ d ++ rest) × IsTail rest
tail_of x d h = elim h [
  | inl e ↦ ([], e ∙ sym (append-nil d), inl refl)
  | inr p ↦ (slash ∷ p.0, p.1, inr (p.0, refl))
]

pub IsAtOrBelow-from_tail : (x d rest : List ℕ) → x ≡ d ++ rest → IsTail rest → IsAtOrBelow x d
IsAtOrBelow-from_tail x d rest e t = elim t [
  | inl n ↦ inl (e ∙ (ap (λ r. d ++ r) n ∙ append-nil d))
  | inr p ↦ inr (p.0, e ∙ ap (λ r. d ++ r) p.1)
]

pub folded-tail : (f : Bool) (rest : List ℕ) → IsTail rest → IsTail (fold_case f rest)
folded-tail f rest t = elim t [
  | inl n ↦ inl (ap (fold_case f) n ∙ folded-nil f)
  | inr p ↦ inr (fold_case f p.0, ap (fold_case f) p.1 ∙ folded-slash f p.0)
]

-- a tail that is not empty begins with a slash
pub tail_first : (c : ℕ) (more : List ℕ) → IsTail (c ∷ more) → c ≡ slash
tail_first c more t = elim t [
  | inl n ↦ cc
  | inr p ↦ let e : c ∷ more ≡ slash ∷ p.0 = p.1 in cc
]

-- ---- a stem and a directory that begin one text

below_longer : (x y e : List ℕ) → x ≡ y ++ e → IsTail e → (x ≡ y) ⊎ (is_below x y ≡ true)
below_longer x y e p t = elim (IsAtOrBelow-from_tail x y e p t) [
  | inl q ↦ inl q
  | inr q ↦ inr (is_below-from_IsBelow x y q)
]

-- a tail's front is a tail
pub tail-front : (e a : List ℕ) → IsTail (e ++ a) → IsTail e
tail-front [] a t = inl refl
tail-front (c ∷ e) a t = inr (e, rw (tail_first c (e ++ a) t) refl)

-- one of four tests
pub one_of_four : (a b c d : Bool) → (a ≡ true) ⊎ ((b ≡ true) ⊎ ((c ≡ true) ⊎ (d ≡ true))) → (a || b || c || d) ≡ true
one_of_four true b c d h = refl
one_of_four false true c d h = refl
one_of_four false false true d h = refl
one_of_four false false false true h = refl
one_of_four false false false false h = elim h [ inl p ↦ p | inr p ↦ elim p [ inl q ↦ q | inr q ↦ elim q [ inl r ↦ r | inr r ↦ r ] ] ]

pub which_of_four : (a b c d : Bool) → (a || b || c || d) ≡ true → (a ≡ true) ⊎ ((b ≡ true) ⊎ ((c ≡ true) ⊎ (d ≡ true)))
which_of_four true b c d h = inl refl
which_of_four false true c d h = inr (inl refl)
which_of_four false false true d h = inr (inr (inl refl))
which_of_four false false false d h = inr (inr (inr h))

pub leads_to-from_fronts : (stem d a b : List ℕ) (wild : Bool) → stem ++ a ≡ d ++ b → IsTail b → (wild ≡ false → IsTail a) → leads_to stem wild d ≡ true
leads_to-from_fronts stem d a b wild h tb ta =
    let leads = one_of_four (is_below stem d) (bytes_eq d stem) (is_below d stem) (wild && begins_with d stem) in
    let same : stem ≡ d → leads_to stem wild d ≡ true = λ e. leads (inr (inl ((bytes_eq-Decides d stem).1 (sym e)))) in
    elim (two_fronts stem d a b h) [
      | inl p ↦ elim (below_longer stem d p.0 p.1 (tail-front p.0 a (subst IsTail p.2 tb))) [
        | inl e ↦ same e
        | inr e ↦ leads (inl e)
      ]
      | inr p ↦ elim (cases_Bool wild) [
        | inl w ↦ leads (inr (inr (inr (and_from wild (begins_with d stem) w (begins_with-from_front stem d (p.0, p.1))))))
        | inr w ↦ elim (below_longer d stem p.0 p.1 (tail-front p.0 b (subst IsTail p.2 (ta w)))) [
          | inl e ↦ same (sym e)
          | inr e ↦ leads (inr (inr (inl e)))
        ]
      ]
    ]
