-- What a walk sees of a tree, and the next entry that it sees.
use Rattle.std.proofs.Common.{◌≡◌, ℕ, zero, suc, ◌+◌, ◌-◌, ◌<◌, ◌≤◌, Bool, true, false, refl, sym, ◌∙◌, ap, subst, List, [], ◌∷◌, ◌++◌, length, get_or, drop, arith, inl, inr, Some, None}
use Rattle.std.proofs.lemmas.Bool.{and_parts, and_from, eqb-true, eq-eqb, cases_Bool, cases_lt}
use Rattle.std.proofs.lemmas.List.{length_push, get_or_push, get_or_append_left}
use Rattle.std.proofs.lemmas.List.Elements.{Contains-get_or}
use Rattle.std.proofs.lemmas.List.Folds.{Any-from_list_any, list_any-from_Any}
use Rattle.std.proofs.lemmas.Option.{same_Some}
use Rattle.std.specs.Prelude.{slice_get, Contains, nat_eq}
use Rattle.std.specs.List.{list_all, position_from}
use Rattle.std.specs.List.Sorted.{IsStrictlyIncreasing}
use Rattle.pathspec_glob.specs.Bytes.{is_one_of}
use Rattle.pathspec_parts.specs.Entries.{Entry, is_seen}
use Rattle.pathspec_parts.specs.Cursors.{next_seen}
use Rattle.pathspec_parts.proofs.EntryProofs.{Contains-here, Contains-later}

-- ---- what is seen

-- whether a number is one of a list, both ways
pub one_of-from : (xs : List ℕ) (b : ℕ) → Contains xs b → is_one_of xs b ≡ true
one_of-from xs b c = list_any-from_Any (nat_eq b) xs (c.0, b, c.1, c.2, eq-eqb b b refl)

pub from-one_of : (xs : List ℕ) (b : ℕ) → is_one_of xs b ≡ true → Contains xs b
from-one_of xs b h = let a = Any-from_list_any (nat_eq b) xs h in subst (Contains xs) (sym (eqb-true b a.1 a.4)) (a.0, a.2, a.3)

all_from : (p : ℕ → Bool) (xs : List ℕ) → ((k : ℕ) → Contains xs k → p k ≡ true) → list_all p xs ≡ true
all_from p [] h = refl
all_from p (x ∷ xs) h = and_from (p x) (list_all p xs) (h x (Contains-here x xs)) (all_from p xs (λ k c. h k (Contains-later x k xs c)))

from_all : (p : ℕ → Bool) (xs : List ℕ) (k : ℕ) → list_all p xs ≡ true → Contains xs k → p k ≡ true
from_all p [] k h c = absurd (omega (arith, c.1))
from_all p (x ∷ xs) k h (zero, l, e) = subst (λ j. p j ≡ true) e (and_parts (p x) (list_all p xs) h).0
from_all p (x ∷ xs) k h (suc i, l, e) = from_all p xs k (and_parts (p x) (list_all p xs) h).1 (i, omega (arith, l), e)

-- An entry is seen where each number above it was entered.
pub seen_from : (entered : List ℕ) (e : Entry) → ((m : ℕ) → Contains e.above m → Contains entered m) → is_seen entered e ≡ true
seen_from entered e h = all_from (is_one_of entered) e.above (λ k c. one_of-from entered k (h k c))

pub from_seen : (entered : List ℕ) (e : Entry) (m : ℕ) → is_seen entered e ≡ true → Contains e.above m → Contains entered m
from_seen entered e m h c = from-one_of entered m (from_all (is_one_of entered) e.above m h c)

-- ---- places in lists

get-drop : {X : Type 0} (a : ℕ) (xs : List X) (k : ℕ) → slice_get (drop a xs) k ≡ slice_get xs (a + k)
get-drop zero xs k = let e : k ≡ 0 + k = omega arith in ap (slice_get xs) e
get-drop (suc a) [] k = refl
get-drop (suc a) (x ∷ xs) k = let e : suc (a + k) ≡ suc a + k = omega arith in get-drop a xs k ∙ ap (slice_get (x ∷ xs)) e

-- the first element that passes
abbrev IsFirst : {X : Type 0} → (X → Bool) → List X → ℕ → Type 0
IsFirst {X} p xs k = ((x : X) × (slice_get xs k ≡ Some x) × (p x ≡ true)) × ((j : ℕ) (y : X) → j < k → slice_get xs j ≡ Some y → p y ≡ false)

first-later : {X : Type 0} (p : X → Bool) (x : X) (xs : List X) (k : ℕ) → p x ≡ false → IsFirst p xs k → IsFirst p (x ∷ xs) (suc k)
first-later {X} p x xs k f h = (h.0, before)
  where
    before : (j : ℕ) (y : X) → j < suc k → slice_get (x ∷ xs) j ≡ Some y → p y ≡ false
    before zero y l e = subst (λ z. p z ≡ false) (same_Some x y e) f
    before (suc j) y l e = h.1 j y (omega (arith, l)) e

position-some : {X : Type 0} (p : X → Bool) (i n : ℕ) (xs : List X) → position_from p i xs ≡ Some n → (k : ℕ) × (n ≡ i + k) × IsFirst p xs k
position-some p i n [] h = cc
position-some p i n (x ∷ xs) h = elim (cases_Bool (p x)) [
  | inl y ↦
      let same : i ≡ n = same_Some i n (rw y at h) in
      (0, omega (arith, same), ((x, refl, y), λ j z l e. absurd (omega (arith, l))))
  | inr f ↦
      let r = position-some p (i + 1) n xs (rw f at h) in
      (suc r.0, omega (arith, r.1), first-later p x xs r.0 f r.2)
]

none-later : {X : Type 0} (p : X → Bool) (x : X) (xs : List X) → p x ≡ false → ((j : ℕ) (y : X) → slice_get xs j ≡ Some y → p y ≡ false) → (j : ℕ) (y : X) → slice_get (x ∷ xs) j ≡ Some y → p y ≡ false
none-later p x xs f h zero y e = subst (λ z. p z ≡ false) (same_Some x y e) f
none-later p x xs f h (suc j) y e = h j y e

position-none : {X : Type 0} (p : X → Bool) (i : ℕ) (xs : List X) → position_from p i xs ≡ None → (j : ℕ) (y : X) → slice_get xs j ≡ Some y → p y ≡ false
position-none p i [] h = λ j y e. cc
position-none p i (x ∷ xs) h = elim (cases_Bool (p x)) [
  | inl t ↦ λ j y e. let off : Some i ≡ None = rw t at h in cc
  | inr f ↦ none-later p x xs f (position-none p (i + 1) xs (rw f at h))
]

-- and the other way
some-position : {X : Type 0} (p : X → Bool) (i : ℕ) (xs : List X) (k : ℕ) → IsFirst p xs k → position_from p i xs ≡ Some (i + k)
some-position p i [] k h = let off = h.0.1 in cc
some-position p i (x ∷ xs) zero h =
    let y : p x ≡ true = subst (λ z. p z ≡ true) (sym (same_Some x h.0.0 h.0.1)) h.0.2 in
    let e : i ≡ i + 0 = omega arith in
    rw y (ap Some e)
some-position p i (x ∷ xs) (suc k) h =
    let f : p x ≡ false = h.1 0 x (omega arith) refl in
    let e : (i + 1) + k ≡ i + suc k = omega arith in
    rw f (some-position p (i + 1) xs k (h.0, λ j y l s. h.1 (suc j) y (omega (arith, l)) s) ∙ ap Some e)

none-position : {X : Type 0} (p : X → Bool) (i : ℕ) (xs : List X) → ((j : ℕ) (y : X) → slice_get xs j ≡ Some y → p y ≡ false) → position_from p i xs ≡ None
none-position p i [] h = refl
none-position p i (x ∷ xs) h = let f : p x ≡ false = h 0 x refl in rw f (none-position p (i + 1) xs (λ j y s. h (suc j) y s))

-- ---- the next entry that is seen

-- An entry that is seen, and before which from upto on none is.
pub record IsNextSeen (entered : List ℕ) (upto : ℕ) (es : List Entry) (n : ℕ) (e : Entry) : Type 0 where
  pub from : upto ≤ n
  pub stands : slice_get es n ≡ Some e
  pub seen : is_seen entered e ≡ true
  pub unseen : (j : ℕ) (f : Entry) → upto ≤ j → j < n → slice_get es j ≡ Some f → is_seen entered f ≡ false

pub next_seen-entry : (entered : List ℕ) (upto : ℕ) (es : List Entry) (n : ℕ) → next_seen entered upto es ≡ Some n → (e : Entry) × (slice_get es n ≡ Some e)
next_seen-entry entered upto es n h =
    let r = position-some (is_seen entered) upto n (drop upto es) h in
    (r.2.0.0, ap (slice_get es) r.1 ∙ (sym (get-drop upto es r.0) ∙ r.2.0.1))

pub next_seen-some : (entered : List ℕ) (upto : ℕ) (es : List Entry) (n : ℕ) (e : Entry) → next_seen entered upto es ≡ Some n → slice_get es n ≡ Some e → IsNextSeen entered upto es n e
next_seen-some entered upto es n e h s =
    let r = position-some (is_seen entered) upto n (drop upto es) h in
    let x = r.2.0 in
    let there : slice_get es n ≡ Some x.0 = ap (slice_get es) r.1 ∙ (sym (get-drop upto es r.0) ∙ x.1) in
    let same : x.0 ≡ e = same_Some x.0 e (sym there ∙ s) in
    record {
      from = omega (arith, r.1);
      stands = s;
      seen = subst (λ z. is_seen entered z ≡ true) same x.2;
      unseen = λ j f le lt g.
          let at : upto + (j - upto) ≡ j = omega (arith, le) in
          r.2.1 (j - upto) f (omega (arith, r.1, le, lt)) (get-drop upto es (j - upto) ∙ (ap (slice_get es) at ∙ g));
    }

pub next_seen-none : (entered : List ℕ) (upto : ℕ) (es : List Entry) → next_seen entered upto es ≡ None → (j : ℕ) (f : Entry) → upto ≤ j → slice_get es j ≡ Some f → is_seen entered f ≡ false
next_seen-none entered upto es h j f le g =
    let at : upto + (j - upto) ≡ j = omega (arith, le) in
    position-none (is_seen entered) upto (drop upto es) h (j - upto) f (get-drop upto es (j - upto) ∙ (ap (slice_get es) at ∙ g))

pub next_seen-is : (entered : List ℕ) (upto : ℕ) (es : List Entry) (n : ℕ) (e : Entry) → IsNextSeen entered upto es n e → next_seen entered upto es ≡ Some n
next_seen-is entered upto es n e h =
    let at : upto + (n - upto) ≡ n = omega (arith, h.from) in
    some-position (is_seen entered) upto (drop upto es) (n - upto) (
      (e, get-drop upto es (n - upto) ∙ (ap (slice_get es) at ∙ h.stands), h.seen),
      λ j y l s. h.unseen (upto + j) y (omega arith) (omega (arith, l, at)) (sym (get-drop upto es j) ∙ s),
    ) ∙ ap Some at

pub none-next_seen : (entered : List ℕ) (upto : ℕ) (es : List Entry) → ((j : ℕ) (f : Entry) → upto ≤ j → slice_get es j ≡ Some f → is_seen entered f ≡ false) → next_seen entered upto es ≡ None
none-next_seen entered upto es h = none-position (is_seen entered) upto (drop upto es) (λ j y s. h (upto + j) y (omega arith) (sym (get-drop upto es j) ∙ s))

-- ---- rising numbers

-- one more number, greater than all
pub rising-push : (xs : List ℕ) (n : ℕ) → IsStrictlyIncreasing xs → ((m : ℕ) → Contains xs m → m < n) → IsStrictlyIncreasing (xs ++ n ∷ [])
rising-push xs n h below k l = elim (cases_lt (k + 1) (length xs)) [
  | inl lt ↦
      let a : get_or (xs ++ n ∷ []) k 0 ≡ get_or xs k 0 = get_or_append_left xs (n ∷ []) 0 k (omega (arith, lt)) in
      let b : get_or (xs ++ n ∷ []) (k + 1) 0 ≡ get_or xs (k + 1) 0 = get_or_append_left xs (n ∷ []) 0 (k + 1) lt in
      rw (a, b) (h k lt)
  | inr ge ↦
      let long = length_push xs n in
      let at : k + 1 ≡ length xs = omega (arith, ge, l, long) in
      let a : get_or (xs ++ n ∷ []) k 0 ≡ get_or xs k 0 = get_or_append_left xs (n ∷ []) 0 k (omega (arith, at)) in
      let b : get_or (xs ++ n ∷ []) (k + 1) 0 ≡ n = get_or_push xs n 0 (k + 1) (sym at) in
      rw (a, b) (below (get_or xs k 0) (Contains-get_or xs k 0 (omega (arith, at))))
]
