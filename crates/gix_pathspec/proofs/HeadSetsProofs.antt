-- The next spec of several sets, and what sets say together.
use Rattle.std.proofs.Common.{◌≡◌, ℕ, zero, suc, ◌+◌, ◌<◌, ◌≤◌, Bool, true, false, ◌||◌, inl, inr, refl, sym, ◌∙◌, ap, subst, arith, All, List, [], ◌∷◌, ◌++◌, length, min, take, get_or, ◌⊎◌, Option, Some, None, slice_get}
use Rattle.std.specs.Prelude.{IfSome}
use Rattle.std.proofs.Math.ListN.{set}
use Rattle.std.proofs.Math.Seq.{map-set_same}
use Rattle.std.proofs.lemmas.List.Elements.{All-set}
use Rattle.std.proofs.lemmas.Bool.{cases_lt, or_cases}
use Rattle.std.proofs.lemmas.List.{get_or-map, length-map, take_all, take_more}
use Rattle.pathspec_heads.specs.Groups.{earlier}
use Rattle.gix_pathspec.specs.declared.by_head.head_set.HeadSet.{HeadSet}
use Rattle.gix_pathspec.specs.Specs.{Spec}
use Rattle.gix_pathspec.specs.Search.{Numbered}
use Rattle.gix_pathspec.specs.Sets.{IsNext, IsNextAt, NoneBetween}
use Rattle.gix_pathspec.specs.SetSources.{is_of_head, is_of_heads}
use Rattle.gix_pathspec.specs.HeadSets.{set_heads, IsGlobHit, IsNextOf, NoneBarred}
use Rattle.gix_pathspec.specs.Bytes.{begins_with}
use Rattle.gix_pathspec.specs.EndBytes.{has_wildcard_at}
use Rattle.gix_pathspec.proofs.HeadSearchProofs.{got-within}

-- ---- of two next specs the first is next

module _ (p q r : Spec → Bool) (cover : (s : Spec) → r s ≡ true → (p s ≡ true) ⊎ (q s ≡ true)) (specs : List Numbered) (path : List ℕ) (from : ℕ) where
  both : (to : ℕ) → NoneBetween p specs path from to → NoneBetween q specs path from to → NoneBetween r specs path from to
  both to left right k n a l is so = elim (cover n.spec so) [ inl m ↦ left k n a l is m | inr m ↦ right k n a l is m ]

  fewer : (is_so : Spec → Bool) (to less : ℕ) → less ≤ to → NoneBetween is_so specs path from to → NoneBetween is_so specs path from less
  fewer is_so to less low none k n a l is so = none k n a (omega (arith, l, low)) is so

  within : (is_so : Spec → Bool) (place : ℕ) → IsNextAt is_so specs path from place → place ≤ length specs
  within is_so place n = omega (arith, got-within specs place n.headed.0 n.headed.1)

  pub next-of-both : (left right : Option ℕ) → IsNext p specs path from left → IsNext q specs path from right → IsNext r specs path from (earlier left right)
  next-of-both None None l m = both (length specs) l m
  next-of-both (Some a) None l m = record { behind = l.behind; headed = l.headed; others = both a l.others (fewer q (length specs) a (within p a l) m) }
  next-of-both None (Some b) l m = record { behind = m.behind; headed = m.headed; others = both b (fewer p (length specs) b (within q b m) l) m.others }
  next-of-both (Some a) (Some b) l m = elim (cases_lt a b) [
    | inl less ↦
        let is : a ≡ min a b = omega (arith, less) in
        subst (IsNextAt r specs path from) is (record { behind = l.behind; headed = l.headed; others = both a l.others (fewer q b a (omega (arith, less)) m.others) })
    | inr g ↦
        let is : b ≡ min a b = omega (arith, g) in
        subst (IsNextAt r specs path from) is (record { behind = m.behind; headed = m.headed; others = both b (fewer p a b g l.others) m.others })
  ]

-- what is so of both places is so of the first
pub hit-of-both : (P : ℕ → Type 0) (left right : Option ℕ) → IfSome left P → IfSome right P → IfSome (earlier left right) P
hit-of-both P None None l m = tt
hit-of-both P (Some a) None l m = l
hit-of-both P None (Some b) l m = m
hit-of-both P (Some a) (Some b) l m = elim (cases_lt a b) [
  | inl less ↦ let is : a ≡ min a b = omega (arith, less) in subst P is l
  | inr g ↦ let is : b ≡ min a b = omega (arith, g) in subst P is m
]

-- ---- one head more

pub of-more : (hs : List (List ℕ)) (h : List ℕ) (s : Spec) → is_of_heads (hs ++ h ∷ []) s ≡ true → (is_of_heads hs s ≡ true) ⊎ (is_of_head h s ≡ true)
of-more [] h s e = elim (or_cases (is_of_head h s) false e) [ inl m ↦ inr m | inr m ↦ inl m ]
of-more (g ∷ hs) h s e = elim (or_cases (is_of_head g s) (is_of_heads (hs ++ h ∷ []) s) e) [
  | inl m ↦ inl (or-true-left (is_of_head g s) (is_of_heads hs s) m)
  | inr m ↦ elim (of-more hs h s m) [
    | inl k ↦ inl (or-true-right (is_of_head g s) (is_of_heads hs s) k)
    | inr k ↦ inr k
  ]
]
  where
    or-true-left : (a b : Bool) → a ≡ true → (a || b) ≡ true
    or-true-left true b m = refl
    or-true-left false b m = cc

    or-true-right : (a b : Bool) → b ≡ true → (a || b) ≡ true
    or-true-right true b m = refl
    or-true-right false b m = m

-- the heads of the first so many sets, and of one more
heads-more : (sets : List HeadSet) (i : ℕ) (set : HeadSet) → i < length sets → set ≡ get_or sets i set → take (i + 1) (set_heads sets) ≡ take i (set_heads sets) ++ set.head ∷ []
heads-more sets i set l is =
    let low : i < length (set_heads sets) = omega (arith, l, length-map sets (λ (s : HeadSet). s.head)) in
    let there = get_or-map (λ (s : HeadSet). s.head) sets i set [] l in
    take_more (set_heads sets) i [] low ∙ ap (λ h. take i (set_heads sets) ++ h ∷ []) (there ∙ ap (λ (s : HeadSet). s.head) (sym is))

-- the next spec of one set more
pub next-more : (specs : List Numbered) (path : List ℕ) (from : ℕ) (sets : List HeadSet) (i : ℕ) (set : HeadSet) → i < length sets → set ≡ get_or sets i set
    → (next place : Option ℕ) → IsNext (is_of_heads (take i (set_heads sets))) specs path from next → IsNext (is_of_head set.head) specs path from place
    → IsNext (is_of_heads (take (i + 1) (set_heads sets))) specs path from (earlier next place)
next-more specs path from sets i set l is next place so_far one =
    let hs = take i (set_heads sets) in
    subst (λ gs. IsNext (is_of_heads gs) specs path from (earlier next place)) (sym (heads-more sets i set l is))
    (next-of-both (is_of_heads hs) (is_of_head set.head) (is_of_heads (hs ++ set.head ∷ [])) (of-more hs set.head) specs path from next place so_far one)

-- ---- a loop over sets

-- a set whose head stays is put in the place of another
pub heads-kept : (sets : List HeadSet) (i : ℕ) (old new : HeadSet) → old ≡ get_or sets i old → new.head ≡ old.head → set_heads (set sets i new) ≡ set_heads sets
heads-kept sets i old new is same = map-set_same (λ (s : HeadSet). s.head) sets i new old (same ∙ ap (λ (s : HeadSet). s.head) is)

-- one set more is asked for the next spec
pub next-step : (specs : List Numbered) (path : List ℕ) (from : ℕ) (begun sets : List HeadSet) (i : ℕ) (old new : HeadSet) (next place : Option ℕ) → i < length sets → old ≡ get_or sets i old
    → set_heads sets ≡ set_heads begun → IsNext (is_of_heads (take i (set_heads begun))) specs path from next → All (IsNextOf specs path from) sets → IfSome next (IsGlobHit specs path)
    → IsNext (is_of_head old.head) specs path from place → IsNextOf specs path from new → IfSome place (IsGlobHit specs path)
    → IsNext (is_of_heads (take (i + 1) (set_heads begun))) specs path from (earlier next place) × All (IsNextOf specs path from) (set sets i new) × IfSome (earlier next place) (IsGlobHit specs path)
next-step specs path from begun sets i old new next place l is heads first all hit one its own = (
  subst (λ hs. IsNext (is_of_heads (take (i + 1) hs)) specs path from (earlier next place)) heads
      (next-more specs path from sets i old l is next place (subst (λ hs. IsNext (is_of_heads (take i hs)) specs path from next) (sym heads) first) one),
  All-set (IsNextOf specs path from) sets i new its all,
  hit-of-both (IsGlobHit specs path) next place hit own,
)

-- in the end these are all sets
pub next-whole : (specs : List Numbered) (path : List ℕ) (from : ℕ) (hs : List (List ℕ)) (i : ℕ) (next : Option ℕ) → length hs ≤ i → IsNext (is_of_heads (take i hs)) specs path from next → IsNext (is_of_heads hs) specs path from next
next-whole specs path from hs i next end first = subst (λ gs. IsNext (is_of_heads gs) specs path from next) (take_all i hs end) first

-- ---- one set of a list

pub slice-set_same : {X : Type 0} (xs : List X) (i : ℕ) (v : X) → i < length xs → slice_get (set xs i v) i ≡ Some v
slice-set_same [] i v l = absurd (let no : ⊥ = omega (arith, l) in no)
slice-set_same (x ∷ xs) zero v l = refl
slice-set_same (x ∷ xs) (suc i) v l = slice-set_same xs i v (omega (arith, l))

pub slice-set_other : {X : Type 0} (xs : List X) (i : ℕ) (v : X) (k : ℕ) (x : X) → k < i → slice_get xs k ≡ Some x → slice_get (set xs i v) k ≡ Some x
slice-set_other [] i v k x l e = cc
slice-set_other (y ∷ xs) zero v k x l e = absurd (let no : ⊥ = omega (arith, l) in no)
slice-set_other (y ∷ xs) (suc i) v zero x l e = e
slice-set_other (y ∷ xs) (suc i) v (suc k) x l e = slice-set_other xs i v k x (omega (arith, l)) e

-- no wildcard byte stands in a path right behind the head of one of the sets, if it begins the path
pub barred-at : (path : List ℕ) (begun sets : List HeadSet) (i : ℕ) (old : HeadSet) → NoneBarred path (set_heads begun) → set_heads sets ≡ set_heads begun → i < length sets → old ≡ get_or sets i old
    → begins_with path old.head ≡ true → has_wildcard_at path (length old.head) ≡ false
barred-at path begun sets i old none heads l is =
    let low : i < length (set_heads begun) = omega (arith, l, length-map sets (λ (s : HeadSet). s.head), ap (λ (hs : List (List ℕ)). length hs) heads) in
    let there : get_or (set_heads begun) i [] ≡ old.head = ap (λ hs. get_or hs i []) (sym heads) ∙ get_or-map (λ (s : HeadSet). s.head) sets i old [] l ∙ ap (λ (s : HeadSet). s.head) (sym is) in
    subst (λ h. begins_with path h ≡ true → has_wildcard_at path (length h) ≡ false) there (none i [] low)

-- what no wildcard byte bars so far, and behind one head more
pub unbarred-more : (path : List ℕ) (begun sets : List HeadSet) (i : ℕ) (old : HeadSet) → set_heads sets ≡ set_heads begun → i < length sets → old ≡ get_or sets i old
    → ((k : ℕ) (d : List ℕ) → k < i → begins_with path (get_or (set_heads begun) k d) ≡ true → has_wildcard_at path (length (get_or (set_heads begun) k d)) ≡ false)
    → (begins_with path old.head ≡ true → has_wildcard_at path (length old.head) ≡ false)
    → (k : ℕ) (d : List ℕ) → k < i + 1 → begins_with path (get_or (set_heads begun) k d) ≡ true → has_wildcard_at path (length (get_or (set_heads begun) k d)) ≡ false
unbarred-more path begun sets i old heads l is so_far one k d low = elim (cases_lt k i) [
  | inl less ↦ so_far k d less
  | inr g ↦
      let here : k ≡ i = omega (arith, low, g) in
      let there : get_or (set_heads begun) k d ≡ old.head =
      ap (λ j. get_or (set_heads begun) j d) here ∙ ap (λ hs. get_or hs i d) (sym heads) ∙ get_or-map (λ (s : HeadSet). s.head) sets i old d l ∙ ap (λ (s : HeadSet). s.head) (sym is) in
      subst (λ h. begins_with path h ≡ true → has_wildcard_at path (length h) ≡ false) (sym there) one
]
