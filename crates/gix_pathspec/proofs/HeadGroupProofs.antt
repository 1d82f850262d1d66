-- Sources in groups of one head: a star ends each head, so that no head begins another.
use Rattle.std.proofs.Common.{◌≡◌, ℕ, zero, suc, ◌+◌, ◌-◌, ◌<◌, ◌≤◌, ◌==◌, Bool, true, false, cond, inl, inr, refl, sym, ◌∙◌, ap, arith, List, [], ◌∷◌, ◌++◌, length, take, get_or, Option, Some, None, slice_get, append-nil, length-take}
use Rattle.std.specs.Prelude.{IsSomeAnd}
use Rattle.std.specs.List.{list_any}
use Rattle.std.proofs.lemmas.Bool.{and_parts, both_ways, cases_Bool, eqb-true, or_parts}
use Rattle.std.proofs.lemmas.List.{take_all, take_more}
use Rattle.std.proofs.lemmas.Option.{get_or_from_slice_get}
use Rattle.std.proofs.lemmas.Slice.Eq.{bytes_eq-Decides}
use Rattle.pathspec_glob.specs.Bytes.{star}
use Rattle.pathspec_heads.specs.Heads.{head_at}
use Rattle.pathspec_heads.specs.Groups.{IsLeastFrom}
use Rattle.pathspec_heads.proofs.CandidateProofs.{IsCandidate}
use Rattle.gix_pathspec.specs.Bytes.{begins_with, is_wildcard}
use Rattle.gix_pathspec.specs.SetSources.{ended, ended_heads, is_behind, positions_from, SetSource}
use Rattle.gix_pathspec.proofs.HeadSearchProofs.{element-within, got-within}
use Rattle.gix_pathspec.proofs.BeginsProofs.{begins_with-from_front, front-itself}
use Rattle.gix_pathspec.proofs.PositionProofs.{positions-more}

-- ---- a star behind the head

-- a head without a wildcard byte begins, with its star, no other that has one
pub ended-same : (h g : List ℕ) → list_any is_wildcard h ≡ false → begins_with (ended h) (ended g) ≡ true → g ≡ h
ended-same [] [] plain on = refl
ended-same [] (c ∷ []) plain on = let p = and_parts (c == star) (begins_with [] (star ∷ [])) on in let no : false ≡ true = p.1 in cc
ended-same [] (c ∷ d ∷ g) plain on = let p = and_parts (c == star) (begins_with [] (ended (d ∷ g))) on in let no : false ≡ true = p.1 in cc
ended-same (b ∷ h) [] plain on =
    let p = and_parts (star == b) (begins_with (ended h) []) on in
    let is : star ≡ b = eqb-true star b p.0 in
    let q = or_parts (is_wildcard b) (list_any is_wildcard h) plain in
    let no : true ≡ false = ap is_wildcard is ∙ q.0 in
    cc
ended-same (b ∷ h) (c ∷ g) plain on =
    let p = and_parts (c == b) (begins_with (ended h) (ended g)) on in
    let first : c ≡ b = eqb-true c b p.0 in
    let q = or_parts (is_wildcard b) (list_any is_wildcard h) plain in
    let rest : g ≡ h = ended-same h g q.1 p.1 in
    cc

ended-itself : (h : List ℕ) → begins_with (ended h) (ended h) ≡ true
ended-itself h = begins_with-from_front (ended h) (ended h) (front-itself (ended h))

-- so such texts tell heads apart
pub ended-is : (h : List ℕ) (source : SetSource) → list_any is_wildcard h ≡ false → begins_with (ended h) (ended source.head) ≡ is_behind h source
ended-is h source plain = elim (cases_Bool (is_behind h source)) [
  | inl e ↦ ap (λ g. begins_with (ended h) (ended g)) ((bytes_eq-Decides source.head h).0 e) ∙ ended-itself h ∙ sym e
  | inr e ↦ elim (cases_Bool (begins_with (ended h) (ended source.head))) [
    | inl on ↦ absurd (both_ways (is_behind h source) e ((bytes_eq-Decides source.head h).1 (ended-same h source.head plain on)))
    | inr off ↦ off ∙ sym e
  ]
]

-- the places of the texts that such a text begins with are the numbers of the sources with its head
pub numbers-of-group : (h : List ℕ) (r : ℕ) (sources : List SetSource) → list_any is_wildcard h ≡ false
    → positions_from (begins_with (ended h)) r (ended_heads sources) ≡ positions_from (is_behind h) r sources
numbers-of-group h r [] plain = refl
numbers-of-group h r (x ∷ sources) plain = rw (ended-is h x plain) (at (is_behind h x) (numbers-of-group h (r + 1) sources plain))
  where
    at : (b : Bool) → positions_from (begins_with (ended h)) (r + 1) (ended_heads sources) ≡ positions_from (is_behind h) (r + 1) sources
        → cond b (r ∷ positions_from (begins_with (ended h)) (r + 1) (ended_heads sources)) (positions_from (begins_with (ended h)) (r + 1) (ended_heads sources))
        ≡ cond b (r ∷ positions_from (is_behind h) (r + 1) sources) (positions_from (is_behind h) (r + 1) sources)
    at true e = ap (λ rs. r ∷ rs) e
    at false e = e

-- ---- a loop over the places of a group

module _ {X : Type 0} (test : X → Bool) (xs : List X) where
  abbrev so_far : ℕ → List ℕ
  so_far n = positions_from test 0 (take n xs)

  -- one place further
  place-more : (n : ℕ) (x : X) → slice_get xs n ≡ Some x → so_far (n + 1) ≡ so_far n ++ cond (test x) (n ∷ []) []
  place-more n x is =
      let low = got-within xs n x is in
      let there : get_or xs n x ≡ x = get_or_from_slice_get xs n x x is in
      let count : 0 + length (take n xs) ≡ n = omega (arith, length-take n xs, low) in
      ap (positions_from test 0) (take_more xs n x low ∙ ap (λ y. take n xs ++ y ∷ []) there)
      ∙ positions-more test 0 (take n xs) x ∙ ap (λ k. so_far n ++ cond (test x) (k ∷ []) []) count

  places-skipped : (k from : ℕ) → from + k ≤ length xs → ((p : ℕ) (x : X) → from ≤ p → p < from + k → slice_get xs p ≡ Some x → test x ≡ false) → so_far (from + k) ≡ so_far from
  places-skipped zero from low none = let e : from + 0 ≡ from = omega arith in ap so_far e
  places-skipped (suc k) from low none =
      let r = element-within xs (from + k) (omega (arith, low)) in
      let e : from + suc k ≡ from + k + 1 = omega arith in
      let off : test r.0 ≡ false = none (from + k) r.0 (omega arith) (omega arith) r.1 in
      ap so_far e ∙ place-more (from + k) r.0 r.1 ∙ ap (λ b. so_far (from + k) ++ cond b ((from + k) ∷ []) []) off ∙ append-nil (so_far (from + k))
      ∙ places-skipped k from (omega (arith, low)) (λ p x a l is. none p x a (omega (arith, l)) is)

  places-to : (from to : ℕ) → from ≤ to → to ≤ length xs → ((p : ℕ) (x : X) → from ≤ p → p < to → slice_get xs p ≡ Some x → test x ≡ false) → so_far to ≡ so_far from
  places-to from to a low none =
      let e : from + (to - from) ≡ to = omega (arith, a) in
      ap so_far (sym e) ∙ places-skipped (to - from) from (omega (arith, low, e)) (λ p x b l is. none p x b (omega (arith, l, e)) is)

module _ (texts : List (List ℕ)) (text : List ℕ) (from : ℕ) where
  off-before : (result : Option ℕ) → IsLeastFrom (IsCandidate texts text) from result → (to : ℕ) → ((p : ℕ) → p < to → IsSomeAnd result (λ q. q ≤ p) → ⊥)
      → (p : ℕ) (t : List ℕ) → from ≤ p → p < to → slice_get texts p ≡ Some t → begins_with text t ≡ false
  off-before result least to away p t a l is = elim (cases_Bool (begins_with text t)) [
    | inr off ↦ off
    | inl on ↦
        let there : head_at texts p ≡ t = get_or_from_slice_get texts p t [] is in
        absurd (away p l (least.first p a (got-within texts p t is, ap (begins_with text) there ∙ on)))
  ]

  -- the next place is added
  pub place-found : (place : ℕ) → IsLeastFrom (IsCandidate texts text) from (Some place)
      → positions_from (begins_with text) 0 (take (place + 1) texts) ≡ positions_from (begins_with text) 0 (take from texts) ++ place ∷ []
  place-found place least =
      let candidate = least.found.1 in
      let r = element-within texts place candidate.0 in
      let there : head_at texts place ≡ r.0 = get_or_from_slice_get texts place r.0 [] r.1 in
      let on : begins_with text r.0 ≡ true = sym (ap (begins_with text) there) ∙ candidate.1 in
      place-more (begins_with text) texts place r.0 r.1 ∙ ap (λ b. positions_from (begins_with text) 0 (take place texts) ++ cond b (place ∷ []) []) on
      ∙ ap (λ ps. ps ++ place ∷ [])
      (places-to (begins_with text) texts from place least.found.0 (omega (arith, candidate.0)) (off-before (Some place) least place (λ p l le. omega (arith, l, le))))

  -- or there is none
  pub no-place-left : IsLeastFrom (IsCandidate texts text) from None → from ≤ length texts → positions_from (begins_with text) 0 (take from texts) ≡ positions_from (begins_with text) 0 texts
  no-place-left least low =
      sym (places-to (begins_with text) texts from (length texts) low (omega arith) (off-before None least (length texts) (λ p l le. le)))
      ∙ ap (positions_from (begins_with text) 0) (take_all (length texts) texts (omega arith))

pub all-taken : (texts : List (List ℕ)) (n : ℕ) → length texts ≤ n → take n texts ≡ texts
all-taken texts n low = take_all n texts low
