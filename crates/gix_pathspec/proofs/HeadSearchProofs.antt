-- A search among elements by their heads: those whose head doesn't begin a path are passed over.
use Rattle.std.proofs.Common.{◌≡◌, ℕ, suc, zero, ◌+◌, ◌-◌, ◌<◌, ◌≤◌, Bool, true, false, cond, inl, inr, refl, sym, ◌∙◌, ap, subst, List, [], ◌∷◌, length, map, filter, find, drop, arith, slice_get, Some, None, Option}
use Rattle.std.proofs.lemmas.Bool.{cases_Bool}
use Rattle.std.proofs.lemmas.List.{get_or-map, length-map}
use Rattle.std.proofs.lemmas.Option.{get_or_from_slice_get}
use Rattle.pathspec_heads.specs.Heads.{head_at, IsChainOf}
use Rattle.pathspec_heads.specs.Groups.{GroupedPlaces, IsGrouped, IsInChain, IsLeastFrom}
use Rattle.gix_pathspec.specs.Bytes.{begins_with}

-- ---- how many candidates are left

pub got-within : {X : Type 0} (xs : List X) (i : ℕ) (x : X) → slice_get xs i ≡ Some x → i < length xs
got-within [] i x h = cc
got-within (y ∷ xs) zero x h = omega arith
got-within (y ∷ xs) (suc i) x h = omega (arith, got-within xs i x h)

pub element-within : {X : Type 0} (xs : List X) (i : ℕ) → i < length xs → (x : X) × (slice_get xs i ≡ Some x)
element-within [] i l = absurd (omega (arith, l))
element-within (x ∷ xs) zero l = (x, refl)
element-within (x ∷ xs) (suc i) l = element-within xs i (omega (arith, l))

pub drop-all : {X : Type 0} (xs : List X) (n : ℕ) → length xs ≤ n → drop n xs ≡ []
drop-all [] zero h = refl
drop-all [] (suc n) h = refl
drop-all (x ∷ xs) zero h = absurd (omega (arith, h))
drop-all (x ∷ xs) (suc n) h = drop-all xs n (omega (arith, h))

module _ {X : Type 0} (test : X → Bool) where
  -- how many pass the test
  abbrev count : List X → ℕ
  count xs = length (filter test xs)

  count-one : (xs : List X) (p : ℕ) (x : X) → slice_get xs p ≡ Some x → test x ≡ true → count (drop p xs) ≡ count (drop (p + 1) xs) + 1
  count-one [] p x is h = cc
  count-one (y ∷ xs) zero x is h =
      let same : y ≡ x = cc in
      counted-one (test y) (ap test same ∙ h)
    where
      counted-one : (b : Bool) → b ≡ true → length (cond b (y ∷ filter test xs) (filter test xs)) ≡ count xs + 1
      counted-one true h = omega arith
      counted-one false h = cc
  count-one (y ∷ xs) (suc p) x is h = let e : suc (p + 1) ≡ suc p + 1 = omega arith in count-one xs p x is h ∙ ap (λ m. count (drop m (y ∷ xs)) + 1) e

  count-tail : (x : X) (xs : List X) → count xs ≤ count (x ∷ xs)
  count-tail x xs = at (test x)
    where
      at : (b : Bool) → count xs ≤ length (cond b (x ∷ filter test xs) (filter test xs))
      at true = omega arith
      at false = omega arith

  count-drop : (xs : List X) (p : ℕ) → count (drop p xs) ≤ count xs
  count-drop [] zero = omega arith
  count-drop [] (suc p) = omega arith
  count-drop (x ∷ xs) zero = omega arith
  count-drop (x ∷ xs) (suc p) = omega (arith, count-drop xs p, count-tail x xs)

  count-drops : (xs : List X) (a b : ℕ) → a ≤ b → count (drop b xs) ≤ count (drop a xs)
  count-drops [] zero zero h = omega arith
  count-drops [] zero (suc b) h = omega arith
  count-drops [] (suc a) zero h = omega arith
  count-drops [] (suc a) (suc b) h = omega arith
  count-drops (x ∷ xs) zero b h = count-drop (x ∷ xs) b
  count-drops (x ∷ xs) (suc a) zero h = absurd (omega (arith, h))
  count-drops (x ∷ xs) (suc a) (suc b) h = count-drops xs a b (omega (arith, h))

  -- one more is asked that passes the test
  pub few-test : (xs : List X) (from place tested : ℕ) (x : X) → from ≤ place → slice_get xs place ≡ Some x → test x ≡ true
      → tested + count (drop from xs) ≤ count xs → tested + 1 + count (drop (place + 1) xs) ≤ count xs
  few-test xs from place tested x a is h few = omega (arith, few, count-drops xs from place a, count-one xs place x is h)

module _ {X : Type 0} (head : X → List ℕ) (path : List ℕ) where
  -- one more is asked whose head begins the path
  pub few-more : (xs : List X) (from place tested : ℕ) → from ≤ place → place < length xs → begins_with path (head_at (map head xs) place) ≡ true
      → tested + length (filter (λ x. begins_with path (head x)) (drop from xs)) ≤ length (filter (λ x. begins_with path (head x)) xs)
      → tested + 1 + length (filter (λ x. begins_with path (head x)) (drop (place + 1) xs)) ≤ length (filter (λ x. begins_with path (head x)) xs)
  few-more xs from place tested a l h few =
      let r = element-within xs place l in
      let headed : head_at (map head xs) place ≡ head r.0 = get_or-map head xs place r.0 [] l ∙ ap head (get_or_from_slice_get xs place r.0 r.0 r.1) in
      few-test (λ x. begins_with path (head x)) xs from place tested r.0 a r.1 (subst (λ k. begins_with path k ≡ true) headed h) few

-- ---- elements that don't pass a test are passed over

module _ {X : Type 0} (test : X → Bool) where
  skip-one : (xs : List X) (p : ℕ) → ((x : X) → slice_get xs p ≡ Some x → test x ≡ false) → find test (drop p xs) ≡ find test (drop (p + 1) xs)
  skip-one [] zero h = refl
  skip-one [] (suc p) h = let e : suc (p + 1) ≡ suc p + 1 = omega arith in ap (λ m. find test (drop {A = X} m [])) e
  skip-one (x ∷ xs) zero h = rw (h x refl) refl
  skip-one (x ∷ xs) (suc p) h = let e : suc (p + 1) ≡ suc p + 1 = omega arith in skip-one xs p h ∙ ap (λ m. find test (drop m (x ∷ xs))) e

  skip-many : (xs : List X) (k from : ℕ) → ((p : ℕ) → from ≤ p → p < from + k → (x : X) → slice_get xs p ≡ Some x → test x ≡ false) → find test (drop from xs) ≡ find test (drop (from + k) xs)
  skip-many xs zero from h = let e : from ≡ from + 0 = omega arith in ap (λ m. find test (drop m xs)) e
  skip-many xs (suc k) from h =
      let e : (from + k) + 1 ≡ from + suc k = omega arith in
      skip-many xs k from (λ p a b. h p a (omega (arith, b))) ∙ (skip-one xs (from + k) (h (from + k) (omega arith) (omega arith)) ∙ ap (λ m. find test (drop m xs)) e)

  -- those before a place don't matter
  pub skip-to : (xs : List X) (from place : ℕ) → from ≤ place → ((p : ℕ) → from ≤ p → p < place → (x : X) → slice_get xs p ≡ Some x → test x ≡ false) → find test (drop from xs) ≡ find test (drop place xs)
  skip-to xs from place a h =
      let e : from + (place - from) ≡ place = omega (arith, a) in
      skip-many xs (place - from) from (λ p b c. h p b (omega (arith, c, e))) ∙ ap (λ m. find test (drop m xs)) e

  -- ---- the places of the elements that are asked

  module _ (head : X → List ℕ) (path : List ℕ) (xs : List X) (is_asked : ℕ → Type 0) (begin : (p : ℕ) → is_asked p → (x : X) × (slice_get xs p ≡ Some x) × (begins_with path (head x) ≡ true))
      (all : (p : ℕ) → (is_asked p → ⊥) → (x : X) → slice_get xs p ≡ Some x → test x ≡ false) (from : ℕ) (result : Option ℕ) (n : IsLeastFrom is_asked from result) where
    -- the next place is of an element whose head begins the path, and those before it don't matter
    pub next-asked : (place : ℕ) → result ≡ Some place → (from ≤ place) × (place < length xs) × (begins_with path (head_at (map head xs) place) ≡ true) × (find test (drop from xs) ≡ find test (drop place xs))
    next-asked place is =
        let next : IsLeastFrom is_asked from (Some place) = subst (IsLeastFrom is_asked from) is n in
        let b = begin place next.found.1 in
        let within : place < length xs = got-within xs place b.0 b.1 in
        let headed : head_at (map head xs) place ≡ head b.0 = get_or-map head xs place b.0 [] within ∙ ap head (get_or_from_slice_get xs place b.0 b.0 b.1) in
        let before : (p : ℕ) → from ≤ p → p < place → (x : X) → slice_get xs p ≡ Some x → test x ≡ false
        = λ p a l. all p (λ asked. let le = next.first p a asked in omega (arith, le, l)) in
        (next.found.0, within, subst (λ h. begins_with path h ≡ true) (sym headed) b.2, skip-to xs from place next.found.0 before)

    -- none is left
    pub none-left : result ≡ None → from ≤ length xs → find test (drop from xs) ≡ None
    none-left is l =
        let next : IsLeastFrom is_asked from None = subst (IsLeastFrom is_asked from) is n in
        skip-to xs from (length xs) l (λ p a b. all p (λ asked. next.first p a asked)) ∙ ap (find test) (drop-all xs (length xs) (omega arith))

-- ---- a test that holds only where the head begins the path

module _ {X : Type 0} (head : X → List ℕ) (test : X → Bool) (path : List ℕ) (headless : (x : X) → begins_with path (head x) ≡ false → test x ≡ false) (xs : List X) where
  headless-at : (p : ℕ) → begins_with path (head_at (map head xs) p) ≡ false → (x : X) → slice_get xs p ≡ Some x → test x ≡ false
  headless-at p off x is =
      let within = got-within xs p x is in
      headless x (subst (λ h. begins_with path h ≡ false) (get_or-map head xs p x [] within ∙ ap head (get_or_from_slice_get xs p x x is)) off)

  -- no head begins the path
  pub none-begins : ((q : ℕ) → q < length (map head xs) → begins_with path (head_at (map head xs) q) ≡ false) → find test xs ≡ None
  none-begins h = skip-to test xs 0 (length xs) (omega arith) (λ q a b. headless-at q (h q (omega (arith, b, length-map xs head)))) ∙ ap (find test) (drop-all xs (length xs) (omega arith))

  module _ (p : GroupedPlaces) (grouped : IsGrouped (map head xs) p.heads p.starts p.order) (j : ℕ) (chain : IsChainOf p.heads path j) where
    abbrev in_chain : ℕ → Type 0
    in_chain = IsInChain p.heads p.starts p.order j

    -- the elements in the groups whose heads begin a head
    pub chain-begin : (q : ℕ) → in_chain q → (x : X) × (slice_get xs q ≡ Some x) × (begins_with path (head x) ≡ true) × (begins_with (head_at p.heads j) (head x) ≡ true)
    chain-begin q c =
        let m = grouped.meant c.0 q c.1 c.3 in
        let l : q < length xs = omega (arith, m.0, length-map xs head) in
        let r = element-within xs q l in
        let same : head_at p.heads c.0 ≡ head r.0 = m.1 ∙ (get_or-map head xs q r.0 [] l ∙ ap head (get_or_from_slice_get xs q r.0 r.0 r.1)) in
        (r.0, r.1, subst (λ h. begins_with path h ≡ true) same (chain c.0 c.1 ∙ c.2), subst (λ h. begins_with (head_at p.heads j) h ≡ true) same c.2)

    -- no other passes the test
    pub chain-all : (q : ℕ) → (in_chain q → ⊥) → (x : X) → slice_get xs q ≡ Some x → test x ≡ false
    chain-all q away x is = elim (cases_Bool (begins_with path (head x))) [
      | inr off ↦ headless x off
      | inl on ↦
          let l : q < length xs = got-within xs q x is in
          let f = grouped.listed q (omega (arith, l, length-map xs head)) in
          let same : head_at p.heads f.0 ≡ head x = f.2 ∙ (get_or-map head xs q x [] l ∙ ap head (get_or_from_slice_get xs q x x is)) in
          absurd (away (f.0, f.1, sym (chain f.0 f.1) ∙ subst (λ h. begins_with path h ≡ true) (sym same) on, f.3))
    ]

    -- so a search may ask those in the chain alone
    module _ (from : ℕ) (result : Option ℕ) (n : IsLeastFrom in_chain from result) where
      pub next-candidate : (place : ℕ) → result ≡ Some place → (from ≤ place) × (place < length xs) × (begins_with path (head_at (map head xs) place) ≡ true) × (find test (drop from xs) ≡ find test (drop place xs))
      next-candidate = next-asked test head path xs in_chain (λ q c. let r = chain-begin q c in (r.0, r.1, r.2)) chain-all from result n

      pub no-candidate : result ≡ None → from ≤ length xs → find test (drop from xs) ≡ None
      no-candidate = none-left test head path xs in_chain (λ q c. let r = chain-begin q c in (r.0, r.1, r.2)) chain-all from result n
