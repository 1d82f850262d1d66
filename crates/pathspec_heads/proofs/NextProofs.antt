-- The next place: in a list, in a group, and in all groups whose heads begin one head.
use Rattle.std.proofs.Common.{◌≡◌, ℕ, ◌+◌, ◌-◌, ◌<◌, ◌≤◌, true, false, inl, inr, refl, sym, ◌∙◌, ap, subst, List, length, get_or, arith, ◌⊎◌, take, drop, Option, Some, None, IfSome, min, ltb, length-take, length-drop}
use Rattle.std.specs.List.{Contains, slice_range}
use Rattle.std.specs.List.Sorted.{IsNonDecreasing, IsPartitionPoint}
use Rattle.std.proofs.lemmas.Bool.{cases_lt, ltb-true, ltb-false, false≢true}
use Rattle.std.proofs.lemmas.List.{get_or-drop, get_or-take, get_or_default}
use Rattle.pathspec_glob.specs.Bytes.{begins_with}
use Rattle.pathspec_heads.specs.Heads.{head_at, IsRising, IsLastFront}
use Rattle.pathspec_heads.specs.Groups.{start_of, end_of, IsInGroup, IsInChain, IsOrder, IsLeastFrom, earlier}
use Rattle.pathspec_heads.proofs.HeadProofs.{le_split, begins-itself, not_later, link-of_text}

-- ---- in a list

module _ (xs : List ℕ) (from at : ℕ) (up : IsNonDecreasing xs) (p : IsPartitionPoint (λ y. ltb y from ≡ true) (λ y. ltb y from ≡ false) xs at) where
  behind : (k : ℕ) → k < length xs → from ≤ get_or xs k 0 → at ≤ k
  behind k l h = elim (cases_lt k at) [
    | inl s ↦ absurd (omega (arith, h, ltb-true (get_or xs k 0) from (p.0 k 0 (omega arith) s)))
    | inr g ↦ g
  ]

  pub next-found : at < length xs → IsLeastFrom (Contains xs) from (Some (get_or xs at 0))
  next-found l = record {
    found = (ltb-false (get_or xs at 0) from (p.1 at 0 (omega arith) l), (at, l, get_or_default xs at (get_or xs at 0) 0 l));
    first = λ q h c.
        let is : get_or xs c.0 0 ≡ q = get_or_default xs c.0 0 q c.1 ∙ c.2 in
        let le : get_or xs at 0 ≤ get_or xs c.0 0 = up at c.0 0 (behind c.0 c.1 (omega (arith, h, is))) c.1 in
        omega (arith, le, is);
  }

  pub next-none : length xs ≤ at → IsLeastFrom (Contains xs) from None
  next-none l = record {
    found = tt;
    first = λ q h c.
        let is : get_or xs c.0 0 ≡ q = get_or_default xs c.0 0 q c.1 ∙ c.2 in
        absurd (omega (arith, l, c.1, behind c.0 c.1 (omega (arith, h, is))));
  }

-- ---- of one property, and of another

pub next-map : (P Q : ℕ → Type 0) (from : ℕ) (next : Option ℕ) → ((p : ℕ) → P p → Q p) → ((p : ℕ) → Q p → P p) → IsLeastFrom P from next → IsLeastFrom Q from next
next-map P Q from None f g n = record { found = tt; first = λ p h q. n.first p h (g p q) }
next-map P Q from (Some x) f g n = record { found = (n.found.0, f x n.found.1); first = λ p h q. n.first p h (g p q) }

pub next-earlier : (P Q : ℕ → Type 0) (from : ℕ) (a b : Option ℕ) → IsLeastFrom P from a → IsLeastFrom Q from b → IsLeastFrom (λ p. P p ⊎ Q p) from (earlier a b)
next-earlier P Q from None b m n = record {
  found = right b n.found;
  first = λ p h c. elim c [ inl x ↦ absurd (m.first p h x) | inr y ↦ n.first p h y ];
}
  where
    right : (o : Option ℕ) → IfSome o (λ p. (from ≤ p) × Q p) → IfSome o (λ p. (from ≤ p) × (P p ⊎ Q p))
    right None h = tt
    right (Some q) h = (h.0, inr h.1)
next-earlier P Q from (Some x) None m n = record {
  found = (m.found.0, inl m.found.1);
  first = λ p h c. elim c [ inl l ↦ m.first p h l | inr y ↦ absurd (n.first p h y) ];
}
next-earlier P Q from (Some x) (Some y) m n = record {
  found = (omega (arith, m.found.0, n.found.0), lesser (cases_lt x y));
  first = λ p h c. elim c [ inl l ↦ omega (arith, m.first p h l) | inr r ↦ omega (arith, n.first p h r) ];
}
  where
    lesser : (x < y) ⊎ (y ≤ x) → P (min x y) ⊎ Q (min x y)
    lesser (inl l) = let e : x ≡ min x y = omega (arith, l) in inl (subst P e m.found.1)
    lesser (inr l) = let e : y ≡ min x y = omega (arith, l) in inr (subst Q e n.found.1)

-- ---- in a group

module _ (order : List ℕ) (a b : ℕ) (le : a ≤ b) (in_order : b ≤ length order) where
  pub length-part : length (slice_range order a b) ≡ b - a
  length-part = omega (arith, length-take (b - a) (drop a order), length-drop a order, le, in_order)

  pub part-at : (i d : ℕ) → i < b - a → get_or (slice_range order a b) i d ≡ get_or order (a + i) d
  part-at i d l = get_or-take (b - a) (drop a order) i d l ∙ get_or-drop a order i d

module _ (heads : List (List ℕ)) (starts order : List ℕ) (o : IsOrder heads starts order) (k : ℕ) (l : k < length heads) where
  abbrev part : List ℕ
  part = slice_range order (start_of starts k) (end_of starts order k)

  pub group-ascending : IsNonDecreasing (slice_range order (start_of starts k) (end_of starts order k))
  group-ascending i j d m h =
      let s = start_of starts k in
      let e = end_of starts order k in
      let p = o.part k l in
      let inside : j < e - s = omega (arith, h, length-part order s e p.0 p.1) in
      let up : get_or order (s + i) 0 ≤ get_or order (s + j) 0 = o.ascending k (s + i) (s + j) l (omega arith) (omega (arith, m)) (omega (arith, inside)) in
      let at_i : get_or part i d ≡ get_or order (s + i) 0 = part-at order s e p.0 p.1 i d (omega (arith, m, inside)) ∙ get_or_default order (s + i) d 0 (omega (arith, m, inside, p.1)) in
      let at_j : get_or part j d ≡ get_or order (s + j) 0 = part-at order s e p.0 p.1 j d inside ∙ get_or_default order (s + j) d 0 (omega (arith, inside, p.1)) in
      omega (arith, up, at_i, at_j)

  in-part : (p : ℕ) → Contains (slice_range order (start_of starts k) (end_of starts order k)) p → IsInGroup starts order k p
  in-part p c =
      let s = start_of starts k in
      let e = end_of starts order k in
      let q = o.part k l in
      let inside : c.0 < e - s = omega (arith, c.1, length-part order s e q.0 q.1) in
      record {
        at = s + c.0;
        from = omega arith;
        before = omega (arith, inside);
        is = get_or_default order (s + c.0) 0 p (omega (arith, inside, q.1)) ∙ (sym (part-at order s e q.0 q.1 c.0 p inside) ∙ c.2);
      }

  of-part : (p : ℕ) → IsInGroup starts order k p → Contains (slice_range order (start_of starts k) (end_of starts order k)) p
  of-part p g =
      let s = start_of starts k in
      let e = end_of starts order k in
      let q = o.part k l in
      let i = g.at - s in
      let inside : i < e - s = omega (arith, g.from, g.before) in
      let there : s + i ≡ g.at = omega (arith, g.from) in (
        i,
        omega (arith, inside, length-part order s e q.0 q.1),
        part-at order s e q.0 q.1 i p inside ∙ (ap (λ m. get_or order m p) there ∙ (get_or_default order g.at p 0 (omega (arith, g.before, q.1)) ∙ g.is)),
      )

  pub group-next : (from : ℕ) (next : Option ℕ) → IsLeastFrom (Contains (slice_range order (start_of starts k) (end_of starts order k))) from next → IsLeastFrom (IsInGroup starts order k) from next
  group-next from next n = next-map (Contains part) (IsInGroup starts order k) from next in-part of-part n

-- ---- in a chain

-- as IsInChain, of the heads from one on
abbrev pub IsInChainFrom : List (List ℕ) → List ℕ → List ℕ → ℕ → ℕ → ℕ → Type 0
IsInChainFrom heads starts order low j place = (k : ℕ) × (low ≤ k) × (k < length heads) × (begins_with (head_at heads j) (head_at heads k) ≡ true) × IsInGroup starts order k place

module _ (heads : List (List ℕ)) (rising : IsRising heads) (starts order : List ℕ) (j : ℕ) (l : j < length heads) where
  pub chain-begun : (from : ℕ) (next : Option ℕ) → IsLeastFrom (IsInGroup starts order j) from next → IsLeastFrom (IsInChainFrom heads starts order j j) from next
  chain-begun from next n = next-map (IsInGroup starts order j) (IsInChainFrom heads starts order j j) from next
      (λ p g. (j, omega arith, l, begins-itself (head_at heads j), g))
      (λ p c. elim (le_split j c.0 c.1) [
        | inl e ↦ subst (λ k. IsInGroup starts order k p) (sym e) c.4
        | inr s ↦ absurd (not_later heads rising j c.0 s c.2 c.3)
      ])
      n

  module _ (at : ℕ) (before : at ≤ j) (begins : begins_with (head_at heads j) (head_at heads at) ≡ true) where
    pub chain-goes : (link from : ℕ) (a b : Option ℕ) → IsLastFront heads at (head_at heads at) (Some link) → IsLeastFrom (IsInChainFrom heads starts order at j) from a → IsLeastFrom (IsInGroup starts order link) from b
        → (link < at) × (begins_with (head_at heads j) (head_at heads link) ≡ true) × IsLeastFrom (IsInChainFrom heads starts order link j) from (earlier a b)
    chain-goes link from a b last n m =
        let before_at = link-of_text heads rising (head_at heads j) at (Some link) (omega (arith, before, l)) begins last in
        let here = before_at.begins link refl in (
          here.0,
          here.1,
          next-map (λ p. IsInChainFrom heads starts order at j p ⊎ IsInGroup starts order link p) (IsInChainFrom heads starts order link j) from (earlier a b)
              (λ p c. elim c [
                | inl x ↦ (x.0, omega (arith, x.1, here.0), x.2, x.3, x.4)
                | inr g ↦ (link, omega arith, omega (arith, here.0, before, l), here.1, g)
              ])
              (λ p c. elim (le_split link c.0 c.1) [
                | inl e ↦ inr (subst (λ k. IsInGroup starts order k p) (sym e) c.4)
                | inr s ↦ elim (cases_lt c.0 at) [
                  | inl t ↦ absurd (false≢true (sym (before_at.later link refl c.0 s t) ∙ c.3))
                  | inr g ↦ inl (c.0, g, c.2, c.3, c.4)
                ]
              ])
              (next-earlier (IsInChainFrom heads starts order at j) (IsInGroup starts order link) from a b n m),
        )

    pub chain-ends : (from : ℕ) (next : Option ℕ) → IsLastFront heads at (head_at heads at) None → IsLeastFrom (IsInChainFrom heads starts order at j) from next → IsLeastFrom (IsInChain heads starts order j) from next
    chain-ends from next last n =
        let before_at = link-of_text heads rising (head_at heads j) at None (omega (arith, before, l)) begins last in
        next-map (IsInChainFrom heads starts order at j) (IsInChain heads starts order j) from next
        (λ p c. (c.0, c.2, c.3, c.4))
        (λ p c. (c.0, elim (cases_lt c.0 at) [ inl t ↦ absurd (false≢true (sym (before_at.none refl c.0 t) ∙ c.2)) | inr g ↦ g ], c.1, c.2, c.3))
        n

-- ---- as the code has the group

module _ (heads : List (List ℕ)) (starts order : List ℕ) (o : IsOrder heads starts order) (k : ℕ) (l : k < length heads) (xs : List ℕ) (a b : ℕ) (is : xs ≡ order) (starts_at : a ≡ start_of starts k) (ends_at : b ≡ end_of starts order k) where
  same_part : slice_range order (start_of starts k) (end_of starts order k) ≡ take (b - a) (drop a xs)
  same_part = ap (λ n. slice_range order n (end_of starts order k)) (sym starts_at) ∙ (ap (λ n. slice_range order a n) (sym ends_at) ∙ ap (λ ys. slice_range ys a b) (sym is))

  pub code-ascending : IsNonDecreasing (take (b - a) (drop a xs))
  code-ascending = subst IsNonDecreasing same_part (group-ascending heads starts order o k l)

  pub code-next : (from : ℕ) (next : Option ℕ) → IsLeastFrom (Contains (take (b - a) (drop a xs))) from next → IsLeastFrom (IsInGroup starts order k) from next
  code-next from next n = group-next heads starts order o k l from next (subst (λ ys. IsLeastFrom (Contains ys) from next) (sym same_part) n)
