-- Groups of places, as they grow entry by entry, and when they have all places.
use Rattle.std.proofs.Common.{◌≡◌, ℕ, ◌+◌, ◌-◌, ◌<◌, ◌≤◌, true, false, inl, inr, refl, sym, ◌∙◌, ap, subst, List, [], ◌∷◌, ◌++◌, length, get_or, arith, length-append, map, bytes_eq}
use Rattle.std.specs.Ordering.{nat_cmp, ordering_then, ordering_reverse, is_lt, is_eq}
use Rattle.std.specs.declared.cmp.Ordering.TheVariants.{Less, Equal, Greater}
use Rattle.std.specs.declared.cmp.Ordering.{Ordering}
use Rattle.std.specs.Cmp.Lexicographic.{slice_cmp}
use Rattle.std.proofs.lemmas.Bool.{cases_Bool}
use Rattle.std.proofs.lemmas.Bool.Decides.{nat_tests}
use Rattle.std.proofs.lemmas.Cmp.{nat_list_cmp_total}
use Rattle.std.proofs.lemmas.List.{get_or_append_left, get_or_push, get_or-map, length-map, get_or_default, get_or_past}
use Rattle.std.proofs.lemmas.Map.Text.{is_eq-slice_cmp}
use Rattle.std.proofs.lemmas.Slice.Eq.{bytes_eq-Decides}
use Rattle.pathspec_heads.specs.Heads.{head_at, IsRising, ends_with_head}
use Rattle.pathspec_heads.specs.Groups.{Placed, entry_at, placed_cmp, IsAscending, IsSortedPlaces, start_of, end_of, IsOrder, IsGrouped, IsGroupedFront, AddsPlace}
use Rattle.pathspec_heads.proofs.HeadProofs.{le_split}

-- ---- what order says of two entries

less_from : (o r : Ordering) → o ≡ ordering_reverse r → is_lt (ordering_then r Equal) ≡ false → is_eq r ≡ false → o ≡ Less
less_from o Less e h n = cc
less_from o Equal e h n = cc
less_from o Greater e h n = e

not_lt-then : (r s : Ordering) → is_lt (ordering_then r s) ≡ false → is_lt (ordering_then r Equal) ≡ false
not_lt-then Less s h = h
not_lt-then Equal s h = refl
not_lt-then Greater s h = refl

-- the head of a later entry stands behind, where it is another
heads-less : (x y : Placed) → is_lt (placed_cmp y x) ≡ false → bytes_eq y.0 x.0 ≡ false → slice_cmp nat_cmp x.0 y.0 ≡ Less
heads-less x y h n =
    less_from (slice_cmp nat_cmp x.0 y.0) (slice_cmp nat_cmp y.0 x.0) (nat_list_cmp_total.antisymm x.0 y.0)
    (not_lt-then (slice_cmp nat_cmp y.0 x.0) (nat_cmp y.1 x.1) h) (is_eq-slice_cmp y.0 x.0 ∙ n)

le-from : (p q : ℕ) → is_lt (nat_cmp q p) ≡ false → p ≤ q
le-from p q h = grind (arith, nat_tests)

equal-self : (o : Ordering) → is_eq o ≡ true → o ≡ Equal
equal-self Less h = cc
equal-self Equal h = refl
equal-self Greater h = cc

-- places of one head ascend
places-le : (x y : Placed) → is_lt (placed_cmp y x) ≡ false → y.0 ≡ x.0 → x.1 ≤ y.1
places-le x y h e =
    let same : slice_cmp nat_cmp y.0 x.0 ≡ Equal = equal-self (slice_cmp nat_cmp y.0 x.0) (is_eq-slice_cmp y.0 x.0 ∙ (bytes_eq-Decides y.0 x.0).1 e) in
    le-from x.1 y.1 (subst (λ o. is_lt (ordering_then o (nat_cmp y.1 x.1)) ≡ false) same h)

-- ---- one more entry

module _ (entries : List Placed) (ascending : IsAscending entries) (n : ℕ) (heads : List (List ℕ)) (starts order : List ℕ) (f : IsGroupedFront entries n heads starts order)
    (inside : n < length entries) (head : List ℕ) (place : ℕ) (is : entry_at entries n ≡ (head, place)) where
  length-more : length (order ++ place ∷ []) ≡ n + 1
  length-more = omega (arith, length-append order (place ∷ []), f.counted)

  places-more : (j : ℕ) → j < n + 1 → get_or (order ++ place ∷ []) j 0 ≡ (entry_at entries j).1
  places-more j b = elim (le_split j n (omega (arith, b))) [
    | inl e ↦ get_or_push order place 0 j (f.counted ∙ sym e) ∙ (ap (λ (x : Placed). x.1) (sym is) ∙ ap (λ k. (entry_at entries k).1) (sym e))
    | inr s ↦ get_or_append_left order (place ∷ []) 0 j (omega (arith, s, f.counted)) ∙ f.places j s
  ]

  -- the place goes to the last group
  module _ (some : 0 < length heads) (last : head_at heads (length heads - 1) ≡ head) where
    inner : (k : ℕ) → k + 1 < length heads → end_of starts (order ++ place ∷ []) k ≡ end_of starts order k
    inner k l = get_or_default starts (k + 1) (length (order ++ place ∷ [])) (length order) (omega (arith, l, f.all))

    outer : (k : ℕ) → k + 1 ≡ length heads → (end_of starts order k ≡ n) × (end_of starts (order ++ place ∷ []) k ≡ n + 1)
    outer k e = (get_or_past starts (k + 1) (length order) (omega (arith, e, f.all)) ∙ f.counted, get_or_past starts (k + 1) (length (order ++ place ∷ [])) (omega (arith, e, f.all)) ∙ length-more)

    pub grouped-known : IsGroupedFront entries (n + 1) heads starts (order ++ place ∷ [])
    grouped-known = record {
      few = omega (arith, f.few);
      all = f.all;
      counted = length-more;
      places = places-more;
      part = λ k l. elim (le_split (k + 1) (length heads) (omega (arith, l))) [
        | inl e ↦ let o = outer k e in let p = f.part k l in (omega (arith, p.0, o.0, o.1), omega (arith, o.1))
        | inr s ↦ let o = inner k s in let p = f.part k l in (omega (arith, p.0, o), omega (arith, p.1, o))
      ];
      headed = λ k j l a b. elim (le_split (k + 1) (length heads) (omega (arith, l))) [
        | inl e ↦
            let o = outer k e in
            elim (le_split j n (omega (arith, b, o.1))) [
              | inl here ↦ ap (λ i. (entry_at entries i).0) here ∙ (ap (λ (x : Placed). x.0) is ∙ (sym last ∙ ap (head_at heads) (omega (arith, e))))
              | inr s ↦ f.headed k j l a (omega (arith, s, o.0))
            ]
        | inr s ↦ f.headed k j l a (omega (arith, b, inner k s))
      ];
      covered = λ j b. elim (le_split j n (omega (arith, b))) [
        | inl here ↦
            let k = length heads - 1 in
            let inside_k : k < length heads = omega (arith, some) in
            let o = outer k (omega (arith, some)) in
            let p = f.part k inside_k in
            (k, inside_k, omega (arith, p.0, o.0, here), omega (arith, o.1, here))
        | inr s ↦
            let c = f.covered j s in
            (c.0, c.1, c.2, elim (le_split (c.0 + 1) (length heads) (omega (arith, c.1))) [ inl e ↦ omega (arith, s, (outer c.0 e).1) | inr t ↦ omega (arith, c.3, inner c.0 t) ])
      ];
      rising = f.rising;
    }

  -- a group is begun
  module _ (other : 0 < length heads → bytes_eq (head_at heads (length heads - 1)) head ≡ false) where
    count-heads : length (heads ++ head ∷ []) ≡ length heads + 1
    count-heads = length-append heads (head ∷ [])

    old_head : (k : ℕ) → k < length heads → head_at (heads ++ head ∷ []) k ≡ head_at heads k
    old_head k l = get_or_append_left heads (head ∷ []) [] k l

    new_head : (k : ℕ) → k ≡ length heads → head_at (heads ++ head ∷ []) k ≡ head
    new_head k e = get_or_push heads head [] k (sym e)

    old_start : (k : ℕ) → k < length heads → start_of (starts ++ length order ∷ []) k ≡ start_of starts k
    old_start k l = get_or_append_left starts (length order ∷ []) 0 k (omega (arith, l, f.all))

    new_start : (k : ℕ) → k ≡ length heads → start_of (starts ++ length order ∷ []) k ≡ n
    new_start k e = get_or_push starts (length order) 0 k (f.all ∙ sym e) ∙ f.counted

    old_end : (k : ℕ) → k < length heads → end_of (starts ++ length order ∷ []) (order ++ place ∷ []) k ≡ end_of starts order k
    old_end k l = elim (le_split (k + 1) (length starts) (omega (arith, l, f.all))) [
      | inl e ↦ get_or_push starts (length order) (length (order ++ place ∷ [])) (k + 1) (sym e) ∙ sym (get_or_past starts (k + 1) (length order) (omega (arith, e)))
      | inr s ↦ get_or_append_left starts (length order ∷ []) (length (order ++ place ∷ [])) (k + 1) s ∙ get_or_default starts (k + 1) (length (order ++ place ∷ [])) (length order) s
    ]

    new_end : (k : ℕ) → k ≡ length heads → end_of (starts ++ length order ∷ []) (order ++ place ∷ []) k ≡ n + 1
    new_end k e = get_or_past (starts ++ length order ∷ []) (k + 1) (length (order ++ place ∷ [])) (omega (arith, e, f.all, length-append starts (length order ∷ []))) ∙ length-more

    last-less : (i : ℕ) → i < length heads → slice_cmp nat_cmp (head_at heads i) head ≡ Less
    last-less i l =
        let k = length heads - 1 in
        let inside_k : k < length heads = omega (arith, l) in
        let part = f.part k inside_k in
        let ends : end_of starts order k ≡ n = get_or_past starts (k + 1) (length order) (omega (arith, l, f.all)) ∙ f.counted in
        let before : n - 1 < end_of starts order k = omega (arith, part.0, ends) in
        let has : (entry_at entries (n - 1)).0 ≡ head_at heads k = f.headed k (n - 1) inside_k (omega (arith, part.0, ends)) before in
        let new : (entry_at entries n).0 ≡ head = ap (λ (x : Placed). x.0) is in
        let step : slice_cmp nat_cmp (entry_at entries (n - 1)).0 (entry_at entries n).0 ≡ Less
        = heads-less (entry_at entries (n - 1)) (entry_at entries n) (ascending (n - 1) n (omega arith) inside) (bytes_eq-swap (head_at heads k) head _ _ (sym has) (sym new) (other (omega (arith, l)))) in
        let last : slice_cmp nat_cmp (head_at heads k) head ≡ Less = subst (λ y. slice_cmp nat_cmp (head_at heads k) y ≡ Less) new (subst (λ x. slice_cmp nat_cmp x (entry_at entries n).0 ≡ Less) has step) in
        elim (le_split i k (omega (arith, l))) [
          | inl e ↦ subst (λ j. slice_cmp nat_cmp (head_at heads j) head ≡ Less) (sym e) last
          | inr s ↦ nat_list_cmp_total.trans (head_at heads i) (head_at heads k) head (f.rising i k s inside_k) last
        ]
      where
        differ : (x y : List ℕ) → bytes_eq x y ≡ false → bytes_eq y x ≡ false
        differ x y h = elim (cases_Bool (bytes_eq y x)) [
          | inl t ↦ let e : y ≡ x = (bytes_eq-Decides y x).0 t in let u : bytes_eq x y ≡ true = (bytes_eq-Decides x y).1 (sym e) in cc
          | inr g ↦ g
        ]

        bytes_eq-swap : (x y x' y' : List ℕ) → x ≡ x' → y ≡ y' → bytes_eq x y ≡ false → bytes_eq y' x' ≡ false
        bytes_eq-swap x y x' y' p q h = differ x' y' (subst (λ z. bytes_eq x' z ≡ false) q (subst (λ z. bytes_eq z y ≡ false) p h))

    rising-begun : IsRising (heads ++ head ∷ [])
    rising-begun i j l b = elim (le_split j (length heads) (omega (arith, b, count-heads))) [
      | inl e ↦
          let before : i < length heads = omega (arith, l, e) in
          subst (λ x. slice_cmp nat_cmp x (head_at (heads ++ head ∷ []) j) ≡ Less) (sym (old_head i before)) (subst (λ y. slice_cmp nat_cmp (head_at heads i) y ≡ Less) (sym (new_head j e)) (last-less i before))
      | inr s ↦ subst (λ x. slice_cmp nat_cmp x (head_at (heads ++ head ∷ []) j) ≡ Less) (sym (old_head i (omega (arith, l, s)))) (subst (λ y. slice_cmp nat_cmp (head_at heads i) y ≡ Less) (sym (old_head j s)) (f.rising i j l s))
    ]

    pub grouped-begun : IsGroupedFront entries (n + 1) (heads ++ head ∷ []) (starts ++ length order ∷ []) (order ++ place ∷ [])
    grouped-begun = record {
      few = omega (arith, f.few, count-heads);
      all = omega (arith, f.all, length-append starts (length order ∷ []), count-heads);
      counted = length-more;
      places = places-more;
      part = λ k l. elim (le_split k (length heads) (omega (arith, l, count-heads))) [
        | inl e ↦ (omega (arith, new_start k e, new_end k e), omega (arith, new_end k e))
        | inr s ↦ let p = f.part k s in (omega (arith, p.0, old_start k s, old_end k s), omega (arith, p.1, old_end k s))
      ];
      headed = λ k j l a b. elim (le_split k (length heads) (omega (arith, l, count-heads))) [
        | inl e ↦
            let here : j ≡ n = omega (arith, a, b, new_start k e, new_end k e) in
            ap (λ i. (entry_at entries i).0) here ∙ (ap (λ (x : Placed). x.0) is ∙ sym (new_head k e))
        | inr s ↦ f.headed k j s (omega (arith, a, old_start k s)) (omega (arith, b, old_end k s)) ∙ sym (old_head k s)
      ];
      covered = λ j b. elim (le_split j n (omega (arith, b))) [
        | inl here ↦ (length heads, omega (arith, count-heads), omega (arith, here, new_start (length heads) refl), omega (arith, here, new_end (length heads) refl))
        | inr s ↦ let c = f.covered j s in (c.0, omega (arith, c.1, count-heads), omega (arith, c.2, old_start c.0 c.1), omega (arith, c.3, old_end c.0 c.1))
      ];
      rising = rising-begun;
    }

  ends_with-split : (hs : List (List ℕ)) → ends_with_head hs head ≡ true → (0 < length hs) × (head_at hs (length hs - 1) ≡ head)
  ends_with-split [] h = cc
  ends_with-split (x ∷ hs) h = (omega arith, (bytes_eq-Decides (head_at (x ∷ hs) (length (x ∷ hs) - 1)) head).0 h)

  ends_with-not : (hs : List (List ℕ)) → ends_with_head hs head ≡ false → 0 < length hs → bytes_eq (head_at hs (length hs - 1)) head ≡ false
  ends_with-not [] h l = absurd (omega (arith, l))
  ends_with-not (x ∷ hs) h l = h

  grouped-more : (heads' : List (List ℕ)) (starts' order' : List ℕ) → AddsPlace heads starts order heads' starts' order' head place → IsGroupedFront entries (n + 1) heads' starts' order'
  grouped-more heads' starts' order' a = elim (cases_Bool (ends_with_head heads head)) [
    | inl t ↦
        let e = ends_with-split heads t in
        let k = a.known t in
        subst (λ xs. IsGroupedFront entries (n + 1) heads' starts' xs) (sym a.behind)
        (subst (λ xs. IsGroupedFront entries (n + 1) heads' xs (order ++ place ∷ [])) (sym k.1)
        (subst (λ xs. IsGroupedFront entries (n + 1) xs starts (order ++ place ∷ [])) (sym k.0) (grouped-known e.0 e.1)))
    | inr g ↦
        let k = a.begun g in
        subst (λ xs. IsGroupedFront entries (n + 1) heads' starts' xs) (sym a.behind)
        (subst (λ xs. IsGroupedFront entries (n + 1) heads' xs (order ++ place ∷ [])) (sym k.1)
        (subst (λ xs. IsGroupedFront entries (n + 1) xs (starts ++ length order ∷ []) (order ++ place ∷ [])) (sym k.0) (grouped-begun (ends_with-not heads g))))
  ]

  grouped-rises : ends_with_head heads head ≡ false → IsRising (heads ++ head ∷ [])
  grouped-rises g = rising-begun (ends_with-not heads g)

-- ---- all entries

module _ (texts : List (List ℕ)) (entries : List Placed) (sorted : IsSortedPlaces texts entries) (heads : List (List ℕ)) (starts order : List ℕ) (f : IsGroupedFront entries (length entries) heads starts order) where
  pub ordered : IsOrder heads starts order
  ordered = record {
    rising = f.rising;
    all = f.all;
    part = λ k l. let p = f.part k l in (omega (arith, p.0), omega (arith, p.1, f.counted));
    ascending = λ k i j l a m b.
        let p = f.part k l in
        let inside : j < length entries = omega (arith, b, p.1) in
        let same : (entry_at entries j).0 ≡ (entry_at entries i).0 = f.headed k j l (omega (arith, a, m)) b ∙ sym (f.headed k i l a (omega (arith, m, b))) in
        let le = places-le (entry_at entries i) (entry_at entries j) (sorted.ascending i j m inside) same in
        omega (arith, le, f.places i (omega (arith, m, inside)), f.places j inside);
  }

  pub all-grouped : IsGrouped texts heads starts order
  all-grouped = record {
    few = omega (arith, f.few, sorted.count);
    stands = λ k l.
        let q = f.part k l in
        let j = start_of starts k in
        let m = sorted.meant j (omega (arith, q.0, q.1)) in
        ((entry_at entries j).1, m.0, sym (f.headed k j l (omega arith) q.0) ∙ m.1);
    listed = λ p l.
        let e = sorted.listed p l in
        let c = f.covered e.0 e.1 in (
          c.0,
          c.1,
          sym (f.headed c.0 e.0 c.1 c.2 c.3) ∙ ap (λ (x : Placed). x.0) e.2,
          record { at = e.0; from = c.2; before = c.3; is = f.places e.0 e.1 ∙ ap (λ (x : Placed). x.1) e.2 },
        );
    meant = λ k p l g.
        let q = f.part k l in
        let inside : g.at < length entries = omega (arith, g.before, q.1) in
        let place : (entry_at entries g.at).1 ≡ p = sym (f.places g.at inside) ∙ g.is in
        let m = sorted.meant g.at inside in
        (subst (λ x. x < length texts) place m.0, sym (f.headed k g.at l g.from g.before) ∙ (m.1 ∙ ap (head_at texts) place));
  }

-- ---- the entries as the code has them

pub add-rises : {X : Type 0} (view : X → Placed) (xs : List X) (d : X) → IsAscending (map view xs) → (n : ℕ) (heads : List (List ℕ)) (starts order : List ℕ) → IsGroupedFront (map view xs) n heads starts order → n < length xs
    → ends_with_head heads (view (get_or xs n d)).0 ≡ false → IsRising (heads ++ (view (get_or xs n d)).0 ∷ [])
add-rises view xs d ascending n heads starts order f inside =
    grouped-rises (map view xs) ascending n heads starts order f (omega (arith, inside, length-map xs view)) (view (get_or xs n d)).0 (view (get_or xs n d)).1 (get_or-map view xs n d ([], 0) inside)

pub grouped-next : {X : Type 0} (view : X → Placed) (xs : List X) (d : X) → IsAscending (map view xs) → (n : ℕ) (heads : List (List ℕ)) (starts order : List ℕ) → IsGroupedFront (map view xs) n heads starts order → n < length xs
    → (heads' : List (List ℕ)) (starts' order' : List ℕ) → AddsPlace heads starts order heads' starts' order' (view (get_or xs n d)).0 (view (get_or xs n d)).1 → IsGroupedFront (map view xs) (n + 1) heads' starts' order'
grouped-next view xs d ascending n heads starts order f inside =
    grouped-more (map view xs) ascending n heads starts order f (omega (arith, inside, length-map xs view)) (view (get_or xs n d)).0 (view (get_or xs n d)).1 (get_or-map view xs n d ([], 0) inside)
