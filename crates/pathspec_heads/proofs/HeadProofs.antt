-- Heads in order, their links, and which of them begin a text.
use Rattle.std.proofs.Common.{◌≡◌, ℕ, ◌+◌, ◌-◌, ◌<◌, ◌≤◌, Bool, true, false, inl, inr, refl, sym, ◌∙◌, ap, subst, List, [], ◌∷◌, ◌++◌, length, arith, ◌⊎◌, take, Option, Some, None, length-append, leb}
use Rattle.std.proofs.lemmas.Cmp.{nat_list_cmp_total}
use Rattle.std.proofs.Math.ListN.{get_or-append}
use Rattle.std.proofs.Math.Seq.{get_or-append_seam}
use Rattle.std.specs.declared.cmp.Ordering.TheVariants.{Less, Equal, Greater}
use Rattle.std.proofs.lemmas.Bool.Decides.{nat_tests}
use Rattle.std.specs.Ordering.{nat_cmp, is_gt, ordering_reverse}
use Rattle.std.specs.declared.cmp.Ordering.{Ordering}
use Rattle.std.specs.List.{list_any}
use Rattle.std.proofs.lemmas.Bool.{cases_lt, both_ways, false≢true, false_from_ne_true}
use Rattle.std.proofs.lemmas.List.{take_all}
use Rattle.pathspec_heads.proofs.AnyProofs.{any-some, any-none}
use Rattle.std.specs.Option.{IfSome}
use Rattle.std.specs.Cmp.Lexicographic.{slice_cmp}
use Rattle.pathspec_glob.specs.Bytes.{begins_with}
use Rattle.pathspec_heads.specs.Agreement.{agreement, is_behind}
use Rattle.pathspec_heads.specs.Heads.{head_at, IsRising, IsLastFront, IsChainOf, Brackets, IsMet, IsSearched}
use Rattle.pathspec_heads.proofs.AgreementProofs.{below-shared, above-shared, agreement-self, agreement-front, front-agreement, not_behind, begins-through, begins-take, take-begins, begins-between, begins-not_behind, behind-not_front, behind-further, same_fronts, both, squeezed, agreement-sym, same_agreed}

pub begins-itself : (x : List ℕ) → begins_with x x ≡ true
begins-itself x = front-agreement x x (agreement-self x)

pub le_split : (i j : ℕ) → i ≤ j → (i ≡ j) ⊎ (i < j)
le_split i j l = elim (cases_lt i j) [
  | inl s ↦ inr s
  | inr g ↦ inl (omega (arith, l, g))
]

-- ---- from link to link

-- Of the first so many heads, those that begin the text and stand behind the next one fail a test.
abbrev pub IsWalked : List (List ℕ) → List ℕ → (List ℕ → Bool) → ℕ → Option ℕ → Type 0
IsWalked heads text test total next = (count : ℕ) × (count ≤ total) × IsLastFront heads count text next × ((k : ℕ) → count ≤ k → k < total → begins_with text (head_at heads k) ≡ true → test (head_at heads k) ≡ false)

module _ (heads : List (List ℕ)) (text : List ℕ) (test : List ℕ → Bool) (total : ℕ) where
  pub walk-begun : (next : Option ℕ) → IsLastFront heads total text next → IsWalked heads text test total next
  walk-begun next l = (total, omega arith, l, λ k a b. absurd (omega (arith, a, b)))

  -- behind the next one no head passes that begins the text
  pub walk-later : (next : Option ℕ) (at : ℕ) → IsWalked heads text test total next → next ≡ Some at → (k : ℕ) → at < k → k < total → begins_with text (head_at heads k) ≡ true → test (head_at heads k) ≡ false
  walk-later next at w is k a b e = elim (cases_lt k w.0) [
    | inl s ↦ absurd (both_ways (begins_with text (head_at heads k)) (w.2.later at is k a s) e)
    | inr g ↦ w.3 k g b e
  ]

  pub walk-here : (next : Option ℕ) (at : ℕ) → IsWalked heads text test total next → next ≡ Some at → (at < total) × (begins_with text (head_at heads at) ≡ true)
  walk-here next at w is = let b = w.2.begins at is in (omega (arith, b.0, w.1), b.1)

  pub walk-ends : (next : Option ℕ) → IsWalked heads text test total next → next ≡ None → (k : ℕ) → k < total → begins_with text (head_at heads k) ≡ true → test (head_at heads k) ≡ false
  walk-ends next w is k b e = elim (cases_lt k w.0) [
    | inl s ↦ absurd (both_ways (begins_with text (head_at heads k)) (w.2.none is k s) e)
    | inr g ↦ w.3 k g b e
  ]

-- ---- the last head that begins so many bytes of one

module _ (heads : List (List ℕ)) (place n : ℕ) where
  -- a head has no more bytes
  abbrev pub is_short : List ℕ → Bool
  is_short h = leb (length h) n

  abbrev front : List ℕ
  front = take n (head_at heads place)

  no_front : (k : ℕ) → (begins_with (head_at heads place) (head_at heads k) ≡ true → leb (length (head_at heads k)) n ≡ false) → begins_with (take n (head_at heads place)) (head_at heads k) ≡ false
  no_front k f = false_from_ne_true (begins_with front (head_at heads k)) (λ e.
      let t = take-begins (head_at heads k) (head_at heads place) n e in
      let long : leb (length (head_at heads k)) n ≡ false = f t.0 in
      absurd (grind (arith, nat_tests)))

  pub front-begun : IsLastFront heads (place + 1) (head_at heads place) (Some place)
  front-begun = record {
    begins = λ j e. let is : place ≡ j = cc in subst (λ i. (i < place + 1) × (begins_with (head_at heads place) (head_at heads i) ≡ true)) is (omega arith, begins-itself (head_at heads place));
    later = λ j e k a b. let is : place ≡ j = cc in absurd (omega (arith, is, a, b));
    none = λ e. cc;
  }

  pub front-found : (at : ℕ) → IsWalked heads (head_at heads place) (λ h. leb (length h) n) (place + 1) (Some at) → length (head_at heads at) ≤ n → IsLastFront heads (place + 1) (take n (head_at heads place)) (Some at)
  front-found at w short =
      let here = walk-here heads (head_at heads place) is_short (place + 1) (Some at) at w refl in
      record {
        begins = λ j e. let is : at ≡ j = cc in subst (λ i. (i < place + 1) × (begins_with front (head_at heads i) ≡ true)) is (here.0, begins-take (head_at heads at) (head_at heads place) n here.1 short);
        later = λ j e k a b. let is : at ≡ j = cc in no_front k (walk-later heads (head_at heads place) is_short (place + 1) (Some at) at w refl k (subst (λ i. i < k) (sym is) a) b);
        none = λ e. cc;
      }

  pub front-none : (next : Option ℕ) → IsWalked heads (head_at heads place) (λ h. leb (length h) n) (place + 1) next → next ≡ None → IsLastFront heads (place + 1) (take n (head_at heads place)) None
  front-none next w is = record {
    begins = λ j e. cc;
    later = λ j e. cc;
    none = λ _ k b. no_front k (walk-ends heads (head_at heads place) is_short (place + 1) next w is k b);
  }

-- ---- heads in order

module _ (heads : List (List ℕ)) (rising : IsRising heads) where
  -- a head is not behind one at its place or after it
  pub rises : (i j : ℕ) → i ≤ j → j < length heads → is_behind (head_at heads i) (head_at heads j) ≡ false
  rises i j l h = elim (le_split i j l) [
    | inl e ↦ subst (λ k. is_behind (head_at heads i) (head_at heads k) ≡ false) e (not_behind (head_at heads i) (head_at heads i) (agreement-self (head_at heads i)))
    | inr s ↦ ap is_gt (rising i j s h)
  ]

  -- ---- what neighbours agree in

  -- the head before one with which the text agrees further isn't behind it, and agrees in what the two do
  pub before-not_behind : (t : List ℕ) (i : ℕ) → i + 1 < length heads → agreement (head_at heads i) (head_at heads (i + 1)) < agreement (head_at heads (i + 1)) t
      → (is_behind (head_at heads i) t ≡ false) × (agreement (head_at heads i) (head_at heads (i + 1)) ≡ agreement (head_at heads i) t)
  before-not_behind t i l a = below-shared (head_at heads i) (head_at heads (i + 1)) t (rises i (i + 1) (omega arith) l) a

  -- the head after one with which the text agrees further is behind it
  pub after-behind : (t : List ℕ) (i : ℕ) → i + 1 < length heads → agreement (head_at heads i) (head_at heads (i + 1)) < agreement (head_at heads i) t → is_behind (head_at heads (i + 1)) t ≡ true
  after-behind t i l a = above-shared (head_at heads i) (head_at heads (i + 1)) t (rises i (i + 1) (omega arith) l) a

  -- the link of a head that begins a text leads to the last head before it that begins the text
  pub link-of_text : (text : List ℕ) (at : ℕ) (link : Option ℕ) → at < length heads → begins_with text (head_at heads at) ≡ true → IsLastFront heads at (head_at heads at) link → IsLastFront heads at text link
  link-of_text text at link inside begins l =
      let up : (k : ℕ) → k < at → begins_with (head_at heads at) (head_at heads k) ≡ true → begins_with text (head_at heads k) ≡ true = λ k _ e. begins-through (head_at heads k) (head_at heads at) text e begins in
      let down : (k : ℕ) → k < at → begins_with text (head_at heads k) ≡ true → begins_with (head_at heads at) (head_at heads k) ≡ true =
      λ k b e. begins-between (head_at heads k) (head_at heads at) text e (rises k at (omega (arith, b)) inside) (begins-not_behind (head_at heads at) text begins) in
      record {
        begins = λ j e. let b = l.begins j e in (b.0, up j b.0 b.1);
        later = λ j e k a b. false_from_ne_true (begins_with text (head_at heads k)) (λ t. false≢true (sym (l.later j e k a b) ∙ down k b t));
        none = λ e k b. false_from_ne_true (begins_with text (head_at heads k)) (λ t. false≢true (sym (l.none e k b) ∙ down k b t));
      }

  pub walk-goes : (text : List ℕ) (test : List ℕ → Bool) (total : ℕ) → total ≤ length heads → (next : Option ℕ) (at : ℕ) (link : Option ℕ) → IsWalked heads text test total next → next ≡ Some at → test (head_at heads at) ≡ false → IsLastFront heads at (head_at heads at) link
      → IsWalked heads text test total link
  walk-goes text test total within next at link w is fails l =
      let here = walk-here heads text test total next at w is in (
        at,
        omega (arith, here.0),
        link-of_text text at link (omega (arith, here.0, within)) here.1 l,
        λ k a b e. elim (le_split at k a) [
          | inl q ↦ subst (λ i. test (head_at heads i) ≡ false) q fails
          | inr s ↦ walk-later heads text test total next at w is k s b e
        ],
      )

  -- ---- what begins the bytes in which the last head that is not behind a text agrees with it begins the text

  pub last-agreed : (text : List ℕ) (place : ℕ) (last : Option ℕ) → place < length heads → is_behind (head_at heads place) text ≡ false → IsLastFront heads (place + 1) (take (agreement (head_at heads place) text) (head_at heads place)) last → IsLastFront heads (place + 1) text last
  last-agreed text place last l p h =
      let same : (k : ℕ) → k < place + 1 → begins_with (take (agreement (head_at heads place) text) (head_at heads place)) (head_at heads k) ≡ begins_with text (head_at heads k) =
      λ k b. same_fronts (head_at heads k) (head_at heads place) text (rises k place (omega (arith, b)) l) p in
      record {
        begins = λ j e. let b = h.begins j e in (b.0, sym (same j b.0) ∙ b.1);
        later = λ j e k a b. sym (same k b) ∙ h.later j e k a b;
        none = λ e k b. sym (same k b) ∙ h.none e k b;
      }

  -- ---- the end of a search

  -- no later head begins one
  pub not_later : (j k : ℕ) → j < k → k < length heads → begins_with (head_at heads j) (head_at heads k) ≡ true → ⊥
  not_later j k s b h =
      let less = rising j k s b in
      let more : is_behind (head_at heads k) (head_at heads j) ≡ true = ap is_gt (nat_list_cmp_total.antisymm (head_at heads k) (head_at heads j)) ∙ ap (λ o. is_gt (ordering_reverse o)) less in
      false≢true (sym (begins-not_behind (head_at heads k) (head_at heads j) h) ∙ more)

  -- what holds of the heads up to a place holds of all, where none behind it begins the text
  last-all : (text : List ℕ) (count : ℕ) (last : Option ℕ) → count ≤ length heads → ((k : ℕ) → count ≤ k → k < length heads → begins_with text (head_at heads k) ≡ false) → IsLastFront heads count text last → IsLastFront heads (length heads) text last
  last-all text count last l behind r = record {
    begins = λ j is. let b = r.begins j is in (omega (arith, b.0, l), b.1);
    later = λ j is k a m. elim (cases_lt k count) [ inl s ↦ r.later j is k a s | inr s ↦ behind k s m ];
    none = λ is k m. elim (cases_lt k count) [ inl s ↦ r.none is k s | inr s ↦ behind k s m ];
  }

  module _ (text : List ℕ) (low high agreed : ℕ) (ended : high ≤ low) (found : Brackets heads text low high agreed) where
    here : low ≡ high
    here = omega (arith, found.order, ended)

    behind_none : (k : ℕ) → low ≤ k → k < length heads → begins_with text (head_at heads k) ≡ false
    behind_none k a l =
        let above = found.above (omega (arith, here, a, l)) in
        behind-not_front (head_at heads k) text (behind-further (head_at heads high) (head_at heads k) text above.0 (rises high k (omega (arith, here, a)) l))

    bracket-none : low ≡ 0 → IsLastFront heads (length heads) text None
    bracket-none e = record { begins = λ j e'. cc; later = λ j e'. cc; none = λ e' k l. behind_none k (omega (arith, e)) l }

    bracket-found : (place : ℕ) (last : Option ℕ) → place + 1 ≡ low → IsLastFront heads (place + 1) (take agreed (head_at heads place)) last → IsLastFront heads (length heads) text last
    bracket-found place last e h =
        let below = found.below place e in
        let inside : place < length heads = omega (arith, e, found.within, found.order) in
        let h' : IsLastFront heads (place + 1) (take (agreement (head_at heads place) text) (head_at heads place)) last = subst (λ n. IsLastFront heads (place + 1) (take n (head_at heads place)) last) below.1 h in
        last-all text (place + 1) last (omega (arith, inside)) (λ k a l. behind_none k (omega (arith, a, e)) l) (last-agreed text place last inside below.0 h')

    -- a head below the end that begins with the text is it, and so is the last one there
    below-agrees : (k : ℕ) → k < low → begins_with (head_at heads k) text ≡ true → ⊥
    below-agrees k l h =
        let last = low - 1 in
        let at = found.below last (omega (arith, l)) in
        let in_k : length text ≤ agreement (head_at heads k) text = omega (arith, agreement-front text (head_at heads k) h, agreement-sym text (head_at heads k)) in
        let all : length text ≤ agreement (head_at heads last) text = squeezed (length text) (head_at heads k) (head_at heads last) text text in_k (agreement-self text)
        (rises k last (omega (arith, l)) (omega (arith, l, found.within, found.order))) at.0 in
        omega (arith, all, at.1, at.2)

    -- of those behind it, the first begins with it where one does
    above-agrees : (k : ℕ) → low ≤ k → k < length heads → begins_with (head_at heads k) text ≡ true → ⊥
    above-agrees k a l h =
        let above = found.above (omega (arith, here, a, l)) in
        let in_k : length text ≤ agreement (head_at heads k) text = omega (arith, agreement-front text (head_at heads k) h, agreement-sym text (head_at heads k)) in
        let all : length text ≤ agreement (head_at heads high) text = squeezed (length text) text (head_at heads high) (head_at heads k) text (agreement-self text) in_k
        (behind-flip (head_at heads high) text above.0) (rises high k (omega (arith, here, a)) l) in
        omega (arith, all, above.1)
      where
        behind-flip : (x y : List ℕ) → is_behind x y ≡ true → is_behind y x ≡ false
        behind-flip x y h = flip (slice_cmp nat_cmp x y) (slice_cmp nat_cmp y x) (nat_list_cmp_total.antisymm y x) h
          where
            flip : (o r : Ordering) → r ≡ ordering_reverse o → is_gt o ≡ true → is_gt r ≡ false
            flip Less r e h = cc
            flip Equal r e h = cc
            flip Greater r e h = ap is_gt e

    bracket-front : 0 < length heads → list_any (λ x. begins_with x text) heads ≡ leb (length text) agreed
    bracket-front some =
        any-none (λ x. begins_with x text) heads (λ k l. false_from_ne_true (begins_with (head_at heads k) text) (λ h. elim (cases_lt k low) [ inl s ↦ below-agrees k s h | inr s ↦ above-agrees k s l h ]))
        ∙ short (cases_lt 0 low)
      where
        short : (0 < low) ⊎ (low ≤ 0) → false ≡ leb (length text) agreed
        short (inl s) = let e : low - 1 + 1 ≡ low = omega (arith, s) in let b = found.below (low - 1) e in grind (arith, nat_tests)
        short (inr s) = let f : agreed ≡ 0 = found.first (omega (arith, s)) in let b = found.above (omega (arith, here, s, some)) in grind (arith, nat_tests)

  module _ (text : List ℕ) (low high agreed : ℕ) (met : IsMet heads text low high agreed) where
    met-found : (last : Option ℕ) → IsLastFront heads (met.place + 1) (take agreed (head_at heads met.place)) last → IsLastFront heads (length heads) text last
    met-found last h =
        let p = met.place in
        let front : begins_with (head_at heads p) text ≡ true = front-agreement text (head_at heads p) (omega (arith, met.all.0, met.all.1, agreement-sym text (head_at heads p))) in
        let whole : take agreed (head_at heads p) ≡ text = ap (λ n. take n (head_at heads p)) met.all.0 ∙ (same_agreed (agreement (head_at heads p) text) (head_at heads p) text (omega arith)
        ∙ take_all (agreement (head_at heads p) text) text (omega (arith, met.all.0, met.all.1))) in
        last-all text (p + 1) last (omega (arith, met.within))
        (λ k a l. false_from_ne_true (begins_with text (head_at heads k)) (λ t. not_later p k (omega (arith, a)) l (begins-through (head_at heads k) text (head_at heads p) t front)))
        (subst (λ t. IsLastFront heads (p + 1) t last) whole h)

    met-front : list_any (λ x. begins_with x text) heads ≡ leb (length text) agreed
    met-front =
        let p = met.place in
        any-some (λ x. begins_with x text) heads p met.within (front-agreement text (head_at heads p) (omega (arith, met.all.0, met.all.1, agreement-sym text (head_at heads p))))
        ∙ grind (arith, nat_tests)

  -- the heads that begin a text are those that begin the last of them
  pub chained : (text : List ℕ) (j : ℕ) → IsLastFront heads (length heads) text (Some j) → (k : ℕ) → k < length heads → begins_with text (head_at heads k) ≡ begins_with (head_at heads j) (head_at heads k)
  chained text j h k l =
      let b = h.begins j refl in
      both (begins_with text (head_at heads k)) (begins_with (head_at heads j) (head_at heads k))
      (λ e. elim (cases_lt j k) [
        | inl s ↦ absurd (both_ways (begins_with text (head_at heads k)) (h.later j refl k s l) e)
        | inr before ↦ begins-between (head_at heads k) (head_at heads j) text e (rises k j before b.0) (begins-not_behind (head_at heads j) text b.1)
      ])
      (λ e. begins-through (head_at heads k) (head_at heads j) text e b.1)

  pub chained_last : (text : List ℕ) (last : Option ℕ) → IsLastFront heads (length heads) text last → IfSome last (IsChainOf heads text)
  chained_last text None h = tt
  chained_last text (Some j) h = chained text j h

-- ---- where a search ended

module _ (heads : List (List ℕ)) (text : List ℕ) (low high agreed : ℕ) (some : 0 < length heads) (ended : high ≤ low) where
  pub none-found : IsSearched heads text low high agreed → low ≡ 0 → IsLastFront heads (length heads) text None
  none-found (inl b) e = bracket-none heads b.rising text low high agreed ended b e
  none-found (inr m) e = absurd (omega (arith, m.at, e))

  pub last-found : IsSearched heads text low high agreed → (place : ℕ) (last : Option ℕ) → place + 1 ≡ low → IsLastFront heads (place + 1) (take agreed (head_at heads place)) last → IsLastFront heads (length heads) text last
  last-found (inl b) place last e h = bracket-found heads b.rising text low high agreed ended b place last e h
  last-found (inr m) place last e h =
      let same : place ≡ m.place = omega (arith, m.at, e) in
      met-found heads m.rising text low high agreed m last (subst (λ p. IsLastFront heads (p + 1) (take agreed (head_at heads p)) last) same h)

  pub front-told : IsSearched heads text low high agreed → leb (length text) agreed ≡ list_any (λ x. begins_with x text) heads
  front-told (inl b) = sym (bracket-front heads b.rising text low high agreed ended b some)
  front-told (inr m) = sym (met-front heads m.rising text low high agreed m)

-- where one more text keeps the order, no text is behind it
pub last-not_behind : (heads : List (List ℕ)) (text : List ℕ) → IsRising (heads ++ text ∷ []) → (k : ℕ) → k < length heads → is_behind (head_at heads k) text ≡ false
last-not_behind heads text rising k l =
    let less = rising k (length heads) l (omega (arith, length-append heads (text ∷ []))) in
    subst (λ x. is_behind x text ≡ false) (get_or-append heads (text ∷ []) [] k l) (subst (λ y. is_behind (head_at (heads ++ text ∷ []) k) y ≡ false) (get_or-append_seam heads text [] []) (ap is_gt less))

-- ---- a list of one head

pub only-found : (heads : List (List ℕ)) (text : List ℕ) → length heads ≡ 1 → length (head_at heads 0) ≤ agreement (head_at heads 0) text → IsLastFront heads (length heads) text (Some 0)
only-found heads text one whole = record {
  begins = λ j e. let is : 0 ≡ j = cc in subst (λ i. (i < length heads) × (begins_with text (head_at heads i) ≡ true)) is (omega (arith, one), front-agreement (head_at heads 0) text whole);
  later = λ j e k a l. absurd (omega (arith, one, a, l));
  none = λ e. cc;
}

pub only-none : (heads : List (List ℕ)) (text : List ℕ) → length heads ≡ 1 → agreement (head_at heads 0) text < length (head_at heads 0) → IsLastFront heads (length heads) text None
only-none heads text one apart = record {
  begins = λ j e. cc;
  later = λ j e. cc;
  none = λ e k l. let is : 0 ≡ k = omega (arith, one, l) in subst (λ i. begins_with text (head_at heads i) ≡ false) is
      (false_from_ne_true (begins_with text (head_at heads 0)) (λ b. let w = agreement-front (head_at heads 0) text b in omega (arith, apart, w)));
}

-- what is said of the first heads holds where more follow
pub last_front-stays : (heads more : List (List ℕ)) (count : ℕ) (text : List ℕ) (last : Option ℕ) → count ≤ length heads → IsLastFront heads count text last → IsLastFront (heads ++ more) count text last
last_front-stays heads more count text last l h =
    let same : (k : ℕ) → k < count → head_at (heads ++ more) k ≡ head_at heads k = λ k b. get_or-append heads more [] k (omega (arith, b, l)) in
    record {
      begins = λ j e. let b = h.begins j e in (b.0, ap (begins_with text) (same j b.0) ∙ b.1);
      later = λ j e k a b. ap (begins_with text) (same k b) ∙ h.later j e k a b;
      none = λ e k b. ap (begins_with text) (same k b) ∙ h.none e k b;
    }
