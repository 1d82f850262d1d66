-- Where no head is that of four specs, no head has a set.
use Rattle.std.proofs.Common.{◌≡◌, ℕ, zero, suc, ◌+◌, ◌<◌, ◌≤◌, Bool, true, false, cond, inl, inr, refl, sym, ◌∙◌, ap, subst, arith, List, [], ◌∷◌, length, filter, get_or, ltb, Some, None}
use Rattle.std.specs.Prelude.{Option, bytes_eq}
use Rattle.std.specs.List.{cons_option}
use Rattle.std.proofs.lemmas.Bool.{and_parts, both_ways, cases_lt, ltb-false, not-true}
use Rattle.std.proofs.lemmas.List.{get_or-map, length-map}
use Rattle.std.proofs.lemmas.List.Elements.{All-nil}
use Rattle.std.proofs.lemmas.Map.Text.{is_eq-slice_cmp}
use Rattle.std.proofs.lemmas.Slice.Eq.{bytes_eq-Decides}
use Rattle.std.specs.Cmp.Lexicographic.{slice_cmp}
use Rattle.std.specs.Ordering.{is_eq, nat_cmp}
use Rattle.std.specs.declared.cmp.Ordering.TheVariants.{Less}
use Rattle.std.proofs.lemmas.Option.{get_or_from_slice_get}
use Rattle.pathspec_heads.specs.Heads.{head_at, IsRising}
use Rattle.pathspec_heads.specs.Groups.{group_size, start_of, IsInGroup, IsLargestGroup, IsOrder, GroupedPlaces}
use Rattle.gix_pathspec.specs.Effort.{heads_in_order, ArePlacesOf}
use Rattle.gix_pathspec.specs.HeadSets.{AreHeadSetsOf, IsHeadSetOf}
use Rattle.gix_pathspec.specs.Prefixes.{head}
use Rattle.gix_pathspec.specs.Search.{Numbered}
use Rattle.gix_pathspec.specs.SetSources.{all_sources, has_set_behind, is_behind, positions_from, set_source_of, sources_behind, SetSource}
use Rattle.gix_pathspec.proofs.HeadSearchProofs.{got-within}
use Rattle.gix_pathspec.proofs.PositionProofs.{position-at, positions-count, positions-rise}
use Rattle.gix_pathspec.proofs.SetSourceProofs.{set-source-parts}

-- ---- a group of places

module _ (heads : List (List ℕ)) (starts order : List ℕ) (is : IsOrder heads starts order) (k : ℕ) (l : k < length heads) where
  -- places that rise, and stand in one group, are no more than the group has
  module _ (places : List ℕ) (rise : (i j : ℕ) → i < j → j < length places → get_or places i 0 < get_or places j 0)
      (in_group : (j : ℕ) → j < length places → IsInGroup starts order k (get_or places j 0)) where
    stands : (j : ℕ) (b : j < length places) → start_of starts k + j ≤ (in_group j b).at
    stands zero b = omega (arith, (in_group 0 b).from)
    stands (suc j) b =
        let before = in_group j (omega (arith, b)) in
        let own = in_group (suc j) b in
        elim (cases_lt before.at own.at) [
          | inl less ↦ omega (arith, less, stands j (omega (arith, b)))
          | inr g ↦
              let low = is.ascending k own.at before.at l own.from g before.before in
              let higher = rise j (suc j) (omega arith) b in
              absurd (let no : ⊥ = omega (arith, low, higher, before.is, own.is) in no)
        ]

    pub few-stand : length places ≤ group_size starts order k
    few-stand = at places refl
      where
        at : (ps : List ℕ) → ps ≡ places → length ps ≤ group_size starts order k
        at [] e = omega arith
        at (p ∷ ps) e =
            let size : length places ≡ suc (length ps) = ap length (sym e) in
            let b : length ps < length places = omega (arith, size) in
            omega (arith, stands (length ps) b, (in_group (length ps) b).before)

-- no head stands twice
same-number : (heads : List (List ℕ)) → IsRising heads → (j k : ℕ) → j < length heads → k < length heads → head_at heads j ≡ head_at heads k → j ≡ k
same-number heads rising j k lj lk same = elim (cases_lt j k) [
  | inl less ↦ absurd (apart j k less lk same)
  | inr g ↦ elim (cases_lt k j) [
    | inl less ↦ absurd (apart k j less lj (sym same))
    | inr e ↦ omega (arith, g, e)
  ]
]
  where
    apart : (i n : ℕ) → i < n → n < length heads → head_at heads i ≡ head_at heads n → ⊥
    apart i n less l e =
        let told : slice_cmp nat_cmp (head_at heads i) (head_at heads i) ≡ Less = ap (slice_cmp nat_cmp (head_at heads i)) e ∙ rising i n less l in
        let off : bytes_eq (head_at heads i) (head_at heads i) ≡ false = sym (is_eq-slice_cmp (head_at heads i) (head_at heads i)) ∙ ap is_eq told in
        both_ways (bytes_eq (head_at heads i) (head_at heads i)) off ((bytes_eq-Decides (head_at heads i) (head_at heads i)).1 refl)

-- ---- the specs of a head

-- the spec has this head
abbrev has_head : List ℕ → Numbered → Bool
has_head h n = bytes_eq (head n.spec) h

-- at least as many as its sources
sources-few : (h : List ℕ) (specs : List Numbered) → length (sources_behind h (all_sources specs)) ≤ length (filter (has_head h) specs)
sources-few h [] = omega arith
sources-few h (n ∷ specs) = at (set_source_of n.spec) (λ source e. (set-source-parts n.spec source e).is_head) (has_head h n) refl (sources-few h specs)
  where
    at : (o : Option SetSource) → ((source : SetSource) → o ≡ Some source → source.head ≡ head n.spec) → (b : Bool) → has_head h n ≡ b
        → length (sources_behind h (all_sources specs)) ≤ length (filter (has_head h) specs)
        → length (sources_behind h (cons_option o (all_sources specs))) ≤ length (cond b (n ∷ filter (has_head h) specs) (filter (has_head h) specs))
    at None own true e more = omega (arith, more)
    at None own false e more = more
    at (Some source) own b e more =
        let same : is_behind h source ≡ b = ap (λ g. bytes_eq g h) (own source refl) ∙ e in
        rw same (both b more)
      where
        both : (b : Bool) → length (sources_behind h (all_sources specs)) ≤ length (filter (has_head h) specs)
            → length (cond b (source ∷ sources_behind h (all_sources specs)) (sources_behind h (all_sources specs))) ≤ length (cond b (n ∷ filter (has_head h) specs) (filter (has_head h) specs))
        both true m = omega (arith, m)
        both false m = m

-- Where the largest group of specs by their heads has fewer than four, no head has a set.
module _ (specs : List Numbered) (places : GroupedPlaces) (are : ArePlacesOf specs places) (order : IsOrder places.heads places.starts places.order) (largest : ℕ) (is : IsLargestGroup places largest) where
  group-of : (h : List ℕ) (j : ℕ) (l : j < length (positions_from (has_head h) 0 specs))
      → (k : ℕ) × (k < length places.heads) × (head_at places.heads k ≡ h) × IsInGroup places.starts places.order k (get_or (positions_from (has_head h) 0 specs) j 0)
  group-of h j l =
      let r = position-at (has_head h) 0 specs j l in
      let within = got-within specs r.at r.element r.there in
      let own : head_at (heads_in_order specs) r.at ≡ head r.element.spec = get_or-map (λ (n : Numbered). head n.spec) specs r.at r.element [] within ∙ ap (λ (n : Numbered). head n.spec) (get_or_from_slice_get specs r.at r.element r.element r.there) in
      let f = are.listed r.at (omega (arith, within, length-map specs (λ (n : Numbered). head n.spec))) in
      (f.0, f.1, f.2 ∙ own ∙ (bytes_eq-Decides (head r.element.spec) h).0 r.passes, subst (IsInGroup places.starts places.order f.0) (omega (arith, r.place)) f.3)

  few-specs : (h : List ℕ) → length (positions_from (has_head h) 0 specs) ≤ largest
  few-specs h = at (positions_from (has_head h) 0 specs) refl
    where
      at : (ps : List ℕ) → ps ≡ positions_from (has_head h) 0 specs → length ps ≤ largest
      at [] e = omega arith
      at (p ∷ ps) e =
          let size : length (positions_from (has_head h) 0 specs) ≡ suc (length ps) = ap (λ (xs : List ℕ). length xs) (sym e) in
          let g = group-of h 0 (omega (arith, size)) in
          let few = few-stand places.heads places.starts places.order order g.0 g.1 (positions_from (has_head h) 0 specs) (positions-rise (has_head h) 0 specs)
          (λ j l. let f = group-of h j l in subst (λ k. IsInGroup places.starts places.order k (get_or (positions_from (has_head h) 0 specs) j 0)) (same-number places.heads order.rising f.0 g.0 f.1 g.1 (f.2 ∙ sym g.2)) f.3) in
          omega (arith, size, few, is.all g.0 g.1)

  pub no-sets-behind : largest < 4 → (h : List ℕ) → has_set_behind (all_sources specs) h ≡ true → ⊥
  no-sets-behind few h has =
      let four = ltb-false (length (sources_behind h (all_sources specs))) 4 (not-true (ltb (length (sources_behind h (all_sources specs))) 4) (and_parts _ _ has).0) in
      let no : ⊥ = omega (arith, four, sources-few h specs, positions-count (has_head h) 0 specs, few-specs h, few) in
      no

  -- so there is no set to make
  pub no-sets-made : largest < 4 → AreHeadSetsOf (all_sources specs) []
  no-sets-made few = record {
    each = All-nil (IsHeadSetOf (all_sources specs));
    all = λ h has. absurd (no-sets-behind few h has);
    apart = λ j k less l. absurd (let no : ⊥ = omega (arith, l) in no);
  }
