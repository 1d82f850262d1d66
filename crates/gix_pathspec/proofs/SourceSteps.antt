-- What specs give, gathered in a loop over them: one spec more gives something, or nothing.
use Rattle.std.proofs.Common.{◌≡◌, ℕ, zero, suc, ◌+◌, ◌<◌, ◌≤◌, Bool, true, false, cond, refl, sym, ◌∙◌, ap, arith, List, [], ◌∷◌, ◌++◌, length, take, get_or, slice_get, Option, Some, None, append-nil, length-append, length-take}
use Rattle.std.specs.Prelude.{filter_map, is_some}
use Rattle.std.specs.List.{cons_option}
use Rattle.std.proofs.lemmas.List.{length-take-le, take_more}
use Rattle.std.proofs.lemmas.List.Elements.{filter_map-append}
use Rattle.gix_pathspec.specs.Specs.{Spec}
use Rattle.gix_pathspec.specs.Search.{Numbered}
use Rattle.gix_pathspec.specs.SetSources.{has_source, source_places}
use Rattle.gix_pathspec.proofs.PositionProofs.{positions-more}

-- the specs up to one and with it
taken-more : (specs : List Numbered) (i : ℕ) (n : Numbered) → i < length specs → n ≡ get_or specs i n → take (i + 1) specs ≡ take i specs ++ n ∷ []
taken-more specs i n l is = take_more specs i n l ∙ ap (λ m. take i specs ++ m ∷ []) (sym is)

-- the places of those that have a source of a set
pub places-step : (specs : List Numbered) (i : ℕ) (n : Numbered) → i < length specs → n ≡ get_or specs i n → (b : Bool) → b ≡ has_source n.spec
    → source_places (take (i + 1) specs) ≡ source_places (take i specs) ++ cond b (i ∷ []) []
places-step specs i n l is b e =
    let at : 0 + length (take i specs) ≡ i = omega (arith, length-take i specs, l) in
    ap source_places (taken-more specs i n l is) ∙ positions-more (λ (m : Numbered). has_source m.spec) 0 (take i specs) n
    ∙ ap (λ k. source_places (take i specs) ++ cond (has_source n.spec) (k ∷ []) []) at ∙ ap (λ c. source_places (take i specs) ++ cond c (i ∷ []) []) (sym e)

module _ {X : Type 0} (gives : Spec → Option X) where
  -- what specs give, in order
  abbrev all : List Numbered → List X
  all specs = filter_map (λ (m : Numbered). gives m.spec) specs

  -- what the specs up to one give, where that gives something or doesn't
  pub given-step : (specs : List Numbered) (i : ℕ) (n : Numbered) → i < length specs → n ≡ get_or specs i n → (o : Option X) → o ≡ gives n.spec
      → all (take (i + 1) specs) ≡ all (take i specs) ++ cons_option o []
  given-step specs i n l is o e =
      ap all (taken-more specs i n l is) ∙ filter_map-append (λ (m : Numbered). gives m.spec) (take i specs) (n ∷ []) ∙ ap (λ p. all (take i specs) ++ cons_option p []) (sym e)

  -- how much that is
  pub counts-step : (specs : List Numbered) (i : ℕ) (n : Numbered) → i < length specs → n ≡ get_or specs i n → (b : Bool) → b ≡ is_some (gives n.spec)
      → length (all (take (i + 1) specs)) ≡ length (all (take i specs)) + cond b 1 0
  counts-step specs i n l is b e =
      ap (λ (xs : List X). length xs) (given-step specs i n l is (gives n.spec) refl) ∙ more (gives n.spec) ∙ ap (λ c. length (all (take i specs)) + cond c 1 0) (sym e)
    where
      more : (o : Option X) → length (all (take i specs) ++ cons_option o []) ≡ length (all (take i specs)) + cond (is_some o) 1 0
      more (Some x) = omega (arith, length-append (all (take i specs)) (x ∷ []))
      more None = omega (arith, length-append {A = X} (all (take i specs)) [])

  -- no more than the specs
  pub few-given : (specs : List Numbered) → length (all specs) ≤ length specs
  few-given [] = omega arith
  few-given (n ∷ specs) = at (gives n.spec) (few-given specs)
    where
      at : (o : Option X) → length (all specs) ≤ length specs → length (cons_option o (all specs)) ≤ length (n ∷ specs)
      at (Some x) e = omega (arith, e)
      at None e = omega (arith, e)

  -- ---- one by one

  -- what a spec gives stands behind what those before it give
  given-at : (specs : List Numbered) (i : ℕ) (n : Numbered) (x : X) → i < length specs → n ≡ get_or specs i n → gives n.spec ≡ Some x
      → slice_get (all specs) (length (all (take i specs))) ≡ Some x
  given-at [] i n x l is e = absurd (let no : ⊥ = omega (arith, l) in no)
  given-at (m ∷ specs) zero n x l is e = at (gives m.spec) (ap (λ (m : Numbered). gives m.spec) (sym is) ∙ e)
    where
      at : (o : Option X) → o ≡ Some x → slice_get (cons_option o (all specs)) 0 ≡ Some x
      at (Some y) e = e
      at None e = cc
  given-at (m ∷ specs) (suc i) n x l is e = at (gives m.spec) (given-at specs i n x (omega (arith, l)) is e)
    where
      at : (o : Option X) → slice_get (all specs) (length (all (take i specs))) ≡ Some x
          → slice_get (cons_option o (all specs)) (length (cons_option o (all (take i specs)))) ≡ Some x
      at (Some y) h = h
      at None h = h

  -- something is given
  pub some-given : (s : Spec) → true ≡ is_some (gives s) → (x : X) × (gives s ≡ Some x)
  some-given s is = at (gives s) is
    where
      at : (o : Option X) → true ≡ is_some o → (x : X) × (o ≡ Some x)
      at (Some x) e = (x, refl)
      at None e = cc

  -- or nothing
  none-given : (s : Spec) → false ≡ is_some (gives s) → None ≡ gives s
  none-given s is = at (gives s) is
    where
      at : (o : Option X) → false ≡ is_some o → None ≡ o
      at (Some x) e = cc
      at None e = refl

  -- where a list has what the specs give, the next in it is what the next spec gives
  pub given-next : (specs : List Numbered) (xs : List X) (i rank : ℕ) (n : Numbered) → i < length specs → n ≡ get_or specs i n
      → rank ≤ length xs → take rank xs ≡ all (take i specs) → true ≡ is_some (gives n.spec) → xs ≡ all specs → slice_get xs rank ≡ gives n.spec
  given-next specs xs i rank n l is low so_far some whole =
      let own = some-given n.spec some in
      let count : length (all (take i specs)) ≡ rank = ap (λ (ys : List X). length ys) (sym so_far) ∙ length-take-le rank xs low in
      ap (λ (ys : List X). slice_get ys rank) whole ∙ ap (slice_get (all specs)) (sym count) ∙ given-at specs i n own.0 l is own.1 ∙ sym own.1

  -- one more in it is what the next spec gives
  pub taken-step : (specs : List Numbered) (xs : List X) (i rank : ℕ) (n : Numbered) (x : X) → i < length specs → n ≡ get_or specs i n
      → rank < length xs → x ≡ get_or xs rank x → take rank xs ≡ all (take i specs) → gives n.spec ≡ Some x
      → take (rank + 1) xs ≡ all (take (i + 1) specs)
  taken-step specs xs i rank n x l is low read so_far own =
      take_more xs rank x low ∙ ap (λ m. take rank xs ++ m ∷ []) (sym read) ∙ ap (λ ys. ys ++ x ∷ []) so_far
      ∙ sym (given-step specs i n l is (Some x) (sym own))

  -- no more where the next spec gives nothing
  pub taken-past : (specs : List Numbered) (xs : List X) (i rank : ℕ) (n : Numbered) → i < length specs → n ≡ get_or specs i n
      → take rank xs ≡ all (take i specs) → false ≡ is_some (gives n.spec) → take rank xs ≡ all (take (i + 1) specs)
  taken-past specs xs i rank n l is so_far none =
      so_far ∙ sym (append-nil (all (take i specs))) ∙ sym (given-step specs i n l is None (none-given n.spec none))
