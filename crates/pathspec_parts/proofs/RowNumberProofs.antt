-- The numbers of the rows of each path: one more, and the rows that a look-up applies.
use Rattle.std.proofs.Common.{◌≡◌, ◌∙◌, refl, sym, ap, subst, true, false, cond, Bool, ℕ, ◌+◌, ◌<◌, ◌≤◌, List, [], ◌∷◌, ◌++◌, map, length, get_or, fold, take, arith, Ordering, Option, Some, None, ⊎_elim}
use Rattle.std.proofs.lemmas.Bool.{cases_Bool, cond-true, cond-false}
use Rattle.std.proofs.lemmas.List.{append-nil, map-append, length-map, take_all, take_more}
use Rattle.std.proofs.lemmas.List.Sums.{fold_push}
use Rattle.std.proofs.lemmas.List.Elements.{filter-append}
use Rattle.std.proofs.lemmas.Option.{same_Some, slice_get_within, slice_get-map, slice_get-get_or, get_or_from_slice_get}
use Rattle.std.proofs.lemmas.Map.Text.{is_eq-slice_cmp}
use Rattle.std.specs.Prelude.{bytes_eq, slice_get, Vec}
use Rattle.std.specs.Option.{option_map, option_map_or}
use Rattle.std.specs.Ordering.{nat_cmp, is_eq, eq_by_cmp}
use Rattle.std.specs.Cmp.{eq_by_cmp_equiv}
use Rattle.std.specs.Cmp.Lexicographic.{slice_cmp, bytes_decides, nat_list_cmp_total, nat_list_eq_equiv}
use Rattle.std.specs.Global.{Global}
use Rattle.std.specs.BTreeMap.{get_by, UpdatesBy}
use Rattle.std.specs.Map.{lookup, KeepsOthers}
use Rattle.pathspec_parts.specs.Outcomes.{NamedState, apply_assignments}
use Rattle.pathspec_parts.specs.declared.attributes.state.Assignment.{Assignment as Whole}
use Rattle.pathspec_parts.specs.AttributeStates.{assignment_view}
use Rattle.pathspec_parts.specs.AttributeRows.{Row, rows_of, apply_rows}
use Rattle.pathspec_parts.proofs.TreeProofs.{get-append, get-last}
use Rattle.pathspec_parts.specs.RowNumbers.{rows_of_path, AreRowNumbers, Numbers, numbers_at, HaveRowNumbers, KeepsNumbers, AddsNumber}

-- ---- a map by the bytes of its keys

-- keys in the order of their bytes
abbrev pub key_cmp : Vec ℕ Global → Vec ℕ Global → Ordering
key_cmp x y = slice_cmp nat_cmp x.items y.items

-- what the map has at these bytes
abbrev value_at : Numbers → List ℕ → Option (Vec ℕ Global)
value_at numbers path = get_by (λ key. slice_cmp nat_cmp path key.items) numbers

apart : (path other key : List ℕ) → bytes_eq path other ≡ false → is_eq (slice_cmp nat_cmp path key) ≡ true → is_eq (slice_cmp nat_cmp other key) ≡ false
apart path other key n y =
    let at : bytes_eq path key ≡ true = sym (is_eq-slice_cmp path key) ∙ y in
    is_eq-slice_cmp other key ∙ (nat_list_eq_equiv.symm other key ∙ (sym (nat_list_eq_equiv.congr path key other at) ∙ n))

other_values : (old new : List (Vec ℕ Global × Vec ℕ Global)) (path other : List ℕ) → KeepsOthers (eq_by_cmp key_cmp) (λ key. is_eq (slice_cmp nat_cmp path key.items)) old new → bytes_eq path other ≡ false
    → lookup (λ key. is_eq (slice_cmp nat_cmp other key.items)) new ≡ lookup (λ key. is_eq (slice_cmp nat_cmp other key.items)) old
unfolding KeepsOthers
other_values old new path other h n = h (λ key. is_eq (slice_cmp nat_cmp other key.items)) (λ x y. (eq_by_cmp_equiv nat_list_cmp_total).congr other x.items y.items) (λ key. apart path other key.items n)

-- after a change at a path
value-updates : (old new : Numbers) (path : List ℕ) (w : Option (Vec ℕ Global)) → UpdatesBy key_cmp (λ key. slice_cmp nat_cmp path key.items) old new w → (other : List ℕ) → value_at new other ≡ cond (bytes_eq path other) w (value_at old other)
value-updates old new path w h other =
    ⊎_elim
    (λ y. subst (λ l. value_at new l ≡ w) ((bytes_decides path other).0 y) h.1 ∙ sym (cond-true (bytes_eq path other) w (value_at old other) y))
    (λ n. other_values old.entries new.entries path other h.3 n ∙ sym (cond-false (bytes_eq path other) w (value_at old other) n))
    (cases_Bool (bytes_eq path other))

-- the numbers of an own list, none where there is none
abbrev pub items_of : Option (Vec ℕ Global) → List ℕ
items_of own = option_map_or (λ v. v.items) own []

numbers-updates : (old new : Numbers) (path : List ℕ) (w : Vec ℕ Global) → UpdatesBy key_cmp (λ key. slice_cmp nat_cmp path key.items) old new (Some w) → (other : List ℕ) → numbers_at new other ≡ cond (bytes_eq path other) w.items (numbers_at old other)
numbers-updates old new path w h other = ap items_of (value-updates old new path (Some w) h other) ∙ by (bytes_eq path other)
  where
    by : (b : Bool) → items_of (cond b (Some w) (value_at old other)) ≡ cond b w.items (numbers_at old other)
    by true = refl
    by false = refl

-- at the path itself a list is what was there
at_path : (old : Numbers) (path other : List ℕ) (xs : List ℕ) → numbers_at old path ≡ xs → (f : List ℕ → List ℕ) → cond (bytes_eq path other) (f xs) (numbers_at old other) ≡ cond (bytes_eq path other) (f (numbers_at old other)) (numbers_at old other)
at_path old path other xs e f =
    ⊎_elim
    (λ y. ap (λ b. cond b (f xs) (numbers_at old other)) y ∙ (ap f (sym e ∙ ap (numbers_at old) ((bytes_decides path other).0 y)) ∙ ap (λ b. cond b (f (numbers_at old other)) (numbers_at old other)) (sym y)))
    (λ n. ap (λ b. cond b (f xs) (numbers_at old other)) n ∙ ap (λ b. cond b (f (numbers_at old other)) (numbers_at old other)) (sym n))
    (cases_Bool (bytes_eq path other))

-- a number is put after those of a path
pub adds-number : (old new : Numbers) (path : List ℕ) (number : ℕ) (own : List ℕ) (w : Vec ℕ Global) → numbers_at old path ≡ own → w.items ≡ own ++ number ∷ []
    → UpdatesBy key_cmp (λ key. slice_cmp nat_cmp path key.items) old new (Some w) → AddsNumber old new path number
adds-number old new path number own w has is h other =
    numbers-updates old new path w h other ∙ (ap (λ xs. cond (bytes_eq path other) xs (numbers_at old other)) is ∙ at_path old path other own has (λ xs. xs ++ number ∷ []))

-- those of a path are written back as they were
pub keeps-numbers : (old new : Numbers) (path : List ℕ) (own : List ℕ) (w : Vec ℕ Global) → numbers_at old path ≡ own → w.items ≡ own
    → UpdatesBy key_cmp (λ key. slice_cmp nat_cmp path key.items) old new (Some w) → KeepsNumbers old new
keeps-numbers old new path own w has is h other =
    numbers-updates old new path w h other ∙ (ap (λ xs. cond (bytes_eq path other) xs (numbers_at old other)) is ∙ (at_path old path other own has (λ xs. xs) ∙ same (bytes_eq path other)))
  where
    same : (b : Bool) → cond b (numbers_at old other) (numbers_at old other) ≡ numbers_at old other
    same true = refl
    same false = refl

-- ---- one row more

-- what stands at these numbers stands there still when there is one more
get-front : (rows more : List Row) (numbers : List ℕ) (own : List Row) → map (slice_get rows) numbers ≡ map Some own → map (slice_get (rows ++ more)) numbers ≡ map Some own
get-front rows more [] own e = e
get-front rows more (n ∷ numbers) [] e = absurd (cc)
get-front rows more (n ∷ numbers) (row ∷ own) e =
    let here : slice_get rows n ≡ Some row = cc in
    let rest : map (slice_get rows) numbers ≡ map Some own = cc in
    ap (λ x. x ∷ map (slice_get (rows ++ more)) numbers) (get-append rows more n row here) ∙ ap (λ xs. Some row ∷ xs) (get-front rows more numbers own rest)

-- the numbers of a path, with the new one where the row is its own
row-more : (rows : List Row) (row : Row) (path numbers : List ℕ) → AreRowNumbers rows path numbers → AreRowNumbers (rows ++ row ∷ []) path (cond (bytes_eq row.path path) (numbers ++ length rows ∷ []) numbers)
row-more rows row path numbers h = by (bytes_eq row.path path) refl
  where
    more : List Row
    more = rows ++ row ∷ []

    old : map (slice_get more) numbers ≡ map Some (rows_of_path path rows)
    old = get-front rows (row ∷ []) numbers (rows_of_path path rows) h

    by : (b : Bool) → bytes_eq row.path path ≡ b → map (slice_get more) (cond b (numbers ++ length rows ∷ []) numbers) ≡ map Some (rows_of_path path more)
    by true e =
        map-append (slice_get more) numbers (length rows ∷ [])
        ∙ (ap (λ xs. xs ++ slice_get more (length rows) ∷ []) old
        ∙ (ap (λ x. map Some (rows_of_path path rows) ++ x ∷ []) (get-last rows row)
        ∙ (sym (map-append Some (rows_of_path path rows) (row ∷ []))
        ∙ ap (map Some) (sym (filter-append (λ r. bytes_eq r.path path) rows (row ∷ []) ∙ ap (λ c. rows_of_path path rows ++ cond c (row ∷ []) []) e)))))
    by false e =
        old ∙ ap (map Some) (sym (filter-append (λ r. bytes_eq r.path path) rows (row ∷ []) ∙ (ap (λ c. rows_of_path path rows ++ cond c (row ∷ []) []) e ∙ append-nil (rows_of_path path rows))))

pub numbers-more : (rows : List Row) (row : Row) (old new : Numbers) → HaveRowNumbers rows old → AddsNumber old new row.path (length rows) → HaveRowNumbers (rows ++ row ∷ []) new
numbers-more rows row old new h a path = subst (AreRowNumbers (rows ++ row ∷ []) path) (sym (a path)) (row-more rows row path (numbers_at old path) (h path))

-- ---- the rows that a look-up applies

-- each row applied, whatever its path
abbrev pub apply_each : List NamedState → List Row → List NamedState
apply_each places rows = fold (λ ps (row : Row). apply_assignments ps row.assignments) places rows

-- to apply all rows is to apply those of the path
pub apply-rows_of_path : (path : List ℕ) (rows : List Row) (places : List NamedState) → apply_rows path places rows ≡ apply_each places (rows_of_path path rows)
apply-rows_of_path path [] places = refl
apply-rows_of_path path (row ∷ rows) places = by (bytes_eq row.path path) (apply-rows_of_path path rows (apply_assignments places row.assignments)) (apply-rows_of_path path rows places)
  where
    by : (b : Bool) → apply_rows path (apply_assignments places row.assignments) rows ≡ apply_each (apply_assignments places row.assignments) (rows_of_path path rows) → apply_rows path places rows ≡ apply_each places (rows_of_path path rows)
        → apply_rows path (cond b (apply_assignments places row.assignments) places) rows ≡ apply_each places (cond b (row ∷ rows_of_path path rows) (rows_of_path path rows))
    by true more others = more
    by false more others = others

-- the row with the number at a place
pub row-at : (rows : List Row) (path numbers : List ℕ) → AreRowNumbers rows path numbers → (i n : ℕ) → slice_get numbers i ≡ Some n → (row : Row) × (slice_get rows n ≡ Some row) × (slice_get (rows_of_path path rows) i ≡ Some row)
row-at rows path numbers h i n s = by (slice_get (rows_of_path path rows) i) refl
  where
    at : Some (slice_get rows n) ≡ option_map Some (slice_get (rows_of_path path rows) i)
    at = sym (slice_get-map (slice_get rows) numbers i ∙ ap (option_map (slice_get rows)) s) ∙ (ap (λ t. slice_get t i) h ∙ slice_get-map Some (rows_of_path path rows) i)

    by : (o : Option Row) → slice_get (rows_of_path path rows) i ≡ o → (row : Row) × (slice_get rows n ≡ Some row) × (slice_get (rows_of_path path rows) i ≡ Some row)
    by (Some row) e = let found : slice_get rows n ≡ Some row = same_Some _ _ (at ∙ ap (option_map Some) e) in (row, found, e)
    by None e = absurd (let all = at ∙ ap (option_map Some) e in let q : ⊥ = cc in q)

-- there are as many numbers as rows of the path
pub numbers-count : (rows : List Row) (path numbers : List ℕ) → AreRowNumbers rows path numbers → length numbers ≡ length (rows_of_path path rows)
numbers-count rows path numbers h = sym (length-map numbers (slice_get rows)) ∙ (ap length h ∙ length-map (rows_of_path path rows) Some)

module _ (pairs : List (Vec ℕ Global × Vec Whole Global)) (path numbers : List ℕ) (h : AreRowNumbers (rows_of pairs) path numbers) where
  abbrev own : List Row
  own = rows_of_path path (rows_of pairs)

  -- a number is that of a row
  pub number-within : (i : ℕ) → i < length numbers → get_or numbers i 0 < length pairs
  number-within i l =
      let row = row-at (rows_of pairs) path numbers h i (get_or numbers i 0) (slice_get-get_or numbers i 0 l) in
      let w = slice_get_within (rows_of pairs) (get_or numbers i 0) row.0 row.1 in
      let count : length (rows_of pairs) ≡ length pairs = length-map pairs _ in
      omega (arith, w, count)

  module _ (places : List NamedState) where
    -- one more of them is applied
    pub applies-more : (i : ℕ) → i < length numbers → (pair : Vec ℕ Global × Vec Whole Global) → apply_assignments (apply_each places (take i own)) (map assignment_view (get_or pairs (get_or numbers i 0) pair).1.items) ≡ apply_each places (take (i + 1) own)
    applies-more i l pair =
        let n = get_or numbers i 0 in
        let found = row-at (rows_of pairs) path numbers h i n (slice_get-get_or numbers i 0 l) in
        let row = found.0 in
        let there = slice_get-map _ pairs n ∙ ap (option_map _) (slice_get-get_or pairs n pair (number-within i l)) in
        let assigned : map assignment_view (get_or pairs n pair).1.items ≡ row.assignments = ap (λ (r : Row). r.assignments) (same_Some _ row (sym there ∙ found.1)) in
        let within = slice_get_within own i row found.2 in
        let more : take (i + 1) own ≡ take i own ++ row ∷ [] = take_more own i row within ∙ ap (λ x. take i own ++ x ∷ []) (get_or_from_slice_get own i row row found.2) in
        ap (apply_assignments (apply_each places (take i own))) assigned ∙ (sym (fold_push (λ ps (r : Row). apply_assignments ps r.assignments) places (take i own) row) ∙ ap (apply_each places) (sym more))

    -- all of them are
    pub applies-all : (i : ℕ) → length numbers ≤ i → apply_each places (take i own) ≡ apply_rows path places (rows_of pairs)
    applies-all i l =
        let count = numbers-count (rows_of pairs) path numbers h in
        ap (apply_each places) (take_all i own (omega (arith, l, count))) ∙ sym (apply-rows_of_path path (rows_of pairs) places)
