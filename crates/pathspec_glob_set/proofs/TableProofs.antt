-- Tables of rows that texts led to.
use Rattle.std.proofs.Common.{◌≡◌, ◌≢◌, ℕ, zero, suc, ◌+◌, ◌-◌, ◌*◌, ◌<◌, ◌≤◌, Bool, true, false, ◌&&◌, ◌||◌, refl, sym, ◌∙◌, ap, subst, arith, inl, inr, List, [], ◌∷◌, ◌++◌, length, get_or, set, replicate, drop, ◌^◌}
use Rattle.std.proofs.lemmas.Bool.{cases_eq, cases_lt, true≢false}
use Rattle.std.proofs.lemmas.List.{get_or-set_same, get_or-set_other, length-set, get_or-replicate, length-replicate, get_or_past, drop_more}
use Rattle.std.proofs.Math.Nat.{mul-le-mul_right}
use Rattle.std.proofs.lemmas.Nat.{same_from_place, mul-add-lt}
use Rattle.pathspec_glob.specs.GlobCells.{further}
use Rattle.pathspec_glob.specs.BitVecs.{holds}
use Rattle.pathspec_glob_set.specs.declared.table.moves.Moves.{Moves}
use Rattle.pathspec_glob_set.specs.Moves.{class_of, entered_by, HoldsNone, IsLost, IsSink, IsStep, LeadsNowhere, LeadsTo, takes_of}
use Rattle.pathspec_glob_set.specs.Moves.LeadsTo.{byte, empty}
use Rattle.pathspec_glob_set.specs.Rows.{leads_on, taken_of}
use Rattle.pathspec_glob_set.specs.Sizes.{row_at, IsFirst}
use Rattle.pathspec_glob_set.specs.declared.table.Table.{Table}
use Rattle.pathspec_glob_set.specs.Tables.{cell_of, most_misses, nowhere, row_of, unknown, AddsSpare, AreCells, AreFewSteps, AreRows, AreSinks, BeginsText, ClearsWhenFull, CountsSteps, IsRight, IsTable}

-- ---- rows

row-same : (rows : List (List Bool)) (i : ℕ) (row : List Bool) → i < length rows → row_at (set rows i row) i ≡ row
row-same rows i row h = get_or-set_same rows i row [] h

row-other : (rows : List (List Bool)) (i r : ℕ) (row : List Bool) → (r ≡ i → ⊥) → row_at (set rows i row) r ≡ row_at rows r
row-other rows i r row n = get_or-set_other rows i r row [] n

-- the first row alone
pub one-row : (moves : Moves) (rows : List (List Bool)) (firsts : List ℕ) (used : ℕ) → AreRows moves rows firsts used → AreRows moves rows firsts 1
one-row moves rows firsts used are = record {
  sizes = are.sizes;
  few = are.few;
  many = are.many;
  within = omega (arith, are.many);
  some = omega arith;
  first = are.first;
  alike = are.alike;
  globs = λ r h. are.globs r (omega (arith, h, are.some));
}

-- ---- cells

-- a cell's place is one of the cells
pub cell-within : (moves : Moves) (rows : List (List Bool)) (used : ℕ) (cells : List ℕ) (r c : ℕ) → AreCells moves rows used cells → r < length rows → c < length moves.takes.items
    → r * length moves.takes.items + c < length cells
cell-within moves rows used cells r c are low small =
    omega (arith, mul-add-lt r (length moves.takes.items) c (length rows) low small, are.size, mul-turned (length rows) (length moves.takes.items))
  where
    mul-turned : (a b : ℕ) → a * b ≡ b * a
    mul-turned a b = omega arith

-- what a cell that is filled says stays right
pub put-cell : (moves : Moves) (rows : List (List Bool)) (used : ℕ) (cells : List ℕ) (row class cell : ℕ) → AreCells moves rows used cells → row < used → used ≤ length rows
    → class < length moves.takes.items → IsRight moves rows used (row_at moves.takes.items class) (row_at rows row) cell
    → AreCells moves rows used (set cells (row * length moves.takes.items + class) cell)
put-cell moves rows used cells row class cell are low within small right =
    let width = length moves.takes.items in
    let at = row * width + class in
    let there : at < length cells = cell-within moves rows used cells row class are (omega (arith, low, within)) small in
    record {
      size = length-set cells at cell ∙ are.size;
      filled = λ r c h known. elim (cases_eq (r * width + c) at) [
        | inl e ↦
            let same = same_from_place r c row class width h small e in
            let read : get_or (set cells at cell) (r * width + c) unknown ≡ cell = ap (λ k. get_or (set cells at cell) k unknown) e ∙ get_or-set_same cells at cell unknown there in (
              subst (λ k. k < used) (sym same.0) low,
              subst (λ k. IsRight moves rows used (row_at moves.takes.items c) (row_at rows r) k) (sym read)
                  (subst (λ k. IsRight moves rows used (row_at moves.takes.items k) (row_at rows r) cell) (sym same.1)
                  (subst (λ k. IsRight moves rows used (row_at moves.takes.items class) (row_at rows k) cell) (sym same.0) right)),
            )
        | inr n ↦
            let read : get_or (set cells at cell) (r * width + c) unknown ≡ get_or cells (r * width + c) unknown = get_or-set_other cells at (r * width + c) cell unknown n in
            let was = are.filled r c h (λ none. known (read ∙ none)) in
            (was.0, subst (λ k. IsRight moves rows used (row_at moves.takes.items c) (row_at rows r) k) (sym read) was.1)
      ];
    }

-- cells of which none is filled
pub unknown-cells : (moves : Moves) (rows : List (List Bool)) (used size : ℕ) → size ≡ length rows * length moves.takes.items → AreCells moves rows used (replicate size unknown)
unknown-cells moves rows used size e = record {
  size = length-replicate size unknown ∙ e;
  filled = λ r c h known. absurd (known (none (r * length moves.takes.items + c)));
}
  where
    none : (k : ℕ) → get_or (replicate size unknown) k unknown ≡ unknown
    none k = elim (cases_lt k size) [
      | inl l ↦ get_or-replicate size k unknown unknown l
      | inr g ↦ get_or_past (replicate size unknown) k unknown (omega (arith, g, length-replicate size unknown))
    ]

-- cells that are all forgotten
pub no-cells : (moves : Moves) (rows : List (List Bool)) (used new : ℕ) (cells : List ℕ) → AreCells moves rows used cells → AreCells moves rows new (replicate (length cells) unknown)
no-cells moves rows used new cells are = unknown-cells moves rows new (length cells) are.size

-- rows that are all that of the empty text, the first of which is in use
pub new-rows : (moves : Moves) (rows : List (List Bool)) (firsts : List ℕ) (count first : ℕ) → 2 ≤ count → count ≤ nowhere → length rows ≡ count
    → ((r : ℕ) → r < count → row_at rows r ≡ moves.start) → firsts ≡ replicate count first → IsFirst moves.ends.items moves.start 0 first → AreRows moves rows firsts 1
new-rows moves rows firsts count first many few len alike are is = record {
  sizes = λ r h. ap length (alike r (omega (arith, h, len))) ∙ moves.sizes.start_alike;
  few = omega (arith, few, len);
  many = omega (arith, many, len);
  within = omega (arith, many, len);
  some = omega arith;
  first = alike 0 (omega (arith, many));
  alike = ap length are ∙ length-replicate count first ∙ sym len;
  globs = λ r h.
      let found : get_or firsts r 0 ≡ first = ap (λ k. get_or k r 0) are ∙ get_or-replicate count r first 0 (omega (arith, h, many)) in
      subst (λ x. IsFirst moves.ends.items x 0 (get_or firsts r 0)) (sym (alike r (omega (arith, h, many)))) (subst (λ x. IsFirst moves.ends.items moves.start 0 x) (sym found) is);
}

-- ---- texts that lead to no place

further-off : (f : ℕ → Bool) (k : ℕ) → ((j : ℕ) → f j ≡ false) → further false f k ≡ false
further-off f zero none = refl
further-off f (suc k) none = none k

all-off : {a t s z : Bool} (w : Bool) → a ≡ false → t ≡ false → s ≡ false → z ≡ false → ((a || (t && w)) || (s || z)) ≡ false
all-off w p q r u = rw (p, q, r, u) refl

both-off : {a b : Bool} → a ≡ false → b ≡ false → (a || b) ≡ false
both-off p q = rw (p, q) refl

first-off : (a b : Bool) → (a || b) ≡ false → a ≡ false
first-off true b e = e
first-off false b e = refl

-- from a row without a place each byte leads to it
pub stays-lost : (moves : Moves) (takes row : List Bool) → length row ≡ length moves.wide → HoldsNone row → IsStep moves takes row row
stays-lost moves takes row size none = record {
  size = size;
  places = λ i h uncut.
      let off : (f : ℕ → Bool) (j : ℕ) → (holds row j && f j) ≡ false = λ f j. ap (λ x. x && f j) (none j) in
      none i
      ∙ sym (all-off (holds moves.wide i) (further-off (taken_of takes row) i (off (holds takes))) (off (holds takes) i) (further-off (λ j. holds row j && holds moves.wide j) i (off (holds moves.wide)))
      (further-off (further false (λ j. holds row j && holds moves.over j)) i (λ j. further-off (λ k. holds row k && holds moves.over k) j (off (holds moves.over)))));
}

leads-size : (moves : Moves) (text : List ℕ) (row : List Bool) → LeadsTo moves text row → length row ≡ length moves.wide
leads-size moves [] row empty = moves.sizes.start_alike
leads-size moves (b ∷ text) row (byte fits from step) = step.size

-- where a text leads to no place, it does with a byte before it
lost-more : (moves : Moves) (b : ℕ) (text : List ℕ) → b < 256 → LeadsNowhere moves text → LeadsNowhere moves (b ∷ text)
lost-more moves b text fits nowhere =
    (nowhere.0, (byte fits nowhere.1.0 (stays-lost moves (takes_of moves b) nowhere.0 (leads-size moves text nowhere.0 nowhere.1.0) nowhere.1.1), nowhere.1.1))

-- where the end of a text leads to no place, the text does
pub lost-front : (moves : Moves) (k : ℕ) (text behind : List ℕ) → ((i : ℕ) → get_or text i 0 < 256) → LeadsNowhere moves (drop k text ++ behind) → LeadsNowhere moves (text ++ behind)
lost-front moves zero text behind fits nowhere = nowhere
lost-front moves (suc k) [] behind fits nowhere = nowhere
lost-front moves (suc k) (b ∷ text) behind fits nowhere = lost-more moves b (text ++ behind) (fits 0) (lost-front moves k text behind (λ i. fits (suc i)) nowhere)

-- where the bytes behind a text lead to no place, it does
pub lost-behind : (moves : Moves) (text behind : List ℕ) → ((i : ℕ) → get_or text i 0 < 256) → LeadsNowhere moves behind → LeadsNowhere moves (text ++ behind)
lost-behind moves [] behind fits nowhere = nowhere
lost-behind moves (b ∷ text) behind fits nowhere = lost-more moves b (text ++ behind) (fits 0) (lost-behind moves text behind (λ i. fits (suc i)) nowhere)

-- ---- sinks

-- where the end of a text leads to a sink, the text does
pub sink-front : (moves : Moves) (k : ℕ) (text behind : List ℕ) (row : List Bool) → ((i : ℕ) → get_or text i 0 < 256) → IsSink moves row → LeadsTo moves (drop k text ++ behind) row
    → LeadsTo moves (text ++ behind) row
sink-front moves zero text behind row fits sink leads = leads
sink-front moves (suc k) [] behind row fits sink leads = leads
sink-front moves (suc k) (b ∷ text) behind row fits sink leads =
    byte (fits 0) (sink-front moves k text behind row (λ i. fits (suc i)) sink leads) (sink (class_of moves b) (moves.sizes.each_byte b (fits 0)))

-- the first row alone
pub one-sink : (moves : Moves) (rows : List (List Bool)) (used : ℕ) (sinks : List Bool) → 0 < used → AreSinks moves rows used sinks → AreSinks moves rows 1 sinks
one-sink moves rows used sinks some are = record { alike = are.alike; stay = λ r h. are.stay r (omega (arith, h, some)) }

-- no row is known for a sink
pub no-sinks : (moves : Moves) (rows : List (List Bool)) (used count : ℕ) → length rows ≡ count → AreSinks moves rows used (replicate count false)
no-sinks moves rows used count e = record {
  alike = length-replicate count false ∙ sym e;
  stay = λ r h known. absurd (true≢false (sym known ∙ none r));
}
  where
    none : (k : ℕ) → get_or (replicate count false) k false ≡ false
    none k = elim (cases_lt k count) [
      | inl l ↦ get_or-replicate count k false false l
      | inr g ↦ get_or_past (replicate count false) k false (omega (arith, g, length-replicate count false))
    ]

-- one row more is known for a sink
pub put-sink : (moves : Moves) (rows : List (List Bool)) (used row : ℕ) (sinks : List Bool) → AreSinks moves rows used sinks → row < length rows → IsSink moves (row_at rows row) → AreSinks moves rows used (set sinks row true)
put-sink moves rows used row sinks are low sink = record {
  alike = length-set sinks row true ∙ are.alike;
  stay = λ r h known. elim (cases_eq r row) [
    | inl e ↦ subst (λ k. IsSink moves (row_at rows k)) (sym e) sink
    | inr n ↦ are.stay r h (sym (get_or-set_other sinks row r true false n) ∙ known)
  ];
}

-- a row that is added isn't yet
pub added-sinks : (moves : Moves) (rows : List (List Bool)) (used : ℕ) (sinks : List Bool) (row : List Bool) → AreSinks moves rows used sinks → used < length rows
    → AreSinks moves (set rows used row) (used + 1) (set sinks used false)
added-sinks moves rows used sinks row are room = record {
  alike = length-set sinks used false ∙ are.alike ∙ sym (length-set rows used row);
  stay = λ r h known. elim (cases_eq r used) [
    | inl e ↦ absurd (true≢false (sym known ∙ ap (λ k. get_or (set sinks used false) k false) e ∙ get_or-set_same sinks used false false (omega (arith, room, are.alike))))
    | inr n ↦ subst (IsSink moves) (sym (row-other rows used r row n)) (are.stay r (below n h) (sym (get_or-set_other sinks used r false false n) ∙ known))
  ];
}
  where
    below : {r : ℕ} → (r ≡ used → ⊥) → r < used + 1 → r < used
    below n h = omega (arith, h, n)

-- ---- a row that is added

-- the rows with one more
pub added-rows : (moves : Moves) (rows : List (List Bool)) (firsts : List ℕ) (used : ℕ) (row : List Bool) (first : ℕ) → AreRows moves rows firsts used → used < length rows
    → length row ≡ length moves.wide → IsFirst moves.ends.items row 0 first → AreRows moves (set rows used row) (set firsts used first) (used + 1)
added-rows moves rows firsts used row first are room size is = record {
  sizes = λ r h. elim (cases_eq r used) [
    | inl e ↦ ap (λ k. length (row_at (set rows used row) k)) e ∙ ap length (row-same rows used row room) ∙ size
    | inr n ↦ ap length (row-other rows used r row n) ∙ are.sizes r (subst (λ k. r < k) (length-set rows used row) h)
  ];
  few = subst (λ k. k ≤ nowhere) (sym (length-set rows used row)) are.few;
  many = subst (λ k. 2 ≤ k) (sym (length-set rows used row)) are.many;
  within = omega (arith, room, length-set rows used row);
  some = omega arith;
  first = row-other rows used 0 row (λ e. omega (arith, e, are.some)) ∙ are.first;
  alike = length-set firsts used first ∙ are.alike ∙ sym (length-set rows used row);
  globs = λ r h. elim (cases_eq r used) [
    | inl e ↦
        let last : IsFirst moves.ends.items (row_at (set rows used row) used) 0 (get_or (set firsts used first) used 0) =
        subst (λ x. IsFirst moves.ends.items x 0 (get_or (set firsts used first) used 0)) (sym (row-same rows used row room))
        (subst (λ x. IsFirst moves.ends.items row 0 x) (sym (get_or-set_same firsts used first 0 (omega (arith, room, are.alike)))) is) in
        subst (λ k. IsFirst moves.ends.items (row_at (set rows used row) k) 0 (get_or (set firsts used first) k 0)) (sym e) last
    | inr n ↦
        subst (λ x. IsFirst moves.ends.items x 0 (get_or (set firsts used first) r 0)) (sym (row-other rows used r row n))
        (subst (λ x. IsFirst moves.ends.items (row_at rows r) 0 x) (sym (get_or-set_other firsts used r first 0 n)) (are.globs r (below n h)))
  ];
}
  where
    below : {r : ℕ} → (r ≡ used → ⊥) → r < used + 1 → r < used
    below n h = omega (arith, h, n)

-- what the cells say stays right
pub added-cells : (moves : Moves) (rows : List (List Bool)) (used : ℕ) (cells : List ℕ) (row : List Bool) → AreCells moves rows used cells → AreCells moves (set rows used row) (used + 1) cells
added-cells moves rows used cells row are = record {
  size = are.size ∙ ap (λ k. k * length moves.takes.items) (sym (length-set rows used row));
  filled = λ r c h known.
      let was = are.filled r c h known in
      let cell = cell_of moves cells r c in
      let here : row_at (set rows used row) r ≡ row_at rows r = row-other rows used r row (λ e. omega (arith, e, was.0)) in (
        omega (arith, was.0),
        record {
          lost = λ e. subst (IsLost moves (row_at moves.takes.items c)) (sym here) (was.1.lost e);
          within = λ n. omega (arith, was.1.within n);
          leads = λ n.
              let there : row_at (set rows used row) cell ≡ row_at rows cell = row-other rows used cell row (λ e. omega (arith, e, was.1.within n)) in
              subst (λ x. IsStep moves (row_at moves.takes.items c) x (row_at (set rows used row) cell)) (sym here)
              (subst (λ x. IsStep moves (row_at moves.takes.items c) (row_at rows r) x) (sym there) (was.1.leads n));
        },
      );
}

-- ---- a walk

-- a byte before those that were read
pub before-read : (text : List ℕ) (back : ℕ) → back < length text → drop (length text - (back + 1)) text ≡ get_or text (length text - 1 - back) 0 ∷ drop (length text - back) text
before-read text back within =
    let i = length text - 1 - back in
    let here : length text - (back + 1) ≡ i = omega arith in
    let next : i + 1 ≡ length text - back = omega (arith, within) in
    ap (λ k. drop k text) here ∙ drop_more text i 0 (omega (arith, within)) ∙ ap (λ k. get_or text i 0 ∷ drop k text) next

-- a byte more leads to the next row
pub leads-more : (old new : Moves) (text : List ℕ) (b : ℕ) (row next : List Bool) → new ≡ old → b < 256 → LeadsTo old text row → IsStep new (takes_of old b) row next → LeadsTo new (b ∷ text) next
leads-more old new text b row next e fits leads step =
    byte fits (subst (λ m. LeadsTo m text row) (sym e) leads) (subst (λ m. IsStep new (takes_of m b) row next) (sym e) step)

no-place : (n i : ℕ) → holds (replicate n false) i ≡ false
no-place n i = elim (cases_lt i n) [
  | inl l ↦ get_or-replicate n i false false l
  | inr g ↦ get_or_past (replicate n false) i false (omega (arith, g, length-replicate n false))
]

-- where nothing is entered, the byte leads to the row without a place
lost-row : (moves : Moves) (takes row : List Bool) → IsLost moves takes row → IsStep moves takes row (replicate (length moves.wide) false)
lost-row moves takes row lost = record {
  size = length-replicate (length moves.wide) false;
  places = λ i h uncut.
      let none = replicate (length moves.wide) false in
      let off : (f : ℕ → Bool) (j : ℕ) → (holds none j && f j) ≡ false = λ f j. ap (λ x. x && f j) (no-place (length moves.wide) j) in
      no-place (length moves.wide) i
      ∙ sym (both-off (lost i h) (both-off (further-off (λ j. holds none j && holds moves.wide j) i (off (holds moves.wide)))
      (further-off (further false (λ j. holds none j && holds moves.over j)) i (λ j. further-off (λ k. holds none k && holds moves.over k) j (off (holds moves.over))))));
}

-- a byte more leads to no place
pub lost-step : (old new : Moves) (text : List ℕ) (b : ℕ) (row : List Bool) → new ≡ old → b < 256 → LeadsTo old text row → IsLost new (takes_of old b) row → LeadsNowhere new (b ∷ text)
lost-step old new text b row e fits leads lost =
    (replicate (length new.wide) false, (leads-more old new text b row (replicate (length new.wide) false) e fits leads (lost-row new (takes_of old b) row lost), no-place (length new.wide)))

-- the steps fit
pub steps-fit : (s m back w : ℕ) → s ≤ 1 + back + m * (w + 1) → m ≤ 8 → w < 2 ^ 62 → back < 2 ^ 64 → s < 2 ^ 127
steps-fit s m back w within few small short = omega (arith, within, small, short, mul-le-mul_right (w + 1) few)

-- no steps are counted at the begin of a text
pub few-begun : (places : ℕ) (table : Table) → BeginsText table → AreFewSteps places 0 table
few-begun places table begun =
    let product : table.misses * (places + 1) ≡ 0 * (places + 1) = ap (λ k. k * (places + 1)) begun.misses in
    record {
      filled = omega (arith, begun.misses);
      few = omega (arith, begun.misses);
      least = omega (arith, product);
      steps = omega (arith, begun.steps);
      bound = omega (arith, begun.steps);
    }

-- steps that are few for some bytes are few for more
pub few-for_more : (places some more : ℕ) (table : Table) → some ≤ more → AreFewSteps places some table → AreFewSteps places more table
few-for_more places some more table low few = record {
  filled = omega (arith, few.filled, low);
  few = few.few;
  least = few.least;
  steps = omega (arith, few.steps, low);
  bound = omega (arith, few.bound, mul-le-mul_right {m = some} {n = more} (places + 2) low);
}

-- the steps of a byte more
pub few-more : (places bytes : ℕ) (old new : Table) → length old.moves.wide ≡ places → new.misses ≤ most_misses → CountsSteps 1 old new → AreFewSteps places bytes old → AreFewSteps places (bytes + 1) new
few-more places bytes old new e most counted few = record {
  filled = filled;
  few = most;
  least = omega (arith, same, few.least);
  steps = steps;
  bound = omega (arith, steps, mul-le-mul_right {m = new.misses} {n = bytes + 1} (places + 1) filled);
}
  where
    filled : new.misses ≤ bytes + 1
    filled = omega (arith, few.filled, counted.one)

    same : new.steps + old.misses * (places + 1) ≡ old.steps + 1 + new.misses * (places + 1)
    same = subst (λ k. new.steps + old.misses * (k + 1) ≡ old.steps + 1 + new.misses * (k + 1)) e counted.steps

    steps : new.steps ≤ bytes + 1 + new.misses * (places + 1)
    steps = omega (arith, same, few.steps)

-- ---- a table

-- a cell's place is one of the cells
pub place-within : (table : Table) (r c : ℕ) → IsTable table → r < table.used → c < length table.moves.takes.items → r * length table.moves.takes.items + c < length table.cells.items
place-within table r c is low small = cell-within table.moves table.rows.items table.used table.cells.items r c is.cells (omega (arith, low, is.rows.within)) small

-- a cell that is filled tells where its class leads
pub lead-row : (table : Table) (r c cell : ℕ) → IsTable table → c < length table.moves.takes.items → cell ≡ cell_of table.moves table.cells.items r c → cell ≢ unknown → cell ≢ nowhere
    → (cell < table.used) × IsStep table.moves (row_at table.moves.takes.items c) (row_of table r) (row_of table cell)
lead-row table r c cell is small e known some =
    let right = (is.cells.filled r c small (λ none. known (e ∙ none))).1 in
    let there : cell_of table.moves table.cells.items r c ≢ nowhere = λ lost. some (e ∙ lost) in
    (omega (arith, e, right.within there), subst (λ k. IsStep table.moves (row_at table.moves.takes.items c) (row_of table r) (row_of table k)) (sym e) (right.leads there))

-- what a cell that leads to a row says
pub right-row : (moves : Moves) (rows : List (List Bool)) (used : ℕ) (takes row : List Bool) (cell : ℕ) → used ≤ nowhere → cell < used → IsStep moves takes row (row_at rows cell) → IsRight moves rows used takes row cell
right-row moves rows used takes row cell few low step = record {
  lost = λ e. absurd (let no : ⊥ = omega (arith, few, low, e) in no);
  within = λ n. low;
  leads = λ n. step;
}

-- what a cell that leads to no place says
pub right-nowhere : (moves : Moves) (rows : List (List Bool)) (used : ℕ) (takes row lost : List Bool) → IsStep moves takes row lost → HoldsNone lost → IsRight moves rows used takes row nowhere
right-nowhere moves rows used takes row lost step none = record {
  lost = λ e i h. first-off (entered_by moves takes row i) (leads_on (holds moves.wide) (holds moves.over) (holds lost) i) (sym (step.places i h (λ g low before. ap (λ x. x && holds moves.cuts (get_or moves.ends.items g 0 - 1)) (none (get_or moves.ends.items g 0 - 1)))) ∙ none i);
  within = λ n. absurd (n refl);
  leads = λ n. absurd (n refl);
}

-- ---- a cell that is filled

-- the cells, of which one is filled more
pub fill-cells : (table : Table) (row class cell at : ℕ) (cells : List ℕ) → IsTable table → row < table.used → class < length table.moves.takes.items
    → at ≡ row * length table.moves.takes.items + class → IsRight table.moves table.rows.items table.used (row_at table.moves.takes.items class) (row_of table row) cell
    → cells ≡ set table.cells.items at cell → AreCells table.moves table.rows.items table.used cells
fill-cells table row class cell at cells is low small place right filled =
    subst (AreCells table.moves table.rows.items table.used) (sym (filled ∙ ap (λ k. set table.cells.items k cell) place))
    (put-cell table.moves table.rows.items table.used table.cells.items row class cell is.cells low is.rows.within small right)

-- the row that was added is the spare one
added-row : {old new : Table} {added : ℕ} → AddsSpare old new added → old.used < length old.rows.items → row_of new added ≡ old.spare
added-row {old = old} {new = new} {added = added} adds room =
    ap (λ rows. row_at rows added) adds.rows ∙ ap (λ k. row_at (set old.rows.items old.used old.spare) k) adds.row ∙ row-same old.rows.items old.used old.spare room

-- where the spare row is a step, the row that was added is
pub added-leads : {old new : Table} {added : ℕ} (takes row : List Bool) → AddsSpare old new added → old.used < length old.rows.items → IsStep old.moves takes row old.spare
    → (added < new.used) × IsStep new.moves takes row (row_of new added)
added-leads {old = old} {new = new} {added = added} takes row adds room step = (
  omega (arith, adds.row, adds.used),
  subst (λ m. IsStep m takes row (row_of new added)) (sym adds.moves) (subst (λ k. IsStep old.moves takes row k) (sym (added-row adds room)) step),
)

-- so a cell may say so, of a row that was there before
pub added-right : {old new : Table} {added : ℕ} (row class : ℕ) → AddsSpare old new added → IsTable new → old.used < length old.rows.items → row < old.used
    → IsStep old.moves (row_at old.moves.takes.items class) (row_of old row) old.spare
    → IsRight new.moves new.rows.items new.used (row_at new.moves.takes.items class) (row_of new row) added
added-right {old = old} {new = new} {added = added} row class adds is room low step =
    let stays : row_of new row ≡ row_of old row = ap (λ rows. row_at rows row) adds.rows ∙ row-other old.rows.items old.used row old.spare (λ e. omega (arith, e, low)) in
    let takes : row_at new.moves.takes.items class ≡ row_at old.moves.takes.items class = ap (λ m. row_at m.takes.items class) adds.moves in
    let leads = added-leads (row_at old.moves.takes.items class) (row_of old row) adds room step in
    right-row new.moves new.rows.items new.used (row_at new.moves.takes.items class) (row_of new row) added (omega (arith, is.rows.within, is.rows.few)) leads.0
    (subst (λ t. IsStep new.moves t (row_of new row) (row_of new added)) (sym takes) (subst (λ r. IsStep new.moves (row_at old.moves.takes.items class) r (row_of new added)) (sym stays) leads.1))

-- ---- when a table is cleared

-- more cells are filled
pub clears-more : (some more all : ℕ) (old mid new : Table) → some + more ≤ all → length mid.rows.items ≡ length old.rows.items → ClearsWhenFull some old mid → ClearsWhenFull more mid new
    → ClearsWhenFull all old new
clears-more some more all old mid new few room first second = by mid.cleared refl
  where
    by : (b : Bool) → mid.cleared ≡ b → ClearsWhenFull all old new
    by true on = record {
      grows = omega (arith, first.grows, second.grows, few);
      stays = λ was. second.stays on;
      full = λ off is. omega (arith, first.full off on, few);
      anew = λ off is. omega (arith, first.anew off on, second.grows, few);
      used = λ off. absurd (true≢false (sym (second.stays on) ∙ off));
      kept = λ off. absurd (true≢false (sym (second.stays on) ∙ off));
    }
    by false none = record {
      grows = omega (arith, first.grows, second.grows, few);
      stays = λ was. second.stays (first.stays was);
      full = λ off is. omega (arith, second.full none is, first.grows, room, few);
      anew = λ off is. omega (arith, second.anew none is, few);
      used = λ off. omega (arith, first.used none, second.used off);
      kept = λ off r low. second.kept off r (omega (arith, low, first.used none)) ∙ first.kept none r low;
    }

-- the begin of a text fills no cell
pub clears-begun : (old new : Table) → BeginsText new → ClearsWhenFull 0 old new → ClearsWhenFull new.misses old new
clears-begun old new begun clears = subst (λ k. ClearsWhenFull k old new) (sym begun.misses) clears

-- a byte more
pub clears-on : (before old new : Table) → length old.rows.items ≡ length before.rows.items → CountsSteps 1 old new → ClearsWhenFull (new.misses - old.misses) old new
    → ClearsWhenFull old.misses before old → ClearsWhenFull new.misses before new
clears-on before old new room counted clears was = clears-more old.misses (new.misses - old.misses) new.misses before old new (omega (arith, counted.rises)) room was clears
