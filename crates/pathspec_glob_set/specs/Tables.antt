-- Tables of rows that texts led to, and what a question to one tells.
use Rattle.std.specs.Prelude.{◌≡◌, ◌≢◌, ◌+◌, ◌*◌, ◌<◌, ◌≤◌, ◌++◌, ℕ, Bool, true, false, List, [], ◌∷◌, length, get_or, set, Option, Some, None}
use Rattle.pathspec_glob_set.specs.declared.table.moves.Moves.{Moves}
use Rattle.pathspec_glob_set.specs.declared.table.Table.{Table}
use Rattle.pathspec_glob_set.specs.declared.table.Lead.{Lead}
use Rattle.pathspec_glob_set.specs.declared.table.Lead.TheVariants.{Row, Nowhere, Unknown}
use Rattle.pathspec_glob_set.specs.Moves.{IsLost, IsSink, IsStep, LeadsNowhere, LeadsTo}
use Rattle.pathspec_glob_set.specs.Sizes.{row_at, IsFirst}

-- a cell that wasn't asked, and one whose bytes lead to no place
abbrev pub unknown : ℕ
unknown = 65535

abbrev pub nowhere : ℕ
nowhere = 65534

-- how many cells are filled in one text
abbrev pub most_misses : ℕ
most_misses = 8

-- the row at a place of a table
abbrev pub row_of : Table → ℕ → List Bool
row_of table r = row_at table.rows.items r

-- what a cell says of a row, where these places take its bytes
pub record IsRight (moves : Moves) (rows : List (List Bool)) (used : ℕ) (takes row : List Bool) (cell : ℕ) : Type 0 where
  pub lost : cell ≡ nowhere → IsLost moves takes row
  pub within : cell ≢ nowhere → cell < used
  pub leads : cell ≢ nowhere → IsStep moves takes row (row_at rows cell)

-- The first row is that of the empty text, and for each row in use it is known which glob it says first.
pub record AreRows (moves : Moves) (rows : List (List Bool)) (firsts : List ℕ) (used : ℕ) : Type 0 where
  pub sizes : (r : ℕ) → r < length rows → length (row_at rows r) ≡ length moves.wide
  pub few : length rows ≤ nowhere
  pub many : 2 ≤ length rows
  pub within : used ≤ length rows
  pub some : 0 < used
  pub first : row_at rows 0 ≡ moves.start
  pub alike : length firsts ≡ length rows
  pub globs : (r : ℕ) → r < used → IsFirst moves.ends.items (row_at rows r) 0 (get_or firsts r 0)

-- the cell of a row and a class
abbrev pub cell_of : Moves → List ℕ → ℕ → ℕ → ℕ
cell_of moves cells r c = get_or cells (r * length moves.takes.items + c) unknown

-- Each filled cell is the step of its row.
pub record AreCells (moves : Moves) (rows : List (List Bool)) (used : ℕ) (cells : List ℕ) : Type 0 where
  pub size : length cells ≡ length rows * length moves.takes.items
  pub filled : (r c : ℕ) → c < length moves.takes.items → cell_of moves cells r c ≢ unknown
      → (r < used) × IsRight moves rows used (row_at moves.takes.items c) (row_at rows r) (cell_of moves cells r c)

-- From each row that is known for a sink all bytes lead to itself.
pub record AreSinks (moves : Moves) (rows : List (List Bool)) (used : ℕ) (sinks : List Bool) : Type 0 where
  pub alike : length sinks ≡ length rows
  pub stay : (r : ℕ) → r < used → get_or sinks r false ≡ true → IsSink moves (row_at rows r)

-- The rows and cells of a table are right, and its room is there.
pub record IsTable (table : Table) : Type 0 where
  pub rows : AreRows table.moves table.rows.items table.firsts.items table.used
  pub cells : AreCells table.moves table.rows.items table.used table.cells.items
  pub sinks : AreSinks table.moves table.rows.items table.used table.sinks.items
  pub spare : length table.spare ≡ length table.moves.wide
  pub index : 0 < length table.index.items
  pub misses : table.misses ≤ most_misses

-- the moves and the room stay
pub record KeepsRoom (old new : Table) : Type 0 where
  pub moves : new.moves ≡ old.moves
  pub rows : length new.rows.items ≡ length old.rows.items

-- What is known of sinks stays known and may be more, and all else stays.
pub record IsSameButSinks (old new : Table) : Type 0 where
  pub moves : new.moves ≡ old.moves
  pub rows : new.rows ≡ old.rows
  pub firsts : new.firsts ≡ old.firsts
  pub cells : new.cells ≡ old.cells
  pub sinks : (r : ℕ) → get_or old.sinks.items r false ≡ true → get_or new.sinks.items r false ≡ true
  pub used : new.used ≡ old.used
  pub index : new.index ≡ old.index
  pub spare : new.spare ≡ old.spare
  pub misses : new.misses ≡ old.misses
  pub cleared : new.cleared ≡ old.cleared
  pub steps : new.steps ≡ old.steps

-- a table of so many rows, of which the first is in use alone, and which was never cleared
pub record IsNewTable (count : ℕ) (table : Table) : Type 0 where
  pub rows : length table.rows.items ≡ count
  pub used : table.used ≡ 1
  pub cleared : table.cleared ≡ false

-- Where at most so many cells were filled, each adds a row at most. The table is cleared only where it was full by then, and rows are
-- lost only where it is cleared.
pub record ClearsWhenFull (filled : ℕ) (old new : Table) : Type 0 where
  pub grows : new.used ≤ old.used + filled
  pub stays : old.cleared ≡ true → new.cleared ≡ true
  pub full : old.cleared ≡ false → new.cleared ≡ true → length old.rows.items < old.used + filled
  pub anew : old.cleared ≡ false → new.cleared ≡ true → new.used ≤ filled + 1
  pub used : new.cleared ≡ false → old.used ≤ new.used
  pub kept : new.cleared ≡ false → (r : ℕ) → r < old.used → row_of new r ≡ row_of old r

-- nothing of a text is counted yet
pub record BeginsText (table : Table) : Type 0 where
  pub steps : table.steps ≡ 0
  pub misses : table.misses ≡ 0

-- What a table tells of where a byte leads from a row, where these places take it.
abbrev pub Leads : List Bool → List Bool → Table → Lead → Type 0
Leads takes row new (Row r) = (r < new.used) × IsStep new.moves takes row (row_of new r)
Leads takes row new Nowhere = IsLost new.moves takes row
Leads takes row new Unknown = new.misses ≡ most_misses

-- it is known where a byte leads
abbrev pub IsKnown : Lead → Type 0
IsKnown (Row r) = Unit {0}
IsKnown Nowhere = Unit {0}
IsKnown Unknown = ⊥

-- it isn't known where a text leads
abbrev pub is_unknown : Lead → Bool
is_unknown (Row r) = false
is_unknown Nowhere = false
is_unknown Unknown = true

-- a row in use has the places of the spare one
abbrev pub IsSpare : Table → ℕ → Type 0
IsSpare table r = (r < table.used) × (row_of table r ≡ table.spare)

-- so many steps and those of the cells that were filled are counted: all places and one more for each
pub record CountsSteps (asked : ℕ) (old new : Table) : Type 0 where
  pub steps : new.steps + old.misses * (length old.moves.wide + 1) ≡ old.steps + asked + new.misses * (length old.moves.wide + 1)
  pub rises : old.misses ≤ new.misses
  pub one : new.misses ≤ old.misses + 1

-- What a search of a text counts: at most one cell a byte is asked, and at most eight of them are filled, each for all places and one more.
pub record AreFewSteps (places bytes : ℕ) (table : Table) : Type 0 where
  pub filled : table.misses ≤ bytes
  pub few : table.misses ≤ most_misses
  pub least : table.misses * (places + 1) ≤ table.steps
  pub steps : table.steps ≤ bytes + table.misses * (places + 1)
  pub bound : table.steps ≤ bytes * (places + 2)

-- the spare row is in use now, behind the others
pub record AddsSpare (old new : Table) (added : ℕ) : Type 0 where
  pub row : added ≡ old.used
  pub used : new.used ≡ old.used + 1
  pub rows : new.rows.items ≡ set old.rows.items old.used old.spare
  pub cells : new.cells ≡ old.cells
  pub sinks : new.sinks.items ≡ set old.sinks.items old.used false
  pub moves : new.moves ≡ old.moves
  pub spare : new.spare ≡ old.spare
  pub steps : new.steps ≡ old.steps
  pub misses : new.misses ≡ old.misses
  pub cleared : new.cleared ≡ old.cleared

-- a text, with one byte behind it if there is one
abbrev pub text_with : List ℕ → Option ℕ → List ℕ
text_with text None = text
text_with text (Some byte) = text ++ byte ∷ []

-- What a walk over a text finds: the row that the text leads to, that it leads to no place, or that too many cells were filled.
abbrev pub Finds : Table → List ℕ → Lead → Type 0
Finds table text (Row r) = (r < table.used) × LeadsTo table.moves text (row_of table r)
Finds table text Nowhere = LeadsNowhere table.moves text
Finds table text Unknown = table.misses ≡ most_misses

-- a row that is told of is in use
abbrev pub IsInUse : Table → Lead → Type 0
IsInUse table lead = (r : ℕ) → lead ≡ Row r → r < table.used
