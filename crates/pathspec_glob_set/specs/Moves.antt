-- How bytes lead from one row of places to another, and which rows texts lead to.
use Rattle.std.specs.Prelude.{◌≡◌, ◌<◌, ℕ, Bool, false, ◌||◌, ◌&&◌, List, [], ◌∷◌, length, get_or}
use Rattle.pathspec_glob.specs.GlobCells.{further}
use Rattle.pathspec_glob.specs.BitVecs.{holds}
use Rattle.pathspec_glob_set.specs.declared.table.moves.Moves.{Moves}
use Rattle.pathspec_glob_set.specs.Rows.{leads_on, taken_of, IsUncut}
use Rattle.pathspec_glob_set.specs.Sizes.{row_at}

-- the class of a byte
abbrev pub class_of : Moves → ℕ → ℕ
class_of moves b = get_or moves.classes b 0

-- the places whose next token takes the byte
abbrev pub takes_of : Moves → ℕ → List Bool
takes_of moves b = row_at moves.takes.items (class_of moves b)

-- the places that are entered where these take the byte
abbrev pub entered_by : Moves → List Bool → List Bool → ℕ → Bool
entered_by moves takes old i = further false (taken_of takes old) i || (taken_of takes old i && holds moves.wide i)

-- A byte leads from one row to another, where these places take it. Nothing is said of places behind a glob that is settled.
pub record IsStep (moves : Moves) (takes old new : List Bool) : Type 0 where
  pub size : length new ≡ length moves.wide
  pub places : (i : ℕ) → i < length moves.wide → IsUncut moves.cuts moves.ends.items new i → holds new i ≡ (entered_by moves takes old i || leads_on (holds moves.wide) (holds moves.over) (holds new) i)

-- A text, read from its end, leads to a row.
pub data LeadsTo (moves : Moves) : List ℕ → List Bool → Type 0 where
  empty : LeadsTo moves [] moves.start
  byte : {text : List ℕ} {old : List Bool} {b : ℕ} {new : List Bool} → b < 256 → LeadsTo moves text old → IsStep moves (takes_of moves b) old new → LeadsTo moves (b ∷ text) new

-- from a row each byte leads to itself
abbrev pub IsSink : Moves → List Bool → Type 0
IsSink moves row = (c : ℕ) → c < length moves.takes.items → IsStep moves (row_at moves.takes.items c) row row

-- no place stands
abbrev pub HoldsNone : List Bool → Type 0
HoldsNone row = (i : ℕ) → holds row i ≡ false

-- a text leads to a row without a place
abbrev pub LeadsNowhere : Moves → List ℕ → Type 0
LeadsNowhere moves text = (row : List Bool) × (LeadsTo moves text row × HoldsNone row)

-- from a row the byte that these take leads to no place
abbrev pub IsLost : Moves → List Bool → List Bool → Type 0
IsLost moves takes old = (i : ℕ) → i < length moves.wide → entered_by moves takes old i ≡ false

-- Moves are the same, wherever they are kept.
pub record AreAlike (some others : Moves) : Type 0 where
  pub wide : some.wide ≡ others.wide
  pub over : some.over ≡ others.over
  pub cuts : some.cuts ≡ others.cuts
  pub start : some.start ≡ others.start
  pub classes : some.classes ≡ others.classes
  pub takes : some.takes.items ≡ others.takes.items
  pub ends : some.ends.items ≡ others.ends.items
