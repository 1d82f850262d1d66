-- Where a cursor over a tree stands.
use Rattle.std.specs.Prelude.{◌≡◌, ℕ, ◌+◌, ◌<◌, ◌≤◌, ◌⊎◌, ◌↔◌, Bool, true, false, not, List, [], ◌∷◌, ◌++◌, length, drop, slice_get, Option, Some, None, option_and_then, option_map, unwrap_or, Contains, IsTrue, count_by, if◌then◌else◌}
use Rattle.std.specs.List.{position_from}
use Rattle.std.specs.List.Sorted.{IsStrictlyIncreasing}
use Rattle.pathspec_glob.specs.Bytes.{is_one_of}
use Rattle.pathspec_parts.specs.Paths.{IsAtOrBelow}
use Rattle.pathspec_parts.specs.Entries.{Entry, is_seen}
use Rattle.pathspec_parts.specs.Trees.{IsNested, HasBytePaths}

-- the next entry from this number on that a walk sees which entered these
abbrev pub next_seen : List ℕ → ℕ → List Entry → Option ℕ
next_seen entered upto es = position_from (is_seen entered) upto (drop upto es)

-- a number more where the test passes
abbrev pub append_if : Bool → ℕ → List ℕ → List ℕ
append_if passes n ns = if passes then ns ++ n ∷ [] else ns

-- a place in a list of entries, and what has been entered so far
pub record CursorContents : Type 0 where
  pub entries : List Entry
  pub at : Option ℕ
  pub entered : List ℕ
  pub is_new : Bool

-- a cursor before the first entry
abbrev pub new_cursor : List Entry → CursorContents
new_cursor es = record { entries = es; at = None; entered = []; is_new = true }

-- it was never moved
abbrev pub IsNew : CursorContents → Type 0
IsNew c = c ≡ new_cursor c.entries

-- the number after the place: 0 for a new cursor, all at the end
abbrev pub number_after_place : List Entry → Option ℕ → Bool → ℕ
number_after_place es (Some n) is_new = n + 1
number_after_place es None is_new = if is_new then 0 else length es

-- the number from which a cursor goes on
abbrev pub next_number : CursorContents → ℕ
next_number c = number_after_place c.entries c.at c.is_new

-- the cursor at another place
abbrev pub cursor_at : CursorContents → Option ℕ → CursorContents
cursor_at c at = record c { at = at; is_new = false }

-- the entry that it stands at
abbrev pub entry_at : CursorContents → Option Entry
entry_at c = option_and_then (slice_get c.entries) c.at

-- its path, empty where there is none
abbrev pub path_at : CursorContents → List ℕ
path_at c = unwrap_or (option_map (λ e. e.path) (entry_at c)) []

-- whether it is a directory
abbrev pub is_dir_at : CursorContents → Bool
is_dir_at c = unwrap_or (option_map (λ e. e.is_dir) (entry_at c)) false

-- a number more, once
abbrev pub append_once : List ℕ → Option ℕ → List ℕ
append_once entered (Some n) = append_if (not (is_one_of entered n)) n entered
append_once entered None = entered

-- the cursor where the directory that it stands at is entered
abbrev pub after_enter : CursorContents → CursorContents
after_enter c = if is_dir_at c then record c { entered = append_once c.entered c.at } else c

-- ---- what a cursor asks of a tree

-- where the entries of a directory end
abbrev pub IsEndOf : List Entry → ℕ → ℕ → Type 0
IsEndOf es place end = (place < end) × ((j : ℕ) (f : Entry) → place < j → slice_get es j ≡ Some f → Contains f.above place ↔ (j < end))

-- a path at or below each directory that the entry lies in
abbrev pub IsNearPath : List Entry → ℕ → List ℕ → Type 0
IsNearPath es place path = (e d : Entry) (m : ℕ) → slice_get es place ≡ Some e → Contains e.above m → slice_get es m ≡ Some d → IsAtOrBelow path d.path

-- the path of the entry
abbrev pub IsPathOf : List Entry → ℕ → List ℕ → Type 0
IsPathOf es place path = (e : Entry) → slice_get es place ≡ Some e → path ≡ e.path

-- no path is longer
abbrev pub HoldsPaths : List Entry → ℕ → Type 0
HoldsPaths es room = (i : ℕ) (e : Entry) → slice_get es i ≡ Some e → length e.path ≤ room

-- how many directories there are
abbrev pub directory_count : List Entry → ℕ
directory_count es = count_by (λ e. e.is_dir) es

-- a directory stands at this number
abbrev pub IsDirectoryIn : List Entry → ℕ → Type 0
IsDirectoryIn es m = (e : Entry) × (slice_get es m ≡ Some e) × IsTrue e.is_dir

-- ---- the fields of a cursor

-- what a cursor knows of its place, and of the next one
pub record IsCursor (es : List Entry) (at : Option ℕ) (next : ℕ) (entered : List ℕ) (is_new : Bool) (entered_room : ℕ) : Type 0 where
  pub nested : IsNested es
  pub bytes : HasBytePaths es
  pub here : (n : ℕ) → at ≡ Some n → (e : Entry) × (slice_get es n ≡ Some e) × (is_seen entered e ≡ true)
  pub fresh : is_new ≡ true → (at ≡ None) × (entered ≡ [])
  pub onward : number_after_place es at is_new ≤ next
  pub unseen : (j : ℕ) (f : Entry) → number_after_place es at is_new ≤ j → j < next → slice_get es j ≡ Some f → is_seen entered f ≡ false
  pub seen : (f : Entry) → slice_get es next ≡ Some f → is_seen entered f ≡ true
  pub near : (f : Entry) (m : ℕ) → slice_get es next ≡ Some f → Contains f.above m → (n : ℕ) × (e : Entry) × (at ≡ Some n) × (slice_get es n ≡ Some e) × ((m ≡ n) ⊎ Contains e.above m)
  pub rising : IsStrictlyIncreasing entered
  pub entered_before : (m : ℕ) → Contains entered m → m < number_after_place es at is_new
  pub directories : (m : ℕ) → Contains entered m → IsDirectoryIn es m
  pub holds_entered : directory_count es ≤ entered_room

-- The bytes are the path of the entry at which the cursor stands, and there is room for every path.
abbrev pub KeepsPath : CursorContents → List ℕ → ℕ → Type 0
KeepsPath c path room = (path ≡ path_at c) × HoldsPaths c.entries room
