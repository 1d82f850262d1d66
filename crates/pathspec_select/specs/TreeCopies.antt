-- A tree that is made as a copy of entries, one after the other.
use Rattle.std.specs.Prelude.{◌≡◌, ℕ, ◌+◌, ◌-◌, ◌≤◌, Bool, true, List, ◌∷◌, ◌++◌, length, take, slice_get, Some, MatchOption}
use Rattle.pathspec_parts.specs.Entries.{Call, OpenDirectory, Entry, own_call, entry_in, entries_from, numbers_of}
use Rattle.pathspec_parts.specs.Trees.{TreeContents}

-- each open directory is the entry with its number, and lies in those before it
abbrev pub AreOpenIn : List Entry → List OpenDirectory → Type 0
AreOpenIn es directories = (i : ℕ) (d : OpenDirectory) → slice_get directories i ≡ Some d → slice_get es d.number ≡ Some (entry_in (take i directories) d.name true)

-- The tree has the first of the entries, and these calls add the others; these are the numbers of its open directories.
pub record IsCopyBy (calls : List Call) (es : List Entry) (copy : TreeContents) (open_numbers : List ℕ) : Type 0 where
  pub left : es ≡ copy.entries ++ entries_from (length copy.entries) copy.open_directories calls
  pub open_are : AreOpenIn copy.entries copy.open_directories
  pub numbers : open_numbers ≡ numbers_of copy.open_directories

-- the tree has the first of the entries
abbrev pub IsCopy : List Entry → TreeContents → List ℕ → Type 0
IsCopy es copy open_numbers = (calls : List Call) × IsCopyBy calls es copy open_numbers

-- the next entry lies in the directories that are open
abbrev pub TakesNext : List Entry → TreeContents → List ℕ → Type 0
TakesNext es copy open_numbers = (is_dir : Bool) × (name : List ℕ) × (calls : List Call) × IsCopyBy (own_call is_dir name ∷ calls) es copy open_numbers

-- the tree where only so many directories are open
abbrev pub with_open : ℕ → TreeContents → TreeContents
with_open kept copy = record { entries = copy.entries; open_directories = take kept copy.open_directories }

-- the next entry lies in the first of the directories that are open
pub record TakesNextAbove (es : List Entry) (copy : TreeContents) (open_numbers : List ℕ) : Type 0 where
  pub kept : ℕ
  pub within : kept ≤ length copy.open_directories
  pub next : TakesNext es (with_open kept copy) (take kept open_numbers)
  pub open_are : AreOpenIn copy.entries copy.open_directories
  pub numbers : open_numbers ≡ numbers_of copy.open_directories

-- so many bytes does the path of the last of these directories have with a slash, none where there is no directory
abbrev pub IsLengthAbove : List Entry → List ℕ → ℕ → Type 0
IsLengthAbove es open_numbers n = MatchOption (slice_get open_numbers (length open_numbers - 1)) (n ≡ 0) (λ m. (e : Entry) → slice_get es m ≡ Some e → n ≡ length e.path + 1)
