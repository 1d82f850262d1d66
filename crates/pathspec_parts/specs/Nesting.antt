-- Entries that lie in one another, in numbers: the name of each, and where what lies in it ends.
use Rattle.std.specs.Prelude.{◌≡◌, ◌⊎◌, ℕ, ◌+◌, ◌<◌, ◌≤◌, not, List, [], map, filter, nat_lt, ◌==◌, if◌then◌else◌}
use Rattle.std.specs.List.{range_with_len}
use Rattle.pathspec_parts.specs.Entries.{Call, OpenDirectory, Entry, entry_in, numbers_of}
use Rattle.pathspec_parts.specs.Trees.{TreeContents, tree_of_calls, IsTreeName, AreNamed}
use Rattle.pathspec_parts.specs.Cursors.{directory_count}

-- the numbers of the open directories, the outermost first, how many directories there are, and for how many open ones there is room
pub record Nesting : Type 0 where
  pub stack : List ℕ
  pub directories : ℕ
  pub room : ℕ

-- nothing is open, and there is no directory
pub record IsEmptyNesting (n : Nesting) : Type 0 where
  pub stack : n.stack ≡ []
  pub directories : n.directories ≡ 0

-- all but the room is as before
pub record KeepsNesting (old new : Nesting) : Type 0 where
  pub stack : new.stack ≡ old.stack
  pub directories : new.directories ≡ old.directories

-- ---- ends

-- the end of a directory that is open, the greatest number
abbrev pub open_end : ℕ
open_end = 18446744073709551615

-- an end is that of a file, of an open directory, or of one that was closed
abbrev pub IsEnd : ℕ → ℕ → ℕ → Type 0
IsEnd count i end = (end ≡ 0) ⊎ (end ≡ open_end) ⊎ ((i < end) × (end ≤ count))

-- the number of the first entry after this one that doesn't lie in it, by the end that is kept
abbrev pub end_from : ℕ → ℕ → ℕ
end_from number end = if end == 0 then number + 1 else end

-- ---- the tree that names and ends stand for

-- the first entries as directories
abbrev pub directories_before : (ℕ → List ℕ) → ℕ → List OpenDirectory
directories_before name n = map (λ i. record { number = i; name = name i }) (range_with_len 0 n)

-- An entry lies in those before it that end after it.
abbrev pub directories_above : (ℕ → List ℕ) → (ℕ → ℕ) → ℕ → List OpenDirectory
directories_above name end n = filter (λ d. nat_lt n (end d.number)) (directories_before name n)

-- the entry with this number
abbrev pub nested_entry : (ℕ → List ℕ) → (ℕ → ℕ) → ℕ → Entry
nested_entry name end i = entry_in (directories_above name end i) (name i) (not (end i == 0))

-- The tree of so many names and ends. What would come next lies in the open directories.
unfoldable pub nested_tree : (ℕ → List ℕ) → (ℕ → ℕ) → ℕ → TreeContents
nested_tree name end count = record { entries = map (nested_entry name end) (range_with_len 0 count); open_directories = directories_above name end count }

-- a tree that calls made
abbrev pub IsMade : TreeContents → Type 0
IsMade t = (calls : List Call) × AreNamed IsTreeName calls × (t ≡ tree_of_calls calls)

-- The names and ends stand for a tree that calls made; these are the numbers of its open directories, and so many directories it has.
pub record AreNested (name : ℕ → List ℕ) (end : ℕ → ℕ) (count : ℕ) (stack : List ℕ) (directories : ℕ) : Type 0 where
  pub made : IsMade (nested_tree name end count)
  pub stack_is : stack ≡ numbers_of (nested_tree name end count).open_directories
  pub ends : (i : ℕ) → i < count → IsEnd count i (end i)
  pub directories_are : directory_count (nested_tree name end count).entries ≡ directories
