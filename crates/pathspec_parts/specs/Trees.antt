-- A tree as it grows by calls, and what lies above its entries.
use Rattle.std.specs.Prelude.{◌≡◌, ◌≢◌, ◌⊎◌, ℕ, ◌+◌, ◌-◌, ◌<◌, ◌≤◌, true, false, List, [], ◌∷◌, ◌++◌, length, take, fold, slice_get, Some, IsTrue, Contains}
use Rattle.pathspec_parts.specs.Paths.{IsBytes, IsBelow}
use Rattle.pathspec_parts.specs.Entries.{Call, OpenDirectory, Entry, entry_in, entries}
use Rattle.pathspec_parts.specs.Entries.Call.{Open, File, Close}

-- ---- a tree as it grows

-- a tree: its entries so far, and the directories that are open, the outermost first
pub record TreeContents : Type 0 where
  pub entries : List Entry
  pub open_directories : List OpenDirectory

-- a tree without entries
abbrev pub empty_tree : TreeContents
empty_tree = record { entries = []; open_directories = [] }

-- The tree after one more call.
abbrev pub tree_after : TreeContents → Call → TreeContents
tree_after t (Open name) = record { entries = t.entries ++ entry_in t.open_directories name true ∷ []; open_directories = t.open_directories ++ record { number = length t.entries; name = name } ∷ [] }
tree_after t (File name) = record { entries = t.entries ++ entry_in t.open_directories name false ∷ []; open_directories = t.open_directories }
tree_after t Close = record { entries = t.entries; open_directories = take (length t.open_directories - 1) t.open_directories }

-- The tree that the calls make.
abbrev pub tree_of_calls : List Call → TreeContents
tree_of_calls calls = fold tree_after empty_tree calls

-- a name of a tree: bytes, at least one
abbrev pub IsTreeName : List ℕ → Type 0
IsTreeName name = (name ≢ []) × IsBytes name

-- P of every name of these calls
abbrev pub AreNamed : (List ℕ → Type 0) → List Call → Type 0
AreNamed P [] = Unit {0}
AreNamed P (Open name ∷ calls) = P name × AreNamed P calls
AreNamed P (File name ∷ calls) = P name × AreNamed P calls
AreNamed P (Close ∷ calls) = AreNamed P calls

-- ---- what lies above an entry

-- The entry with this number lies above e: it stands before e, is a directory, e's path lies below its path, and what lies above it lies above e.
pub record IsAbove (es : List Entry) (n : ℕ) (e : Entry) (m : ℕ) : Type 0 where
  pub directory : Entry
  pub stands : slice_get es m ≡ Some directory
  pub before : m < n
  pub is_dir : IsTrue directory.is_dir
  pub below : IsBelow e.path directory.path
  pub through : (k : ℕ) → Contains directory.above k → Contains e.above k

-- Of a tree, each number above an entry is that of a directory above it, no path is empty,
-- and what lies above an entry lies above the one before it too, or is that one, a directory: so the entries of a directory follow it in one run.
pub record IsNested (es : List Entry) : Type 0 where
  pub above : (n m : ℕ) (e : Entry) → slice_get es n ≡ Some e → Contains e.above m → IsAbove es n e m
  pub paths : (n : ℕ) (e : Entry) → slice_get es n ≡ Some e → e.path ≢ []
  pub follows : (n m : ℕ) (e f : Entry) → slice_get es n ≡ Some e → slice_get es (n + 1) ≡ Some f → Contains f.above m → Contains e.above m ⊎ ((m ≡ n) × IsTrue e.is_dir)

-- The paths of entries are bytes.
abbrev pub HasBytePaths : List Entry → Type 0
HasBytePaths es = (n : ℕ) (e : Entry) → slice_get es n ≡ Some e → IsBytes e.path

-- The tree that the calls make has their entries.
abbrev pub TreeHasEntries : Type 0
TreeHasEntries = (calls : List Call) → (tree_of_calls calls).entries ≡ entries calls

-- What lies above an entry lies above every entry between: the entries of a directory follow it in one run.
abbrev pub EntriesRun : Type 0
EntriesRun = (es : List Entry) → IsNested es → (m i n : ℕ) (e f : Entry) → m < i → i ≤ n → slice_get es i ≡ Some e → slice_get es n ≡ Some f → Contains f.above m → Contains e.above m
