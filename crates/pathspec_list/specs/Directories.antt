-- What directories hold, and what opening one tells of it.
use Rattle.std.specs.Prelude.{◌≡◌, ℕ, ◌&&◌, true, false, List, [], ◌∷◌, ◌++◌, map, filter, slice_get, Option, Some, None, option_map, Result, Ok, Err, if◌then◌else◌}
use Rattle.pathspec_glob.specs.Bytes.{slash, is_one_of, is_empty}
use Rattle.pathspec_parts.specs.Entries.{Entry, is_seen}
use Rattle.pathspec_parts.specs.Trees.{IsNested, HasBytePaths}

-- the paths of entries
abbrev pub paths_of : List Entry → List (List ℕ)
paths_of es = map (λ e. e.path) es

-- the entries that lie in no directory
abbrev pub entries_at_top : List Entry → List Entry
entries_at_top es = filter (is_seen []) es

-- the entries that lie in the directory with this number, and in none below it
abbrev pub entries_in : List Entry → ℕ → Entry → List Entry
entries_in es n d = filter (λ e. is_one_of e.above n && is_seen (d.above ++ n ∷ []) e) es

-- the path of what has this name in a directory; the empty path is the top
abbrev pub path_in : List ℕ → List ℕ → List ℕ
path_in d name = if is_empty d then name else d ++ slash ∷ name

-- P of each entry that stands at this path
abbrev pub EachAt : List Entry → List ℕ → (ℕ → Entry → Type 0) → Type 0
EachAt es path P = (n : ℕ) (e : Entry) → slice_get es n ≡ Some e → e.path ≡ path → P n e

-- These are the names in the directory at this path, in the tree's order.
pub record AreNamesIn (es : List Entry) (path : List ℕ) (names : List (List ℕ)) : Type 0 where
  pub at_top : path ≡ [] → names ≡ paths_of (entries_at_top es)
  pub below : EachAt es path (λ n d. map (path_in path) names ≡ paths_of (entries_in es n d))

-- What was found at a path is what the tree has there: a directory with these names, or none.
abbrev pub IsFoundAt : List Entry → List ℕ → Option (List (List ℕ)) → Type 0
IsFoundAt es path (Some names) = EachAt es path (λ n e. e.is_dir ≡ true) × AreNamesIn es path names
IsFoundAt es path None = EachAt es path (λ n e. e.is_dir ≡ false)

-- P of the tree, where it is known
abbrev pub OfTree : Option (List Entry) → (List Entry → Type 0) → Type 0
OfTree tree P = (es : List Entry) → tree ≡ Some es → P es

-- The entries are those of a tree, with paths of bytes.
abbrev pub IsTree : List Entry → Type 0
IsTree es = IsNested es × HasBytePaths es

-- what is known so far, if it is, and more
abbrev pub append_known : {X : Type 0} → Option (List X) → List X → Option (List X)
append_known known more = option_map (λ xs. xs ++ more) known

-- The paths of the directories that were opened, with one more where this one was.
abbrev pub opened_after : {N F : Type 0} → Option (List (List ℕ)) → List ℕ → Result (Option N) F → Option (List (List ℕ))
opened_after opened path (Ok (Some names)) = append_known opened (path ∷ [])
opened_after opened path (Ok None) = opened
opened_after opened path (Err fault) = opened
