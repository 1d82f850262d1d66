-- A tree as the list of its entries, which calls make.
use Rattle.std.specs.Prelude.{ℕ, ◌+◌, ◌-◌, Bool, true, false, List, [], ◌∷◌, ◌++◌, length, take, map, filter}
use Rattle.std.specs.List.{enumerate_from, list_all}
use Rattle.pathspec_glob.specs.Bytes.{is_one_of}
use Rattle.pathspec_parts.specs.Paths.{join_names}

-- a call that makes a tree longer, or closes a directory
pub data Call : Type 0 where
  Open : (name : List ℕ) → Call
  File : (name : List ℕ) → Call
  Close : Call

-- the call that adds a directory or a file with this name
abbrev pub own_call : Bool → List ℕ → Call
own_call true name = Open name
own_call false name = File name

-- an open directory
pub record OpenDirectory : Type 0 where
  pub number : ℕ
  pub name : List ℕ

-- a file or a directory of a tree
pub record Entry : Type 0 where
  pub path : List ℕ
  pub is_dir : Bool
  -- the numbers of the directories that it lies in, the outermost first
  pub above : List ℕ

-- the names of open directories
abbrev pub names_of : List OpenDirectory → List (List ℕ)
names_of directories = map (λ d. d.name) directories

-- their numbers
abbrev pub numbers_of : List OpenDirectory → List ℕ
numbers_of directories = map (λ d. d.number) directories

-- The path of an entry is the names of the open directories and its own, joined by slashes.
abbrev pub entry_in : List OpenDirectory → List ℕ → Bool → Entry
entry_in directories name is_dir = record { path = join_names (names_of directories ++ name ∷ []); is_dir = is_dir; above = numbers_of directories }

-- the entries that the calls make, from number n on, where these directories are open
abbrev pub entries_from : ℕ → List OpenDirectory → List Call → List Entry
entries_from n directories [] = []
entries_from n directories (Open name ∷ calls) = entry_in directories name true ∷ entries_from (n + 1) (directories ++ record { number = n; name = name } ∷ []) calls
entries_from n directories (File name ∷ calls) = entry_in directories name false ∷ entries_from (n + 1) directories calls
entries_from n directories (Close ∷ calls) = entries_from n (take (length directories - 1) directories) calls

-- The entries of a tree, in the order of its calls.
abbrev pub entries : List Call → List Entry
entries calls = entries_from 0 [] calls

-- An entry is seen by a walk that entered every directory that it lies in.
abbrev pub is_seen : List ℕ → Entry → Bool
is_seen entered e = list_all (is_one_of entered) e.above

-- The numbers of the entries that pass, rising.
unfoldable pub entries_where : (List ℕ → Bool → Bool) → List Entry → List ℕ
entries_where takes es = map (λ e. e.0) (filter (λ e. takes e.1.path e.1.is_dir) (enumerate_from 0 es))
