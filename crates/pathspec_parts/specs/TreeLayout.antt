-- How the numbers of a tree stand for its entries.
use Rattle.std.specs.Prelude.{◌≡◌, ◌⊎◌, ℕ, ◌-◌, ◌<◌, ◌≤◌, List, [], ◌∷◌, ◌++◌, length, flat_map, slice_get, slice_range, Some, option_map, unwrap_or, Contains, ◌==◌, if◌then◌else◌}
use Rattle.pathspec_glob.specs.Bytes.{slash}
use Rattle.pathspec_parts.specs.Entries.{OpenDirectory, Entry}
use Rattle.pathspec_parts.specs.Trees.{TreeContents}
use Rattle.pathspec_parts.specs.Cursors.{HoldsPaths}
use Rattle.pathspec_parts.specs.Nesting.{Nesting, open_end, nested_tree, AreNested}
use Rattle.pathspec_parts.specs.declared.tree.Node.{Node}

-- ---- the tree that the numbers stand for

-- where the name of the entry with this number ends
abbrev pub name_end_at : List Node → ℕ → ℕ
name_end_at nodes i = unwrap_or (option_map (λ node. node.name_end) (slice_get nodes i)) 0

-- a name begins where the one before it ends
abbrev pub name_start_at : List Node → ℕ → ℕ
name_start_at nodes i = if i == 0 then 0 else name_end_at nodes (i - 1)

abbrev pub name_at : List ℕ → List Node → ℕ → List ℕ
name_at names nodes i = slice_range names (name_start_at nodes i) (name_end_at nodes i)

-- where the entries of a directory end, 0 for a file
abbrev pub end_at : List Node → ℕ → ℕ
end_at nodes i = unwrap_or (option_map (λ node. node.end) (slice_get nodes i)) 0

-- The tree of these numbers.
abbrev pub tree_of_nodes : List ℕ → List Node → TreeContents
tree_of_nodes names nodes = nested_tree (name_at names nodes) (end_at nodes) (length nodes)

-- ---- what a tree keeps to

-- the path of open directories, with its slash
abbrev pub path_above : List OpenDirectory → List ℕ
path_above directories = flat_map (λ d. d.name ++ slash ∷ []) directories

-- The path of an entry is its name after that of the directory that it lies in, which is so long with its slash.
pub record IsPathOfEntry (es : List Entry) (e : Entry) (name : List ℕ) (above : ℕ) : Type 0 where
  pub front : List ℕ
  pub path_is : e.path ≡ front ++ name
  pub long : length front ≡ above
  pub lies : (front ≡ []) ⊎ ((m : ℕ) × (d : Entry) × Contains e.above m × (slice_get es m ≡ Some d) × (front ≡ d.path ++ slash ∷ []))

-- the names of a tree's entries stand one after the other, and each node tells what stands before its name
pub record HasNames (names : List ℕ) (nodes : List Node) (longest : ℕ) (es : List Entry) : Type 0 where
  pub names_end : name_start_at nodes (length nodes) ≡ length names
  pub names_rise : (i : ℕ) → i < length nodes → (name_start_at nodes i ≤ name_end_at nodes i) × (name_end_at nodes i ≤ length names)
  pub paths : (i : ℕ) (node : Node) (e : Entry) → slice_get nodes i ≡ Some node → slice_get es i ≡ Some e → IsPathOfEntry es e (name_at names nodes i) node.above
  pub longest_is : HoldsPaths es longest
  pub longest_fits : longest ≤ open_end

-- the numbers of a tree
pub record IsLayout (names : List ℕ) (nodes : List Node) (nested : Nesting) (longest : ℕ) : Type 0 where
  pub nesting : AreNested (name_at names nodes) (end_at nodes) (length nodes) nested.stack nested.directories
  pub named : HasNames names nodes longest (tree_of_nodes names nodes).entries
