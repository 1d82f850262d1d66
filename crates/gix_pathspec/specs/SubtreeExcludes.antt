-- Excludes that are asked one by one whether a walk may skip a directory, and how many are asked.
use Rattle.std.specs.Prelude.{◌≡◌, ℕ, Bool, true, ◌&&◌, ◌||◌, List, length, map, filter, if◌then◌else◌, Option, Some, None}
use Rattle.pathspec_glob.specs.Globs.{GlobSource}
use Rattle.pathspec_heads.specs.Groups.{GroupedPlaces, IsGrouped}
use Rattle.gix_pathspec.specs.Bytes.{begins_with}
use Rattle.gix_pathspec.specs.Paths.{without_last_slash}
use Rattle.gix_pathspec.specs.Specs.{Spec, ignores_case, prefix_directory}
use Rattle.gix_pathspec.specs.Prefixes.{stem}
use Rattle.gix_pathspec.specs.Skipping.{takes_whole, takes_rest}
use Rattle.gix_pathspec.specs.Room.{glob_of}
use Rattle.gix_pathspec.specs.Reach.{can_take_rest, is_subtree_exclude}

-- the subtree exclude that a spec is, if it is one
abbrev pub as_subtree_exclude : Spec → Option Spec
as_subtree_exclude s = if is_subtree_exclude s then Some s else None

-- the glob by which a spec is asked about a directory and a slash
abbrev pub rest_glob : Spec → Option GlobSource
rest_glob s = if can_take_rest s then glob_of s else None

-- a subtree exclude takes the directory and all below it, or all that lies below it
unfoldable pub covers : Spec → List ℕ → Bool
covers s d = is_subtree_exclude s && (takes_whole s d || takes_rest s d)

-- the head of a subtree exclude: it begins every directory that the exclude covers
abbrev pub exclude_head : Spec → List ℕ
exclude_head s = if ignores_case s then prefix_directory s else without_last_slash (stem s)

-- an exclude that is asked, with its glob
pub record IsSubtreeExclude (s : Spec) (glob : Option GlobSource) : Type 0 where
  pub is_one : is_subtree_exclude s ≡ true
  pub is_glob : glob ≡ rest_glob s

-- the places of excludes, in groups by their heads
abbrev pub AreExcludePlaces : List Spec → GroupedPlaces → Type 0
AreExcludePlaces excludes places = IsGrouped (map exclude_head excludes) places.heads places.starts places.order

-- how many subtree excludes have a head that begins the directory
abbrev pub subtree_exclude_count : List Spec → List ℕ → ℕ
subtree_exclude_count excludes d = length (filter (λ s. begins_with d (exclude_head s)) excludes)
