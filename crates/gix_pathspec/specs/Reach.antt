-- The paths that includes reach, by their stems, and those that excludes take whole, by their paths.
use Rattle.std.specs.Prelude.{◌≡◌, ℕ, Option, Bool, not, ◌&&◌, ◌||◌, true, false, List, map, filter, if◌then◌else◌}
use Rattle.std.specs.List.{list_any}
use Rattle.std.specs.Box.{box_value}
use Rattle.gix_pathspec.specs.declared.search.reach.Reach.{Reach}
use Rattle.gix_pathspec.specs.Tables.{StemParts, stem_reaches, path_takes, IsTableOf}
use Rattle.gix_pathspec.specs.Bytes.{is_empty}
use Rattle.gix_pathspec.specs.Specs.{Spec, is_exclude, is_include, ignores_case, wants_directory, always_matches, has_wildcard}
use Rattle.gix_pathspec.specs.Plain.{has_one_case}
use Rattle.gix_pathspec.specs.Pruning.{stem_of, is_total_exclude}
use Rattle.gix_pathspec.specs.Skipping.{has_open_end}

-- ---- paths that excludes take

-- an exclude that lists no attributes and doesn't always match
abbrev pub takes_by_path : Spec → Bool
takes_by_path s = is_exclude s && is_empty s.attributes && not (always_matches s)

-- an exclude whose path stands in the table of paths
abbrev pub is_tabled : Spec → Bool
is_tabled s = takes_by_path s && has_one_case s

-- the path of a spec as a stem that no wildcard follows, with the properties that a table of stems asks
abbrev pub path_of : Spec → StemParts
path_of s = record { text = s.path; ignores_case = ignores_case s; has_wildcard = false; wants_directory = wants_directory s }

-- the paths at or below which an exclude takes everything
abbrev pub taken_paths : List Spec → List StemParts
taken_paths specs = map path_of (filter is_tabled specs)

-- an include without a wildcard whose path is taken, as what it wants, by an exclude that ignores case where the include does
abbrev pub is_shadowed : List Spec → Spec → Bool
is_shadowed specs i = not (always_matches i || has_wildcard i) && list_any (λ p. (not (ignores_case i) || p.ignores_case) && path_takes p i.path (wants_directory i)) (taken_paths specs)

-- ---- excludes that no table answers for

-- the spec can take the rest of a directory
abbrev pub can_take_rest : Spec → Bool
can_take_rest s = is_empty s.attributes && not (wants_directory s) && has_wildcard s && has_open_end s.mode s

-- An exclude that no table of paths answers for: it can take the rest of a directory, or has a prefix directory before a path without case.
abbrev pub is_subtree_exclude : Spec → Bool
is_subtree_exclude s = takes_by_path s && (can_take_rest s || not (has_one_case s))

-- the subtree excludes among the specs
abbrev pub subtree_excludes_of : List Spec → List Spec
subtree_excludes_of specs = filter is_subtree_exclude specs

-- ---- paths that includes reach

-- the include doesn't always match, and it is shadowed or not
abbrev pub has_stem : Bool → List Spec → Spec → Bool
has_stem shadowed specs s = is_include s && not (always_matches s) && (if shadowed then is_shadowed specs s else not (is_shadowed specs s))

-- the stems of the includes among some of the specs that are shadowed, or that aren't
abbrev pub stems_of : Bool → List Spec → List Spec → List StemParts
stems_of shadowed specs some = map stem_of (filter (has_stem shadowed specs) some)

-- an include always matches, or the stem of one that isn't shadowed reaches the path
abbrev pub reaches_unshadowed : List Spec → List ℕ → Option Bool → Bool
reaches_unshadowed specs d is_dir = list_any (λ s. is_include s && always_matches s) specs || list_any (λ t. stem_reaches t d is_dir) (stems_of false specs specs)

-- the tables tell what the specs reach, and what their excludes take
pub record IsReachOf (specs : List Spec) (reach : Reach) : Type 0 where
  pub excludes_all : reach.excludes_all ≡ list_any is_total_exclude specs
  pub has_include : reach.has_include ≡ list_any is_include specs
  pub includes_all : reach.includes_all ≡ list_any (λ s. is_include s && always_matches s) specs
  pub reachable : IsTableOf (stems_of false specs specs) (box_value reach.reachable)
  pub shadowed : IsTableOf (stems_of true specs specs) (box_value reach.shadowed)
  pub taken : IsTableOf (taken_paths specs) (box_value reach.taken)
