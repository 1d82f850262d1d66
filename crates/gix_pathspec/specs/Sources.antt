-- The globs of specs, and what the sets of them are made of.
use Rattle.std.specs.Prelude.{ℕ, Bool, not, ◌&&◌, List, [], length, ltb, map, filter_map, if◌then◌else◌, Option, Some, None}
use Rattle.std.specs.Option.{option_map}
use Rattle.pathspec_glob.specs.declared.Case.{Case}
use Rattle.pathspec_pattern.specs.declared.SearchMode.{SearchMode}
use Rattle.pathspec_pattern.specs.declared.SearchMode.TheVariants.{ShellGlob, Literal, PathAwareGlob}
use Rattle.pathspec_glob.specs.declared.Mode.TheVariants.{Shell, PathAware}
use Rattle.pathspec_glob.specs.Globs.{GlobSource, glob_tokens}
use Rattle.gix_pathspec.specs.Specs.{Spec, has_wildcard, wants_directory}
use Rattle.gix_pathspec.specs.Bytes.{is_empty}
use Rattle.gix_pathspec.specs.Plain.{has_one_case}
use Rattle.gix_pathspec.specs.Matching.{case_of}
use Rattle.gix_pathspec.specs.Prefixes.{head, stem}
use Rattle.gix_pathspec.specs.Reach.{can_take_rest, is_subtree_exclude}
use Rattle.gix_pathspec.specs.Search.{Numbered}

-- the glob of a pattern in a search mode; a literal one has none
abbrev pub glob_in_mode : SearchMode → List ℕ → Option GlobSource
glob_in_mode ShellGlob path = Some (record { mode = Shell; pattern = path })
glob_in_mode Literal path = None
glob_in_mode PathAwareGlob path = Some (record { mode = PathAware; pattern = path })

-- the glob that a spec is compared as, where it has a wildcard
abbrev pub glob_of : Spec → Option GlobSource
glob_of s = if has_wildcard s then glob_in_mode s.mode s.path else None

-- the names of the attributes that a spec lists
abbrev pub attribute_names : Spec → List (List ℕ)
attribute_names s = map (λ a. a.name) s.attributes

-- how many tokens a glob has, 0 where there is none
abbrev pub glob_size : Option GlobSource → ℕ
glob_size None = 0
glob_size (Some glob) = length (glob_tokens glob)

-- how many tokens the glob has that a spec is compared as
abbrev pub tokens_of : Spec → ℕ
tokens_of s = glob_size (glob_of s)

-- the names of attributes that each spec lists, in search order
abbrev pub names_in_order : List Numbered → List (List (List ℕ))
names_in_order specs = map (λ n. attribute_names n.spec) specs

-- what a member of a set is made of: a glob, whether case counts, and whether it decides where it matches
pub record MemberSource : Type 0 where
  pub glob : GlobSource
  pub case : Case
  pub cuts : Bool

-- Where its glob matches, the spec does: it lists no attribute, wants no directory, and keeps no prefix directory.
abbrev pub asks_no_more : Spec → Bool
asks_no_more s = is_empty s.attributes && not (wants_directory s) && has_one_case s

-- the spec with its glob, as the source of a member
abbrev pub source_with : Spec → GlobSource → MemberSource
source_with s glob = record { glob = glob; case = case_of s; cuts = asks_no_more s }

-- The spec begins with a wildcard, and each path may match it: it has a glob, and neither a stem nor a head.
abbrev pub source_of : Spec → Option MemberSource
source_of s = if is_empty (stem s) && is_empty (head s) then option_map (source_with s) (glob_of s) else None

-- ---- excludes

-- The exclude begins with a wildcard, and each directory may be one that it covers: the source of its glob, which is compared with a directory and a slash.
abbrev pub exclude_source_of : Spec → Option MemberSource
exclude_source_of s = if is_subtree_exclude s && can_take_rest s then source_of s else None

-- the sources of the excludes that may stand in a set, in their order
abbrev pub exclude_sources : List Spec → List MemberSource
exclude_sources excludes = filter_map exclude_source_of excludes

-- they are four or more, and so a set is made of them
abbrev pub has_exclude_set : List Spec → Bool
has_exclude_set excludes = not (ltb (length (exclude_sources excludes)) 4)

-- the sources of the excludes in the set, if there is one
abbrev pub exclude_set_sources : List Spec → List MemberSource
exclude_set_sources excludes = if has_exclude_set excludes then exclude_sources excludes else []

-- ---- excludes among the specs of a search

-- the sources of the specs that may be members of the set of the subtree excludes, in search order
abbrev pub member_sources : List Numbered → List MemberSource
member_sources specs = filter_map (λ n. exclude_source_of n.spec) specs

-- they are four or more, and so a set is made of them
abbrev pub has_members : List Numbered → Bool
has_members specs = not (ltb (length (member_sources specs)) 4)

-- the sources of the members of the set, if there is one
abbrev pub made_sources : List Numbered → List MemberSource
made_sources specs = if has_members specs then member_sources specs else []
