-- Specs that are ready for matching, and searches of them, as clauses see them.
use Rattle.std.specs.Prelude.{◌≡◌, ℕ, Bool, ◌&&◌, List, length, Option}
use Rattle.pathspec_pattern.specs.declared.pattern.Pattern.{Pattern}
use Rattle.pathspec_glob.specs.Globs.{GlobSource}
use Rattle.std.specs.Option.{ForSome}
use Rattle.gix_pathspec.specs.EndBytes.{BeginsPaths, EndsPaths}
use Rattle.gix_pathspec.specs.Specs.{Spec, is_exclude}
use Rattle.gix_pathspec.specs.Patterns.{pattern_spec}
use Rattle.gix_pathspec.specs.Prefixes.{stem}
use Rattle.gix_pathspec.specs.Reading.{nil_spec}
use Rattle.gix_pathspec.specs.Search.{Numbered, specs_of, in_search_order}
use Rattle.gix_pathspec.specs.declared.search.reach.Reach.{Reach}
use Rattle.gix_pathspec.specs.Reach.{can_take_rest, subtree_excludes_of, IsReachOf}
use Rattle.gix_pathspec.specs.Room.{glob_of, ScratchContents, Fits}
use Rattle.gix_pathspec.specs.SelectionLaws.{NoNilPrefix, SpecPathsAreBytes}

-- a pattern with its number
abbrev pub numbered_pattern : ℕ → Pattern → Numbered
numbered_pattern number pattern = record { number = number; spec = pattern_spec pattern }

-- A spec is ready for matching: its stem is measured, its glob compiled, the first and the last byte of its paths are known where they tell
-- anything, and it is known whether it is an exclude that can take the rest of a directory.
pub record IsCompiled (s : Spec) (stem_length : ℕ) (glob : Option GlobSource) (first last : Option ℕ) (takes_rest : Bool) : Type 0 where
  pub is_stem : stem_length ≡ length (stem s)
  pub is_glob : glob ≡ glob_of s
  pub is_first : ForSome first (BeginsPaths s)
  pub is_last : ForSome last (EndsPaths s)
  pub is_rest : takes_rest ≡ (is_exclude s && can_take_rest s)

-- A search: its specs stand in search order, no nil spec has a prefix directory, the paths are bytes, and it holds what the specs reach, the excludes that are asked one by one and the nil pattern, and room for its own matches.
pub record IsSearch (specs : List Numbered) (reach : Reach) (excludes : List Spec) (nil : Pattern) (scratch : ScratchContents) : Type 0 where
  pub is_ordered : in_search_order specs ≡ specs
  pub has_no_nil_prefix : NoNilPrefix (specs_of specs)
  pub has_byte_paths : SpecPathsAreBytes (specs_of specs)
  pub is_reach : IsReachOf (specs_of specs) reach
  pub are_excludes : excludes ≡ subtree_excludes_of (specs_of specs)
  pub is_nil : pattern_spec nil ≡ nil_spec
  pub has_room : Fits specs scratch
