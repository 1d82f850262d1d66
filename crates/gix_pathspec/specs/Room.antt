-- The room that the matches of a search work in, which each walker has of its own.
use Rattle.std.specs.Prelude.{◌≡◌, ℕ, ◌≤◌, List, All}
pub use Rattle.gix_pathspec.specs.Sources.{asks_no_more, attribute_names, exclude_set_sources, exclude_source_of, exclude_sources, glob_in_mode, glob_of, glob_size, has_exclude_set, has_members, made_sources, member_sources, names_in_order, source_of, source_with, tokens_of, MemberSource}
use Rattle.gix_pathspec.specs.Search.{Numbered, MatchCounts}
use Rattle.gix_pathspec.specs.SetSources.{head_set_sources, SetSource}

-- The room that specs are asked in: for globs of so many tokens, an outcome for each spec, of which the names are seen, and what the sets
-- of the specs and of the subtree excludes are made of.
pub record Room : Type 0 where
  pub tokens : ℕ
  pub names : List (List (List ℕ))
  pub members : List SetSource
  pub excludes : List MemberSource

-- room, and how often a spec was asked in it, modulo 2 ^ 128
pub record SpecRoom : Type 0 where
  pub room : Room
  pub tested : ℕ

-- room for so many tokens, and outcomes with these names, are what the globs and the attributes of the specs want
pub record HasGlobRoom (specs : List Numbered) (tokens : ℕ) (names : List (List (List ℕ))) : Type 0 where
  pub globs : All (λ n. tokens_of n.spec ≤ tokens) specs
  pub outcomes : names ≡ names_in_order specs

-- the room has what the globs and the attributes of the specs want, and its sets are theirs
pub record HasRoom (specs : List Numbered) (room : Room) : Type 0 where
  pub globs : All (λ n. tokens_of n.spec ≤ room.tokens) specs
  pub outcomes : room.names ≡ names_in_order specs
  pub members : room.members ≡ head_set_sources specs
  pub excludes : room.excludes ≡ made_sources specs

-- the contents of a walker's scratch: the room that its matches work in, and their counts
pub record ScratchContents : Type 0 where
  pub room : Room
  pub counts : MatchCounts

-- the scratch was made for these specs, or for others that want no more
abbrev pub Fits : List Numbered → ScratchContents → Type 0
Fits specs scratch = HasRoom specs scratch.room
