-- Members of sets of globs, and the next spec that a match asks.
use Rattle.std.specs.Prelude.{◌≡◌, ◌≢◌, ◌<◌, ◌≤◌, ℕ, Bool, true, false, List, [], length, map, slice_get, Option, Some, None}
use Rattle.pathspec_glob.specs.ByteSets.{listed_token_list}
use Rattle.pathspec_glob_set.specs.declared.member.Member.{Member}
use Rattle.pathspec_glob_set.specs.Sets.{count_places}
use Rattle.pathspec_glob_set.specs.Sizes.{most_places}
use Rattle.gix_pathspec.specs.Bytes.{begins_with}
use Rattle.gix_pathspec.specs.Attributes.{Table}
use Rattle.gix_pathspec.specs.Specs.{Spec}
use Rattle.gix_pathspec.specs.Matching.{spec_matches}
use Rattle.gix_pathspec.specs.Prefixes.{head}
use Rattle.gix_pathspec.specs.EndBytes.{NeverMatches}
use Rattle.gix_pathspec.specs.Sources.{MemberSource}
use Rattle.gix_pathspec.specs.Search.{Numbered}

-- ---- one spec

-- the member that is made of a source
abbrev pub member_from : MemberSource → Member
member_from source = record { tokens = listed_token_list source.glob.mode source.glob.pattern; case = source.case; cuts = source.cuts }

-- how many places the globs of so many members have: one for each token, and one more for each glob
abbrev pub places_of : List MemberSource → ℕ
places_of sources = count_places (map member_from sources)

-- A set is made of these sources: there are some, and their globs have no more places than a set takes.
pub record IsSetMade (sources : List MemberSource) : Type 0 where
  pub some : sources ≢ []
  pub few : places_of sources ≤ most_places

-- ---- the next spec to be asked

-- no spec of this kind from a place on, before another, matches the path, whatever a look-up says
abbrev pub NoneBetween : (Spec → Bool) → List Numbered → List ℕ → ℕ → ℕ → Type 0
NoneBetween is_so specs path from to = (p : ℕ) (n : Numbered) → from ≤ p → p < to → slice_get specs p ≡ Some n → is_so n.spec ≡ true → NeverMatches n.spec path

-- any spec
abbrev pub any_spec : Spec → Bool
any_spec s = true

-- A spec that may match is next: its head begins the path, and none of this kind before it, from a place on, matches.
pub record IsNextAt (is_so : Spec → Bool) (specs : List Numbered) (path : List ℕ) (from place : ℕ) : Type 0 where
  pub behind : from ≤ place
  pub headed : (n : Numbered) × (slice_get specs place ≡ Some n) × (begins_with path (head n.spec) ≡ true)
  pub others : NoneBetween is_so specs path from place

-- the next spec of this kind from a place on that may match, or none
abbrev pub IsNext : (Spec → Bool) → List Numbered → List ℕ → ℕ → Option ℕ → Type 0
IsNext is_so specs path from None = NoneBetween is_so specs path from (length specs)
IsNext is_so specs path from (Some place) = IsNextAt is_so specs path from place

-- No spec before a place matches the path.
abbrev pub NoneBefore : Table → List Numbered → List ℕ → Bool → ℕ → Type 0
NoneBefore table specs path is_dir from = (p : ℕ) (n : Numbered) → p < from → slice_get specs p ≡ Some n → spec_matches table n.spec path is_dir ≡ false

-- the spec at a place is of this kind
abbrev pub IsKindAt : (Spec → Bool) → List Numbered → ℕ → Type 0
IsKindAt is_so specs place = (n : Numbered) → slice_get specs place ≡ Some n → is_so n.spec ≡ true
