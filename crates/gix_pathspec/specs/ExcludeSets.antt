-- Subtree excludes that one set of globs stands for: those that begin with a wildcard, and can take the rest of a directory.
use Rattle.std.specs.Prelude.{◌≡◌, ◌<◌, ℕ, Bool, true, false, not, ◌&&◌, List, [], ◌∷◌, ◌++◌, length, filter, map, if◌then◌else◌, Some, is_some}
use Rattle.pathspec_glob.specs.Bytes.{star}
use Rattle.pathspec_glob_set.specs.Sets.{member_matches}
use Rattle.pathspec_heads.specs.Groups.{GroupedPlaces, IsGrouped}
use Rattle.pathspec_heads.specs.Heads.{IsChainOf}
use Rattle.gix_pathspec.specs.Bytes.{begins_with, slash}
use Rattle.gix_pathspec.specs.Paths.{IsBytes}
use Rattle.gix_pathspec.specs.Specs.{Spec}
use Rattle.gix_pathspec.specs.EndBytes.{has_wildcard_at}
use Rattle.gix_pathspec.specs.Room.{exclude_source_of, MemberSource}
use Rattle.gix_pathspec.specs.Sets.{member_from}
use Rattle.gix_pathspec.specs.SubtreeExcludes.{covers, exclude_head}

-- ---- one exclude

-- the exclude stands in the set
abbrev pub is_exclude_member : Spec → Bool
is_exclude_member s = is_some (exclude_source_of s)

-- Where the glob doesn't match a directory and a slash, the exclude doesn't cover the directory, unless a wildcard byte begins this: it may be the exclude's text then.
abbrev pub ExcludeSetLeavesOut : Type 0
ExcludeSetLeavesOut =
    (s : Spec) (source : MemberSource) (d : List ℕ) → exclude_source_of s ≡ Some source → IsBytes d → has_wildcard_at d 0 ≡ false
    → member_matches (member_from source) (d ++ slash ∷ []) ≡ false → covers s d ≡ false

-- Where the glob matches a directory and a slash, the exclude covers the directory.
abbrev pub ExcludeSetCuts : Type 0
ExcludeSetCuts =
    (s : Spec) (source : MemberSource) (d : List ℕ) → exclude_source_of s ≡ Some source → IsBytes d
    → member_matches (member_from source) (d ++ slash ∷ []) ≡ true → covers s d ≡ true

-- ---- the excludes of a search

-- The head by which an exclude is looked for beside a set that is asked: that of one in the set is a wildcard byte, which then doesn't begin the directory.
abbrev pub exclude_head_beside : Bool → Spec → List ℕ
exclude_head_beside is_set_asked s = if is_set_asked && is_exclude_member s then star ∷ [] else exclude_head s

-- the places of excludes, in groups by the heads by which they are looked for, where a set is asked or isn't
abbrev pub AreExcludePlacesBeside : Bool → List Spec → GroupedPlaces → Type 0
AreExcludePlacesBeside is_set_asked excludes places = IsGrouped (map (exclude_head_beside is_set_asked) excludes) places.heads places.starts places.order

-- an exclude that is looked for by its head covers the directory, where a set is asked or isn't
abbrev pub covers_beside : Bool → List ℕ → Spec → Bool
covers_beside is_set_asked d s = not (is_set_asked && is_exclude_member s) && covers s d

-- an exclude that is looked for by its head, which begins the directory, where a set is asked or isn't
abbrev pub is_headed_beside : Bool → List ℕ → Spec → Bool
is_headed_beside is_set_asked d s = not (is_set_asked && is_exclude_member s) && begins_with d (exclude_head s)

-- how many there are
abbrev pub exclude_count_beside : Bool → List Spec → List ℕ → ℕ
exclude_count_beside is_set_asked excludes d = length (filter (is_headed_beside is_set_asked d) excludes)

-- an exclude of the set covers the directory
abbrev pub member_covers : List ℕ → Spec → Bool
member_covers d s = is_exclude_member s && covers s d

-- The groups are those of the heads by which excludes are looked for; where a set is asked, no wildcard byte begins the directory.
pub record AreHeadsBeside (is_set_asked : Bool) (excludes : List Spec) (d : List ℕ) (places : GroupedPlaces) : Type 0 where
  pub grouped : AreExcludePlacesBeside is_set_asked excludes places
  pub plain : is_set_asked ≡ true → has_wildcard_at d 0 ≡ false

-- The head with this number begins the directory, as do those that begin it, of the heads by which excludes are looked for; where a set is asked, no wildcard byte begins the directory.
pub record AreExcludesBeside (is_set_asked : Bool) (excludes : List Spec) (d : List ℕ) (places : GroupedPlaces) (head : ℕ) : Type 0 where
  pub grouped : AreExcludePlacesBeside is_set_asked excludes places
  pub within : head < length places.heads
  pub chain : IsChainOf places.heads d head
  pub plain : is_set_asked ≡ true → has_wildcard_at d 0 ≡ false
