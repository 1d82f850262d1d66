-- The specs that a match asks beside the sets of heads, and the members of these sets.
use Rattle.std.specs.Prelude.{◌≡◌, ℕ, Bool, true, false, not, ◌&&◌, List, length, map, slice_get, if◌then◌else◌, Some}
use Rattle.pathspec_heads.specs.Groups.{GroupedPlaces, IsGrouped}
use Rattle.gix_pathspec.specs.Bytes.{begins_with}
use Rattle.gix_pathspec.specs.Specs.{Spec}
use Rattle.gix_pathspec.specs.Matching.{glob_matches}
use Rattle.gix_pathspec.specs.Prefixes.{head}
use Rattle.gix_pathspec.specs.EndBytes.{has_wildcard_at}
use Rattle.gix_pathspec.specs.Search.{Numbered}
use Rattle.gix_pathspec.specs.SetSources.{all_sources, ended, has_set_behind, stands_in_set, SetSource}

-- The head by which a spec is looked for beside sets that are asked: that of a member has a star behind it, and begins no path then.
abbrev pub head_beside : Bool → List SetSource → Spec → List ℕ
head_beside is_set_asked sources s = if is_set_asked && stands_in_set sources s then ended (head s) else head s

-- the places of the specs, in groups by the heads by which they are looked for, where sets are asked or aren't
abbrev pub ArePlacesBeside : Bool → List Numbered → GroupedPlaces → Type 0
ArePlacesBeside is_set_asked specs places = IsGrouped (map (λ n. head_beside is_set_asked (all_sources specs) n.spec) specs) places.heads places.starts places.order

-- the specs that are looked for by their heads, where sets are asked or aren't
abbrev pub is_beside : Bool → List SetSource → Spec → Bool
is_beside is_set_asked sources s = not (is_set_asked && stands_in_set sources s)

-- where the spec at a place stands in a set, its glob matches the path
abbrev pub IsHit : List Numbered → List ℕ → ℕ → Type 0
IsHit specs path place = (n : Numbered) → slice_get specs place ≡ Some n → stands_in_set (all_sources specs) n.spec ≡ true → glob_matches n.spec.mode n.spec path ≡ true

-- no wildcard byte stands in a path right behind a head that has a set and begins the path
abbrev pub IsUnbarred : List Numbered → List ℕ → Type 0
IsUnbarred specs path = (h : List ℕ) → has_set_behind (all_sources specs) h ≡ true → begins_with path h ≡ true → has_wildcard_at path (length h) ≡ false
