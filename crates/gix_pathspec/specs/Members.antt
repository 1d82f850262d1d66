-- The members of the sets of a search, and the sets in a scratch.
use Rattle.std.specs.Prelude.{◌≡◌, ◌+◌, All, ℕ, Bool, true, List, map, Option, Some, None, is_some}
use Rattle.std.specs.List.{sum_by}
use Rattle.std.specs.Option.{ForSome}
use Rattle.std.specs.Box.{box_value}
use Rattle.pathspec_glob.specs.Counts.{Counts}
use Rattle.pathspec_heads.specs.Groups.{GroupedPlaces, IsGrouped}
use Rattle.pathspec_glob_set.specs.declared.set.SetScratch.{SetScratch}
use Rattle.pathspec_glob_set.specs.Sets.{AreMovesOf}
use Rattle.gix_pathspec.specs.declared.by_head.head_set.HeadSet.{HeadSet}
use Rattle.gix_pathspec.specs.declared.search.members.Members.{Members}
use Rattle.gix_pathspec.specs.Beside.{ArePlacesBeside}
use Rattle.gix_pathspec.specs.HeadSets.{set_heads, total_of, AreHeadSetsOf, IsAtRest}
use Rattle.gix_pathspec.specs.Search.{Numbered}
use Rattle.gix_pathspec.specs.Room.{MemberSource, Room}
use Rattle.gix_pathspec.specs.SetSources.{all_sources, has_any_set, source_places}
use Rattle.gix_pathspec.specs.Sets.{member_from, IsSetMade}

-- the places and the groups are those of the specs, of which some head has a set
pub record AreMembersOf (specs : List Numbered) (members : Members) : Type 0 where
  pub enough : has_any_set (all_sources specs) ≡ true
  pub places : members.places.items ≡ source_places specs
  pub beside : ArePlacesBeside true specs (box_value members.others)

-- the scratch is one for the set of these members
abbrev pub IsScratchOf : List MemberSource → SetScratch → Type 0
IsScratchOf sources scratch = AreMovesOf (map member_from sources) scratch.table.moves

-- there is a set, and it gave up
abbrev pub HasGivenUp : Option SetScratch → Type 0
HasGivenUp None = ⊥
HasGivenUp (Some scratch) = scratch.gave_up ≡ true

-- The set of these sources in a scratch, which is there if one is made of them. `gave_up` tells that it gave up in the last match.
pub record IsSetIn (sources : List MemberSource) (set : Option SetScratch) (gave_up : Bool) : Type 0 where
  pub own : ForSome set (IsScratchOf sources)
  pub made : IsSetMade sources → is_some set ≡ true
  pub told : gave_up ≡ true → HasGivenUp set

-- The sets of the specs, which rest, by their heads, and the set of the excludes in a scratch of this room. The steps and looks of the sets
-- and the comparisons of their heads are counted. A flag tells of the set of the excludes whether it gave up.
pub record AreSetsIn (room : Room) (sets : List HeadSet) (heads : GroupedPlaces) (compared stepped : ℕ) (excludes : Option SetScratch) (excludes_gave_up : Bool) : Type 0 where
  pub of_specs : AreHeadSetsOf room.members sets
  pub grouped : IsGrouped (set_heads sets) heads.heads heads.starts heads.order
  pub at_rest : All IsAtRest sets
  pub counted : Counts 0 (sum_by total_of sets + compared) stepped
  pub of_excludes : IsSetIn room.excludes excludes excludes_gave_up
