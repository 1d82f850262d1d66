-- The set of the subtree excludes of a search.
use Rattle.std.specs.Prelude.{◌≡◌, true, List, map, Option, is_some}
use Rattle.std.specs.Option.{ForSome}
use Rattle.std.specs.Box.{box_value}
use Rattle.pathspec_glob_set.specs.Answers.{IsSetOf}
use Rattle.pathspec_heads.specs.Groups.{GroupedPlaces}
use Rattle.gix_pathspec.specs.Room.{exclude_set_sources, exclude_sources, has_exclude_set}
use Rattle.gix_pathspec.specs.declared.search.exclude_members.ExcludeMembers.{ExcludeMembers}
use Rattle.gix_pathspec.specs.Specs.{Spec}
use Rattle.gix_pathspec.specs.Sets.{member_from, IsSetMade}
use Rattle.gix_pathspec.specs.SubtreeExcludes.{AreExcludePlaces}
use Rattle.gix_pathspec.specs.ExcludeSets.{AreExcludePlacesBeside}

-- the set and the groups are those of the excludes
pub record AreExcludeMembersOf (excludes : List Spec) (members : ExcludeMembers) : Type 0 where
  pub enough : has_exclude_set excludes ≡ true
  pub set : IsSetOf (map member_from (exclude_sources excludes)) members.set
  pub beside : AreExcludePlacesBeside true excludes (box_value members.others)

-- The places are those of the excludes, as is the set, which is there if one is made of them.
pub record AreExcludesByHead (excludes : List Spec) (heads : GroupedPlaces) (members : Option ExcludeMembers) : Type 0 where
  pub are_grouped : AreExcludePlaces excludes heads
  pub are_members : ForSome members (AreExcludeMembersOf excludes)
  pub is_made : IsSetMade (exclude_set_sources excludes) → is_some members ≡ true
