-- What a question whether a walk may skip a directory counts: the excludes that it asks, the heads that it compares, and the steps and looks of their set.
use Rattle.std.specs.Prelude.{◌≡◌, MatchBool, ℕ, ◌+◌, ◌*◌, ◌≤◌, Bool, true, false, not, ◌&&◌, List, length, filter}
use Rattle.pathspec_glob.specs.Counts.{Counts}
use Rattle.gix_pathspec.specs.Bytes.{is_empty, begins_with}
use Rattle.gix_pathspec.specs.Specs.{Spec, is_exclude}
use Rattle.gix_pathspec.specs.Search.{Numbered, BeginsCounts, MatchCounts, specs_of}
use Rattle.gix_pathspec.specs.EndBytes.{has_wildcard_at}
use Rattle.gix_pathspec.specs.Effort.{IsCounted, IsLastCounted, IsSetCounted}
use Rattle.gix_pathspec.specs.Reach.{subtree_excludes_of}
use Rattle.gix_pathspec.specs.Room.{exclude_set_sources, MemberSource}
use Rattle.gix_pathspec.specs.Sets.{places_of, IsSetMade}
use Rattle.gix_pathspec.specs.SkipTables.{holds_nothing_by_tables}
use Rattle.gix_pathspec.specs.SubtreeExcludes.{exclude_head, subtree_exclude_count}
use Rattle.gix_pathspec.specs.ExcludeSets.{exclude_count_beside}

-- ---- excludes that are asked

-- The totals grew by what the last question to the excludes asked and compared. It asked no more of them than have a head that begins the directory.
abbrev pub IsExcludeCounted : List Spec → List ℕ → MatchCounts → MatchCounts → Type 0
IsExcludeCounted excludes d = IsLastCounted (subtree_exclude_count excludes d) (length excludes)

-- Where a set is made of the excludes, it told whether one of them covers the directory, unless a wildcard byte begins this or the set gave up.
abbrev pub ToldOfExcludes : List Spec → List ℕ → MatchCounts → Type 0
ToldOfExcludes excludes d counts = IsSetMade (exclude_set_sources excludes) → has_wildcard_at d 0 ≡ false → counts.last_gave_up ≡ false → counts.last_by_set ≡ true

-- The total grew by the steps and looks of a set of these sources, which are few: for each byte of the directory and for its slash as
-- many steps as the set has places, and two; and at most one look at each member.
pub record CountsSteps (d : List ℕ) (sources : List MemberSource) (old new : MatchCounts) : Type 0 where
  pub stepped : Counts old.stepped new.last_stepped new.stepped
  pub few_stepped : new.last_stepped ≤ (length d + 1) * (places_of sources + 2) + length sources

-- The set of the excludes was asked once, if at all. Where it told, none of its excludes was asked.
pub record IsExcludeSetCounted (is_asked : Bool) (excludes : List Spec) (d : List ℕ) (old new : MatchCounts) : Type 0 where
  pub steps : CountsSteps d (exclude_set_sources excludes) old new
  pub beside : new.last_by_set ≡ true → new.last_tested ≤ exclude_count_beside true excludes d
  pub told : is_asked ≡ true → ToldOfExcludes excludes d new

-- A question to the set asked no exclude and compared no head.
pub record KeepsAsked (old new : MatchCounts) : Type 0 where
  pub last_tested : new.last_tested ≡ old.last_tested
  pub last_compared : new.last_compared ≡ old.last_compared
  pub tested : new.tested ≡ old.tested
  pub compared : new.compared ≡ old.compared

-- A question changed no count of the set.
pub record KeepsSetCounts (old new : MatchCounts) : Type 0 where
  pub last_stepped : new.last_stepped ≡ old.last_stepped
  pub last_by_set : new.last_by_set ≡ old.last_by_set
  pub last_gave_up : new.last_gave_up ≡ old.last_gave_up
  pub stepped : new.stepped ≡ old.stepped

-- ---- whether a walk may skip a directory

-- how many excludes have a head that begins the directory
abbrev pub exclude_count : List Spec → List ℕ → ℕ
exclude_count specs d = length (filter (λ s. is_exclude s && begins_with d (exclude_head s)) specs)

-- The excludes are asked of a directory whose path isn't empty, and of which no table tells that it holds nothing.
abbrev pub asks_excludes : List Spec → List ℕ → Bool
asks_excludes specs d = not (is_empty d) && not (holds_nothing_by_tables specs d)

-- The totals grew by what a question whether a walk may skip a directory asked, compared and stepped. It asked no more specs than there
-- are excludes with a head that begins the directory.
pub record IsSkipCounted (specs : List Spec) (d : List ℕ) (old new : MatchCounts) : Type 0 where
  pub asked : IsLastCounted (exclude_count specs d) (length specs) old new
  pub by_set : IsExcludeSetCounted (asks_excludes specs d) (subtree_excludes_of specs) d old new

-- tables tell of a directory that it holds nothing, and a visit passes it over without a match
abbrev pub is_passed_over : List Numbered → List ℕ → Bool → Bool
is_passed_over specs path is_dir = is_dir && holds_nothing_by_tables (specs_of specs) path

-- The totals grew by what a visit asked, compared and stepped: in its match, and then, where it asks whether a walk may skip the path, in this question.
pub record IsVisitCounted (specs : List Numbered) (path : List ℕ) (is_dir asks : Bool) (old new : MatchCounts) : Type 0 where
  pub between : MatchCounts
  pub matched : IsCounted specs path old between
  pub by_set : MatchBool (is_passed_over specs path is_dir) (BeginsCounts old between) (IsSetCounted specs path old between)
  pub skipped : MatchBool asks (IsSkipCounted (specs_of specs) path between new) (new ≡ between)
