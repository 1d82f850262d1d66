-- The sets of heads, and what a match knows once they read a path.
use Rattle.std.specs.Prelude.{◌≡◌, ◌+◌, ◌*◌, ◌<◌, ◌≤◌, ◌⊎◌, ℕ, true, false, All, List, length, map, get_or, slice_get, Option, None, Some}
use Rattle.pathspec_heads.specs.Groups.{GroupedPlaces, IsGrouped}
use Rattle.pathspec_heads.specs.Heads.{head_at, IsChainOf}
use Rattle.pathspec_glob_set.specs.Answers.{HasRead, KeepsReading}
use Rattle.pathspec_glob_set.specs.Sizes.{most_losses}
use Rattle.pathspec_glob_set.specs.Tables.{most_misses}
use Rattle.pathspec_glob_set.specs.Sets.{AreMovesOf}
use Rattle.gix_pathspec.specs.declared.by_head.head_set.HeadSet.{HeadSet}
use Rattle.gix_pathspec.specs.Bytes.{begins_with}
use Rattle.gix_pathspec.specs.Matching.{glob_matches}
use Rattle.gix_pathspec.specs.EndBytes.{has_wildcard_at, NeverMatches}
use Rattle.gix_pathspec.specs.Search.{Numbered}
use Rattle.gix_pathspec.specs.SetSources.{all_sources, behind, has_set_behind, members_behind, numbers_behind, places_behind, SetSource}

-- ---- what sets count

-- the steps and looks of a set for the last path
abbrev pub effort_of : HeadSet → ℕ
effort_of set = set.steps + set.looks

-- and those for all paths
abbrev pub total_of : HeadSet → ℕ
total_of set = set.set.total

-- how many there were before the last path, in each set
abbrev pub begins_of : List HeadSet → List ℕ
begins_of sets = map (λ set. set.begun) sets

-- ---- one set

-- no member is next, and nothing was counted since
pub record IsAtRest (set : HeadSet) : Type 0 where
  pub none : set.next ≡ length set.numbers.items
  pub unstepped : set.steps ≡ 0
  pub unlooked : set.looks ≡ 0

-- the set read nothing yet
pub record IsUnread (set : HeadSet) : Type 0 where
  pub at_rest : IsAtRest set
  pub uncounted : total_of set ≡ 0

-- the set is that of its head
pub record IsHeadSetOf (sources : List SetSource) (set : HeadSet) : Type 0 where
  pub enough : has_set_behind sources set.head ≡ true
  pub numbers : set.numbers.items ≡ numbers_behind set.head sources
  pub own : AreMovesOf (members_behind set.head sources) set.set.table.moves

-- The set read what stands in a path behind its head: the head begins the path, no wildcard byte stands right behind it, and the set didn't give up.
pub record IsReadBehind (path : List ℕ) (set : HeadSet) : Type 0 where
  pub begins : begins_with path set.head ≡ true
  pub plain : has_wildcard_at path (length set.head) ≡ false
  pub read : HasRead set.set (behind set.head path)
  pub went_on : set.set.gave_up ≡ false

-- Of the specs at the first so many places, none that stands at or behind a place matches.
abbrev pub NoneAhead : List ℕ → List Numbered → List ℕ → ℕ → ℕ → Type 0
NoneAhead places specs path from next = (k : ℕ) (n : Numbered) → k < next → from ≤ get_or places k 0
    → slice_get specs (get_or places k 0) ≡ Some n → NeverMatches n.spec path

-- the glob of the spec at a place matches the path
abbrev pub IsGlobHit : List Numbered → List ℕ → ℕ → Type 0
IsGlobHit specs path place = (n : Numbered) → slice_get specs place ≡ Some n → glob_matches n.spec.mode n.spec path ≡ true

-- What is known of the member of a set that is next, if there is one, and of those before it. A set whose head doesn't begin the path has none.
pub record IsNextOf (specs : List Numbered) (path : List ℕ) (from : ℕ) (set : HeadSet) : Type 0 where
  pub are : IsHeadSetOf (all_sources specs) set
  pub read : set.next < length set.numbers.items → IsReadBehind path set
  pub ahead : NoneAhead (places_behind set.head specs) specs path from set.next
  pub hit : set.next < length set.numbers.items → IsGlobHit specs path (get_or (places_behind set.head specs) set.next 0)

-- A question changed the member that is next, and the looks, alone.
pub record StaysAsked (old new : HeadSet) : Type 0 where
  pub head : new.head ≡ old.head
  pub numbers : new.numbers.items ≡ old.numbers.items
  pub begun : new.begun ≡ old.begun
  pub steps : new.steps ≡ old.steps
  pub kept : KeepsReading old.set new.set

-- A path was read, or wasn't: the set is the same.
pub record StaysSame (old new : HeadSet) : Type 0 where
  pub head : new.head ≡ old.head
  pub numbers : new.numbers.items ≡ old.numbers.items
  pub moves : new.set.table.moves ≡ old.set.table.moves

-- The set took few steps: for each byte of the path as many as it has places, and two.
abbrev pub IsLittleStepped : List ℕ → HeadSet → Type 0
IsLittleStepped path set = set.steps ≤ length path * (length set.set.table.moves.wide + 2)

-- The set gave up on the path: its head begins the path, no wildcard byte stands right behind it, and the scratch was spent, or eight cells of its table were filled.
pub record IsGivenUp (path : List ℕ) (set : HeadSet) : Type 0 where
  pub begins : begins_with path set.head ≡ true
  pub plain : has_wildcard_at path (length set.head) ≡ false
  pub gave_up : set.set.gave_up ≡ true
  pub reason : (set.set.losses ≡ most_losses) ⊎ (most_misses * (length set.set.table.moves.wide + 1) ≤ set.steps)

-- the set rests unless its head begins the path
abbrev pub IsIdleBeside : List ℕ → HeadSet → Type 0
IsIdleBeside path set = begins_with path set.head ≡ false → IsAtRest set

-- ---- all sets

-- the text with a number begins the path
abbrev pub IsBegunAt : List (List ℕ) → List ℕ → ℕ → Type 0
IsBegunAt texts path k = (k < length texts) × (begins_with path (head_at texts k) ≡ true)

-- The texts stand in groups, and of these heads the longest that begins the path is this one, if one does.
pub record IsLongestOf (texts : List (List ℕ)) (path : List ℕ) (places : GroupedPlaces) (head : Option ℕ) : Type 0 where
  pub grouped : IsGrouped texts places.heads places.starts places.order
  pub chain : (j : ℕ) → head ≡ Some j → (j < length places.heads) × IsChainOf places.heads path j
  pub none : head ≡ None → (k : ℕ) → k < length places.heads → begins_with path (head_at places.heads k) ≡ false

-- the heads of sets
abbrev pub set_heads : List HeadSet → List (List ℕ)
set_heads sets = map (λ set. set.head) sets

-- no head stands twice
abbrev pub AreApart : List (List ℕ) → Type 0
AreApart hs = (j k : ℕ) → j < k → k < length hs → head_at hs j ≡ head_at hs k → ⊥

-- no wildcard byte stands in a path right behind one of these heads that begins it
abbrev pub NoneBarred : List ℕ → List (List ℕ) → Type 0
NoneBarred path hs = All (λ h. begins_with path h ≡ true → has_wildcard_at path (length h) ≡ false) hs

-- some set gave up on the path
abbrev pub SomeGaveUp : List ℕ → List HeadSet → Type 0
SomeGaveUp path sets = (k : ℕ) × (set : HeadSet) × (slice_get sets k ≡ Some set) × IsGivenUp path set

-- how many steps and looks a set takes at most for a path
abbrev pub most_effort : List ℕ → HeadSet → ℕ
most_effort path set = length path * (length set.set.table.moves.wide + 2) + length set.numbers.items

-- There is a set for each head that has one, and for no other.
pub record AreHeadSetsOf (sources : List SetSource) (sets : List HeadSet) : Type 0 where
  pub each : All (IsHeadSetOf sources) sets
  pub all : (h : List ℕ) → has_set_behind sources h ≡ true → (k : ℕ) × (k < length sets) × (head_at (set_heads sets) k ≡ h)
  pub apart : AreApart (set_heads sets)
