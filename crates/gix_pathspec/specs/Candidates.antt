-- The specs that a match may ask about a path: those beside the sets by their heads, and the members that the sets don't leave out.
use Rattle.std.specs.Prelude.{◌≡◌, ◌<◌, ℕ, Bool, true, false, All, List, length, Option, Some, None, is_some}
use Rattle.std.specs.Borrow.{Bor}
use Rattle.pathspec_heads.specs.Groups.{GroupedPlaces}
use Rattle.pathspec_heads.specs.Heads.{head_at, IsChainOf}
use Rattle.pathspec_glob_set.specs.declared.set.SetScratch.{SetScratch}
use Rattle.gix_pathspec.specs.declared.by_head.Candidates.{Candidates}
use Rattle.gix_pathspec.specs.declared.by_head.head_set.HeadSet.{HeadSet}
use Rattle.gix_pathspec.specs.declared.search.members.Members.{Members}
use Rattle.gix_pathspec.specs.Bytes.{begins_with}
use Rattle.gix_pathspec.specs.Beside.{ArePlacesBeside, IsUnbarred}
use Rattle.gix_pathspec.specs.HeadSets.{begins_of, set_heads, AreHeadSetsOf, IsLittleStepped, IsLongestOf, IsNextOf}
use Rattle.gix_pathspec.specs.Members.{AreMembersOf}
use Rattle.gix_pathspec.specs.Search.{Numbered}
use Rattle.gix_pathspec.specs.SetSources.{all_sources, SetSource}

-- The longest head that begins the path is this one, of the heads by which specs are looked for; where sets are asked, no wildcard byte stands right behind the head of one that begins the path.
pub record AreBeside (specs : List Numbered) (path : List ℕ) (places : GroupedPlaces) (head : Option ℕ) (is_set_asked : Bool) : Type 0 where
  pub grouped : ArePlacesBeside is_set_asked specs places
  pub chain : (j : ℕ) → head ≡ Some j → (j < length places.heads) × IsChainOf places.heads path j
  pub none : head ≡ None → (k : ℕ) → k < length places.heads → begins_with path (head_at places.heads k) ≡ false
  pub plain : is_set_asked ≡ true → IsUnbarred specs path

-- the specs that may match the path, where sets are asked or aren't
pub record AreCandidates (specs : List Numbered) (path : List ℕ) (candidates : Candidates) (sets : List HeadSet) : Type 0 where
  pub beside : AreBeside specs path candidates.heads.now candidates.head (is_some candidates.members)
  pub are : (members : Bor Members) → candidates.members ≡ Some members → AreMembersOf specs members.now
  pub own : AreHeadSetsOf (all_sources specs) sets
  pub begun : is_some candidates.members ≡ true → IsLongestOf (set_heads sets) path candidates.set_heads.now candidates.set_head

-- where sets are asked, what is known of the member of each that is next, and of those before it
abbrev pub AreNext : List Numbered → List ℕ → Candidates → List HeadSet → ℕ → Type 0
AreNext specs path candidates sets from = is_some candidates.members ≡ true → All (IsNextOf specs path from) sets

-- Questions left the sets what they are, the steps that they took for the path, and where their counts began.
pub record KeepsSets (old new : List HeadSet) : Type 0 where
  pub own : (sources : List SetSource) → AreHeadSetsOf sources old → AreHeadSetsOf sources new
  pub few : (path : List ℕ) → All (IsLittleStepped path) old → All (IsLittleStepped path) new
  pub heads : set_heads new ≡ set_heads old
  pub begun : begins_of new ≡ begins_of old

-- a scratch stays one of the same set
abbrev pub HasSameMoves : Option SetScratch → Option SetScratch → Type 0
HasSameMoves None None = Unit {0}
HasSameMoves None (Some new) = ⊥
HasSameMoves (Some old) None = ⊥
HasSameMoves (Some old) (Some new) = new.table.moves ≡ old.table.moves
