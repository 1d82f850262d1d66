-- What a walk over a tree enters and gives.
use Rattle.std.specs.Prelude.{◌≡◌, ◌↔◌, ℕ, ◌+◌, ◌<◌, ◌≤◌, Bool, not, ◌&&◌, List, [], length, take, slice_get, Some, None, IsTrue, All, Contains}
use Rattle.std.specs.List.Sorted.{IsStrictlyIncreasing}
use Rattle.pathspec_parts.specs.Paths.{IsBelow}
use Rattle.pathspec_parts.specs.Attributes.{Table}
use Rattle.pathspec_parts.specs.Entries.{Entry, is_seen, entries_where}
use Rattle.pathspec_parts.specs.Trees.{IsNested, HasBytePaths}
use Rattle.pathspec_parts.specs.Cursors.{next_seen, append_if}
use Rattle.gix_pathspec.specs.Specs.{Spec}
use Rattle.gix_pathspec.specs.Matching.{spec_matches, is_chosen, IsChosen}
use Rattle.gix_pathspec.specs.Plain.{is_plain}
use Rattle.gix_pathspec.specs.Skipping.{may_skip}
use Rattle.gix_pathspec.specs.SkipLaws.{ArePlain, CaseAgrees, HoldsChosen}
use Rattle.gix_pathspec.specs.PruningLaws.{HasOnlyIncludes, CanTake}
use Rattle.gix_pathspec.specs.SelectionLaws.{NoNilPrefix, SpecPathsAreBytes}

-- ---- what a walk enters

-- an entry before the end that is a directory with a path that passes, and that a walk sees which entered these
pub record IsToEnter (can_enter : List ℕ → Bool) (es : List Entry) (end : ℕ) (entered : List ℕ) (m : ℕ) : Type 0 where
  pub entry : Entry
  pub stands : slice_get es m ≡ Some entry
  pub before : m < end
  pub is_dir : IsTrue entry.is_dir
  pub can_be_entered : IsTrue (can_enter entry.path)
  pub seen : IsTrue (is_seen entered entry)

-- A walk over the entries before the end entered just the directories that it saw and whose paths pass.
pub record Enters (can_enter : List ℕ → Bool) (es : List Entry) (end : ℕ) (entered : List ℕ) : Type 0 where
  pub rising : IsStrictlyIncreasing entered
  pub are : (m : ℕ) → Contains entered m → IsToEnter can_enter es end entered m
  pub all : (m : ℕ) → IsToEnter can_enter es end entered m → Contains entered m

-- What such a walk entered is one list.
abbrev pub EnteredIsOne : Type 0
EnteredIsOne = (can_enter : List ℕ → Bool) (es : List Entry) (end : ℕ) (a b : List ℕ) → IsNested es → Enters can_enter es end a → Enters can_enter es end b → a ≡ b

-- Each directory above a path that is taken can be entered.
abbrev pub IsSafePruning : (List ℕ → Bool) → (List ℕ → Bool → Bool) → Type 0
IsSafePruning can_enter takes = (path d : List ℕ) (is_dir : Bool) → IsTrue (takes path is_dir) → IsBelow path d → IsTrue (can_enter d)

-- Then a walk sees each entry that is taken.
abbrev pub TakenIsSeen : (List ℕ → Bool) → (List ℕ → Bool → Bool) → Type 0
TakenIsSeen can_enter takes = IsSafePruning can_enter takes → (es : List Entry) (end : ℕ) (entered : List ℕ) → IsNested es → Enters can_enter es end entered
    → (n : ℕ) (e : Entry) → n ≤ end → slice_get es n ≡ Some e → IsTrue (takes e.path e.is_dir) → IsTrue (is_seen entered e)

-- ---- a walk in its course

-- what has been taken and entered before the end
pub record IsWalkUpTo (can_enter : List ℕ → Bool) (takes : List ℕ → Bool → Bool) (es : List Entry) (end : ℕ) (given entered : List ℕ) : Type 0 where
  pub given_is : given ≡ entries_where takes (take end es)
  pub enters : Enters can_enter es end entered

-- A walk starts with nothing.
abbrev pub WalkStarts : (List ℕ → Bool) → (List ℕ → Bool → Bool) → Type 0
WalkStarts can_enter takes = (es : List Entry) → IsWalkUpTo can_enter takes es 0 [] []

-- It goes on to the next entry that it sees: that one is taken, and entered, where it passes.
abbrev pub WalkGoesOn : (List ℕ → Bool) → (List ℕ → Bool → Bool) → Type 0
WalkGoesOn can_enter takes = IsSafePruning can_enter takes → (es : List Entry) (end : ℕ) (given entered : List ℕ) → IsNested es → IsWalkUpTo can_enter takes es end given entered
    → (n : ℕ) (e : Entry) → next_seen entered end es ≡ Some n → slice_get es n ≡ Some e
    → IsWalkUpTo can_enter takes es (n + 1) (append_if (takes e.path e.is_dir) n given) (append_if (e.is_dir && can_enter e.path) n entered)

-- Where it sees no further entry, it has come to the end of all.
abbrev pub WalkEnds : (List ℕ → Bool) → (List ℕ → Bool → Bool) → Type 0
WalkEnds can_enter takes = IsSafePruning can_enter takes → (es : List Entry) (end : ℕ) (given entered : List ℕ) → IsNested es → IsWalkUpTo can_enter takes es end given entered
    → next_seen entered end es ≡ None → IsWalkUpTo can_enter takes es (length es) given entered

-- ---- a walk for specs

-- P of the entry with this number
abbrev pub IsEntryWith : List Entry → (Entry → Type 0) → ℕ → Type 0
IsEntryWith es P n = (e : Entry) × (slice_get es n ≡ Some e) × P e

-- the entry with this number is a directory, and P of its path
abbrev pub IsDirectoryWith : List Entry → (List ℕ → Type 0) → ℕ → Type 0
IsDirectoryWith es P n = IsEntryWith es (λ e. IsTrue e.is_dir × P e.path) n

-- each directory that the entry lies in was entered
abbrev pub LiesWithin : List ℕ → Entry → Type 0
LiesWithin entered e = (m : ℕ) → Contains e.above m → Contains entered m

-- A directory can hold a chosen path below it: a walk may not skip it.
abbrev pub can_hold : List Spec → List ℕ → Bool
can_hold specs d = not (may_skip specs d)

-- a directory that a walk comes to which entered these, at or below which something is chosen
pub record HoldsSome (table : Table) (specs : List Spec) (es : List Entry) (entered : List ℕ) (m : ℕ) : Type 0 where
  pub entry : Entry
  pub stands : slice_get es m ≡ Some entry
  pub is_dir : IsTrue entry.is_dir
  pub seen : IsTrue (is_seen entered entry)
  pub holds : HoldsChosen table specs entry.path

-- What a walk over a tree gives and enters, for specs and a steady look-up.
pub record IsWalk (table : Table) (specs : List Spec) (es : List Entry) (given entered : List ℕ) : Type 0 where
  -- It gives exactly the chosen entries, each once, in the tree's order.
  pub given_rising : IsStrictlyIncreasing given
  pub given_chosen : (n : ℕ) → Contains given n ↔ IsEntryWith es (λ e. IsChosen table specs e.path e.is_dir) n
  -- It enters only directories that can hold a chosen path, each once, in the tree's order.
  pub entered_rising : IsStrictlyIncreasing entered
  pub entered_can_hold : All (IsDirectoryWith es (λ d. IsTrue (can_hold specs d))) entered
  -- Each directory above an entry that it gives or enters is one that it enters: it looks at nothing else.
  pub above_given : All (IsEntryWith es (LiesWithin entered)) given
  pub above_entered : All (IsEntryWith es (LiesWithin entered)) entered
  -- Where all includes are plain, it enters only directories at or below which an include matches some path, if there is an include.
  pub entered_sharp : HasOnlyIncludes is_plain specs → All (IsDirectoryWith es (CanTake (spec_matches table) specs)) entered
  -- Where all specs are plain, and no include without case stands beside an exclude with case, it enters exactly the directories, among those that it comes to, at or below which something is chosen.
  pub entered_exact : ArePlain specs → CaseAgrees specs → (m : ℕ) → Contains entered m ↔ HoldsSome table specs es entered m

-- The numbers of the chosen entries.
abbrev pub chosen_entries : Table → List Spec → List Entry → List ℕ
chosen_entries table specs es = entries_where (is_chosen table specs) es

-- A walk over the entries before the end entered just the directories that it saw and that can hold a chosen path.
abbrev pub HasWalked : List Spec → List Entry → ℕ → List ℕ → Type 0
HasWalked specs es end entered = Enters (can_hold specs) es end entered

-- It did, and gave just the chosen ones of these entries.
abbrev pub HasChosen : Table → List Spec → List Entry → ℕ → List ℕ → List ℕ → Type 0
HasChosen table specs es end given entered = IsWalkUpTo (can_hold specs) (is_chosen table specs) es end given entered

-- Where it came to the end of all, that is a walk in the sense above.
abbrev pub WalkHolds : Table → List Spec → Type 0
WalkHolds table specs = NoNilPrefix specs → SpecPathsAreBytes specs → (es : List Entry) (given entered : List ℕ) → IsNested es → HasBytePaths es → HasChosen table specs es (length es) given entered → IsWalk table specs es given entered

-- What such a walk gives is one list.
abbrev pub GivenIsOne : Table → List Spec → Type 0
GivenIsOne table specs = (es : List Entry) (given entered : List ℕ) → IsWalk table specs es given entered → given ≡ chosen_entries table specs es
