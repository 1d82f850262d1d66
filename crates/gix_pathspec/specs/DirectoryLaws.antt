-- Promises of the other answers about directories, as facts that contracts can cite.
use Rattle.std.specs.Prelude.{◌≡◌, ◌≢◌, ℕ, Bool, true, false, ◌⊎◌, List, [], Some, IsTrue, IsFalse}
use Rattle.gix_pathspec.specs.Paths.{IsAtOrBelow}
use Rattle.gix_pathspec.specs.Attributes.{Table}
use Rattle.gix_pathspec.specs.Specs.{Spec}
use Rattle.gix_pathspec.specs.Matching.{IsChosen}
use Rattle.gix_pathspec.specs.Directories.{directory_matches, common_directory}
use Rattle.gix_pathspec.specs.PruningLaws.{ExcludesAll, NoIncludeFits}

-- Where a directory does not lie in the prefix of the specs, an exclude takes every path, or no include fits any path at or below it.
abbrev pub OutsideFitsNone : List Spec → Type 0
OutsideFitsNone specs = (d : List ℕ) → IsFalse (directory_matches specs d true) → ExcludesAll specs ⊎ ((path : List ℕ) (is_dir : Bool) → IsAtOrBelow path d → NoIncludeFits specs path is_dir)

-- Where a directory does not lie in the prefix of the specs, nothing at or below it is chosen.
abbrev pub OutsideIsSafe : Table → List Spec → Type 0
OutsideIsSafe table specs = (d : List ℕ) → IsFalse (directory_matches specs d true) → (path : List ℕ) (is_dir : Bool) → IsAtOrBelow path d → ¬ (IsChosen table specs path is_dir)

-- A directory that lies in the prefix lies there with leading too.
abbrev pub LeadingIsWider : List Spec → Type 0
LeadingIsWider specs = (d : List ℕ) → IsTrue (directory_matches specs d false) → IsTrue (directory_matches specs d true)

-- Every chosen path lies at or below the common directory, which is not empty.
abbrev pub CommonDirectoryHoldsAll : Table → List Spec → Type 0
CommonDirectoryHoldsAll table specs = (d : List ℕ) → common_directory specs ≡ Some d → (d ≢ []) × ((path : List ℕ) (is_dir : Bool) → path ≢ [] → IsChosen table specs path is_dir → IsAtOrBelow path d)
