-- Promises of pruning, as facts that contracts can cite.
use Rattle.std.specs.Prelude.{◌≡◌, ◌≢◌, ℕ, Bool, false, ◌⊎◌, ◌↔◌, List, [], ◌∷◌, ◌++◌, Option, Some, IsTrue, IsFalse, Contains}
use Rattle.std.specs.List.{list_any}
use Rattle.gix_pathspec.specs.Bytes.{slash, fold_case, begins_with}
use Rattle.gix_pathspec.specs.Paths.{IsBytes, IsBelow, IsAtOrBelow}
use Rattle.gix_pathspec.specs.Attributes.{Table}
use Rattle.gix_pathspec.specs.Specs.{Spec, is_include, ignores_case, always_matches}
use Rattle.gix_pathspec.specs.Matching.{fits, spec_matches, IsChosen}
use Rattle.gix_pathspec.specs.Plain.{is_plain, is_plain_but_for_attributes}
use Rattle.gix_pathspec.specs.Prefixes.{stem}
use Rattle.gix_pathspec.specs.Pruning.{can_match, is_total_exclude}

-- an exclude stands that takes every path
abbrev pub ExcludesAll : List Spec → Type 0
ExcludesAll specs = IsTrue (list_any is_total_exclude specs)

-- some spec is an include
abbrev pub HasInclude : List Spec → Type 0
HasInclude specs = IsTrue (list_any is_include specs)

-- there are includes, and none fits the path
abbrev pub NoIncludeFits : List Spec → List ℕ → Bool → Type 0
NoIncludeFits specs path is_dir = HasInclude specs × ((s : Spec) → Contains specs s → IsTrue (is_include s) → IsFalse (fits s path is_dir))

-- ---- safe

-- Safe: where pruning says no to a directory, or to what may be one, an exclude takes every path, or no include fits any path at or below it, whatever a look-up says.
abbrev pub PruningIsSafe : List Spec → Type 0
PruningIsSafe specs = (d : List ℕ) (asked : Option Bool) → asked ≢ Some false → IsFalse (can_match specs d asked)
    → ExcludesAll specs ⊎ ((path : List ℕ) (is_dir : Bool) → IsAtOrBelow path d → NoIncludeFits specs path is_dir)

-- Safe for a file: where pruning says no to it, an exclude takes every path, or no include fits the file.
abbrev pub FilePruningIsSafe : List Spec → Type 0
FilePruningIsSafe specs = (d : List ℕ) → IsFalse (can_match specs d (Some false)) → ExcludesAll specs ⊎ NoIncludeFits specs d false

-- Where pruning says no to a directory, or to what may be one, nothing at or below it is chosen, whatever a look-up says.
abbrev pub PrunedIsNotChosen : Table → List Spec → Type 0
PrunedIsNotChosen table specs = (d : List ℕ) (asked : Option Bool) → asked ≢ Some false → IsFalse (can_match specs d asked)
    → (path : List ℕ) (is_dir : Bool) → IsAtOrBelow path d → ¬ (IsChosen table specs path is_dir)

-- A path that is pruned as a file is not chosen as one.
abbrev pub FilePrunedIsNotChosen : Table → List Spec → Type 0
FilePrunedIsNotChosen table specs = (d : List ℕ) → IsFalse (can_match specs d (Some false)) → ¬ (IsChosen table specs d false)

-- ---- sharp

-- the include takes d as a directory, or some path below it
abbrev pub TakesAtOrBelow : (Spec → List ℕ → Bool → Bool) → List Spec → List ℕ → Type 0
TakesAtOrBelow takes specs d = (s : Spec) × Contains specs s × IsTrue (is_include s) × (path : List ℕ) × (is_dir : Bool) × IsBytes path × ((path ≡ d) × IsTrue is_dir ⊎ IsBelow path d) × IsTrue (takes s path is_dir)

-- all includes are of a kind
abbrev pub HasOnlyIncludes : (Spec → Bool) → List Spec → Type 0
HasOnlyIncludes kind specs = (s : Spec) → Contains specs s → IsTrue (is_include s) → IsTrue (kind s)

-- no exclude takes every path, and there is no include or one takes d or some path below it
abbrev pub CanTake : (Spec → List ℕ → Bool → Bool) → List Spec → List ℕ → Type 0
CanTake takes specs d = ¬ (ExcludesAll specs) × (¬ (HasInclude specs) ⊎ TakesAtOrBelow takes specs d)

-- Sharp: where all includes are plain, pruning says yes to just those directories where no exclude takes every path, and an include matches the directory or some path below it, or there is no include.
abbrev pub PruningIsSharp : Table → List Spec → Type 0
PruningIsSharp table specs = HasOnlyIncludes is_plain specs
    → (d : List ℕ) (asked : Option Bool) → d ≢ [] → IsBytes d → asked ≢ Some false → IsTrue (can_match specs d asked) ↔ CanTake (spec_matches table) specs d

-- Sharp for plain includes that may list attributes, with fits in the place of matches.
abbrev pub PruningIsSharpForFits : List Spec → Type 0
PruningIsSharpForFits specs = HasOnlyIncludes is_plain_but_for_attributes specs
    → (d : List ℕ) (asked : Option Bool) → d ≢ [] → IsBytes d → asked ≢ Some false → IsTrue (can_match specs d asked) ↔ CanTake fits specs d

-- ---- near

-- the spec always matches, or its stem begins d or lies below it, without case where it has none
abbrev pub IsNear : Spec → List ℕ → Type 0
IsNear s d = let folded_d = fold_case (ignores_case s) d in let folded_stem = fold_case (ignores_case s) (stem s) in
    IsTrue (always_matches s) ⊎ (IsTrue (begins_with folded_d folded_stem) ⊎ IsTrue (begins_with folded_stem (folded_d ++ slash ∷ [])))

-- Near: where pruning says yes, some include is near.
abbrev pub PruningIsNear : List Spec → Type 0
PruningIsNear specs = HasInclude specs → (d : List ℕ) (is_dir : Option Bool) → d ≢ [] → IsTrue (can_match specs d is_dir) → (s : Spec) × Contains specs s × IsTrue (is_include s) × IsNear s d
