-- Promises of what a search selects, as facts that contracts can cite.
use Rattle.std.specs.Prelude.{◌≡◌, ◌≢◌, ◌↔◌, ℕ, Bool, List, [], Option, IsTrue, IsFalse, Contains, is_some}
use Rattle.std.specs.List.Sorted.{IsPermutation}
use Rattle.gix_pathspec.specs.Bytes.{is_empty, fold_case, begins_with}
use Rattle.gix_pathspec.specs.Paths.{IsBytes}
use Rattle.gix_pathspec.specs.Attributes.{Table}
use Rattle.gix_pathspec.specs.Specs.{Spec, ignores_case}
use Rattle.gix_pathspec.specs.Matching.{fit, fits, spec_matches, is_chosen, IsChosen}
use Rattle.gix_pathspec.specs.Prefixes.{stem, head, common_prefix}
use Rattle.gix_pathspec.specs.Search.{Numbered, Answer, specs_of, selects}

-- The test `is_chosen` gives just what the statement `IsChosen` says.
abbrev pub ChosenIsTest : Type 0
ChosenIsTest = (table : Table) (specs : List Spec) (path : List ℕ) (is_dir : Bool) → IsTrue (is_chosen table specs path is_dir) ↔ IsChosen table specs path is_dir

-- The order of the specs doesn't matter.
abbrev pub OrderIsFree : Type 0
OrderIsFree = (table : Table) (specs others : List Spec) (path : List ℕ) (is_dir : Bool) → IsPermutation specs others → IsChosen table specs path is_dir → IsChosen table others path is_dir

-- The answer for a path that is not empty selects it just where it is chosen: no exclude matches it, and some include does or there is none.
abbrev pub SelectsChosen : Table → List Numbered → List ℕ → Bool → Option Answer → Type 0
SelectsChosen table search path is_dir given = path ≢ [] → IsTrue (selects given) ↔ IsChosen table (specs_of search) path is_dir

-- The answer for a path that is not empty selects it only where it begins with the common prefix.
abbrev pub SelectsCommon : List Numbered → List ℕ → Option Answer → Type 0
SelectsCommon search path given = path ≢ [] → IsTrue (selects given) → IsTrue (begins_with path (common_prefix (specs_of search)))

-- Each path that a spec fits begins with the spec's head.
abbrev pub FittedBeginsHead : Type 0
FittedBeginsHead = (s : Spec) (path : List ℕ) (is_dir : Bool) → IsTrue (fits s path is_dir) → IsTrue (begins_with path (head s))

-- Each path that a spec fits begins with the spec's stem, without case where the spec has none, unless the spec is nil.
abbrev pub FittedBeginsStem : Type 0
FittedBeginsStem = (s : Spec) (path : List ℕ) (is_dir : Bool) → IsFalse s.nil → IsTrue (fits s path is_dir) → IsTrue (begins_with (fold_case (ignores_case s) path) (fold_case (ignores_case s) (stem s)))

-- A spec that lists no attributes matches what it fits, whatever a look-up says.
abbrev pub FittedMatches : Type 0
FittedMatches = (s : Spec) → IsTrue (is_empty s.attributes) → (table : Table) (path : List ℕ) (is_dir : Bool) → is_some (fit s path is_dir) ≡ spec_matches table s path is_dir

-- Every chosen path begins with the common prefix.
abbrev pub ChosenBeginsCommon : Type 0
ChosenBeginsCommon = (table : Table) (specs : List Spec) (path : List ℕ) (is_dir : Bool) → path ≢ [] → IsChosen table specs path is_dir → IsTrue (begins_with path (common_prefix specs))

-- The paths of specs are bytes, as in each search.
abbrev pub SpecPathsAreBytes : List Spec → Type 0
SpecPathsAreBytes specs = (s : Spec) → Contains specs s → IsBytes s.path

-- A nil spec has no prefix directory, as in each search.
abbrev pub NoNilPrefix : List Spec → Type 0
NoNilPrefix specs = (s : Spec) → Contains specs s → IsTrue s.nil → s.prefix_length ≡ 0
