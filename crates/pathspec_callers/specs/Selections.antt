-- What a search selects, and what it has nothing of.
use Rattle.std.specs.Prelude.{ℕ, Bool, false, List, length, filter}
use Rattle.gix_pathspec.specs.Paths.{IsBelow}
use Rattle.gix_pathspec.specs.Attributes.{Table}
use Rattle.gix_pathspec.specs.Matching.{IsChosen}
use Rattle.gix_pathspec.specs.Search.{SearchContents, specs_of, answer, selects}

-- the search's specs choose this file
abbrev pub IsChosenFile : Table → SearchContents → List ℕ → Type 0
IsChosenFile table search file = IsChosen table (specs_of search.specs) file false

-- how many of these files the search's answers select
abbrev pub selected_count : Table → SearchContents → List (List ℕ) → ℕ
selected_count table search files = length (filter (λ file. selects (answer table search.specs file false)) files)

-- nothing below the directory is chosen, whatever a look-up says
abbrev pub HoldsNothingBelow : SearchContents → List ℕ → Type 0
HoldsNothingBelow search directory = (table : Table) (path : List ℕ) (is_dir : Bool) → IsBelow path directory → ¬ (IsChosen table (specs_of search.specs) path is_dir)
