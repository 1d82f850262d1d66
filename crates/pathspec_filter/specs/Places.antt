-- The directory that a filter's last record lies in, and what is known of it.
use Rattle.std.specs.Prelude.{◌≡◌, ◌≢◌, ℕ, ◌≤◌, Bool, false, List, [], ◌∷◌, ◌++◌, length, take}
use Rattle.pathspec_parts.specs.Bytes.{slash}
use Rattle.pathspec_parts.specs.Paths.{IsBelow}
use Rattle.pathspec_parts.specs.Attributes.{Table}
use Rattle.pathspec_parts.specs.Records.{is_bad}
use Rattle.gix_pathspec.specs.Search.{Numbered, specs_of}
use Rattle.gix_pathspec.specs.Matching.{is_chosen}
use Rattle.pathspec_parts.specs.RecordParts.{IsFreeOf}
use Rattle.pathspec_filter.specs.declared.selection.Selection.{Selection}
use Rattle.pathspec_filter.specs.Selections.{path_in, takes_in}

-- What is asked about paths: the specs, in search order, and which records are taken.
pub record Asked : Type 0 where
  pub specs : List Numbered
  pub selection : Selection

-- whether the path that a record has is chosen
abbrev pub is_chosen_in : Table → Asked → List ℕ → Bool → Bool
is_chosen_in table asked path is_dir = is_chosen table (specs_of asked.specs) (path_in asked.selection.leading_dot path) is_dir

-- whether a record is taken
abbrev pub is_taken : Table → Asked → List ℕ → Bool → Bool
is_taken table asked = takes_in asked.selection (is_chosen table (specs_of asked.specs))

-- Nothing below the directory is chosen, whatever a look-up says.
abbrev pub HoldsNoneChosen : Asked → List ℕ → Type 0
HoldsNoneChosen asked d = (table : Table) (path : List ℕ) (is_dir : Bool) → IsBelow path d → is_chosen_in table asked path is_dir ≡ false

-- So many bytes of a directory's path, if not 0, are a directory with its slash that holds none chosen.
abbrev pub IsSkippedAt : Asked → List ℕ → ℕ → Type 0
IsSkippedAt asked directory n = n ≢ 0 → (n ≤ length directory) × (d : List ℕ) × (take n directory ≡ d ++ slash ∷ []) × HoldsNoneChosen asked d

-- so many first bytes of both are the same
pub record SharesFront (directory wanted : List ℕ) (n : ℕ) : Type 0 where
  pub inside : n ≤ length wanted
  pub same : take n wanted ≡ take n directory

-- the path is these bytes, and more
abbrev pub LiesIn : List ℕ → List ℕ → Type 0
LiesIn directory path = (rest : List ℕ) × (path ≡ directory ++ rest)

-- A name after these bytes makes a record that isn't bad.
abbrev pub TakesNames : List ℕ → Type 0
TakesNames directory = (name : List ℕ) → name ≢ [] → IsFreeOf slash name → is_bad (directory ++ name) ≡ false

-- what a place keeps to
pub record IsPlace (asked : Asked) (separator : ℕ) (directory : List ℕ) (skipped : ℕ) : Type 0 where
  pub free : IsFreeOf separator directory
  pub names : TakesNames directory
  pub skipped_is : IsSkippedAt asked directory skipped

-- What a filter decides by: what is asked, and the byte that ends a record.
pub record Choice : Type 0 where
  pub asked : Asked
  pub separator : ℕ

-- whether a record is taken
abbrev pub chooses : Table → Choice → List ℕ → Bool → Bool
chooses table choice = is_taken table choice.asked
