-- What is written, in the words of what specs choose.
use Rattle.std.specs.Prelude.{ℕ, List, [], ◌∷◌, ◌++◌, flat_map, Option}
use Rattle.std.specs.Io.KnownBytes.{Appends}
use Rattle.pathspec_parts.specs.Attributes.{Table}
use Rattle.pathspec_pattern.specs.Environment.{Words}
use Rattle.gix_pathspec.specs.Specs.{Spec}
use Rattle.gix_pathspec.specs.Search.{Numbered}
use Rattle.gix_pathspec.specs.Matching.{IsChosen}
use Rattle.pathspec_parts.specs.Records.{records, record_path, record_is_dir}
use Rattle.pathspec_parts.specs.Outputs.{text_of}
use Rattle.pathspec_parts.specs.AttributeRows.{table_of}
use Rattle.pathspec_select.specs.Requests.{JobSpecs}
use Rattle.pathspec_select.specs.Program.{OnParts, AsksFor}

-- The kept elements are just those of which P holds, in their order.
pub data IsSelection (P : List ℕ → Type 0) : List (List ℕ) → List (List ℕ) → Type 0 where
  -- of no elements none is kept
  none : IsSelection P [] []
  -- the first is kept, since P holds of it
  keep : {x : List ℕ} {xs kept : List (List ℕ)} → P x → IsSelection P xs kept → IsSelection P (x ∷ xs) (x ∷ kept)
  -- the first is dropped, since P doesn't
  drop : {x : List ℕ} {xs kept : List (List ℕ)} → ¬ (P x) → IsSelection P xs kept → IsSelection P (x ∷ xs) kept

-- the specs choose the path of this record
abbrev pub IsChosenRecord : Table → List Spec → List ℕ → Type 0
IsChosenRecord table specs r = IsChosen table specs (record_path r) (record_is_dir r)

-- Just the records of the listing that a job's specs choose were written, in their order, each with the separator after it.
abbrev pub WritesRecords : Table → JobSpecs (List Numbered) → ℕ → Option (List ℕ) → Option (List ℕ) → Option (List ℕ) → Type 0
WritesRecords table specs separator input old new =
    OnParts specs input (λ given listing. (kept : List (List ℕ)) × IsSelection (IsChosenRecord table given) (records separator listing) kept × Appends old new (text_of separator kept))

-- Those that the words' specs choose were, with the attributes that the words give.
abbrev pub WritesChosen : List (List ℕ) → Words → Option (List ℕ) → Option (List ℕ) → Option (List ℕ) → Type 0
WritesChosen words environment input old new = AsksFor words environment (λ request. WritesRecords (table_of request.rows) request.specs request.separator input old new)
