-- What a handle holds.
use Rattle.std.specs.Prelude.{◌≡◌, ℕ, Bool, true, false, List, [], ◌∷◌, ◌++◌, Option, Some, None, Ok}
use Rattle.std.specs.Option.{IsSomeAnd}
use Rattle.pathspec_glob.specs.declared.Case.TheVariants.{Sensitive}
use Rattle.pathspec_parts.specs.Attributes.{Assignment, Table}
use Rattle.pathspec_parts.specs.AttributeRows.{Row, table_of as table_of_rows}
use Rattle.pathspec_pattern.specs.AttributeLists.{assignments_of}
use Rattle.pathspec_attributes.specs.Files.{Files, table_of as table_of_files}
use Rattle.pathspec_attributes.specs.Places.{no_files}
use Rattle.gix_pathspec.specs.Search.{Numbered, Answer, answer}

-- the attributes that were given: none, rows of paths, or attribute files
pub data GivenAttributes : Type 0 where
  NoneGiven : GivenAttributes
  RowsGiven : (rows : List Row) → GivenAttributes
  FilesGiven : (files : Files) → GivenAttributes

-- the specs of a search in search order, and the attributes that were given
pub record SearcherContents : Type 0 where
  pub specs : List Numbered
  pub attributes : GivenAttributes

-- a search that no attributes were given to
abbrev pub new_searcher : List Numbered → SearcherContents
new_searcher specs = record { specs = specs; attributes = NoneGiven }

-- The answer to each question of attributes: no row's, that of the rows, or that of the files.
abbrev pub table_in : GivenAttributes → Table
table_in NoneGiven = table_of_rows []
table_in (RowsGiven rows) = table_of_rows rows
table_in (FilesGiven files) = table_of_files files

-- which spec settles a path, by these attributes
abbrev pub answer_in : SearcherContents → List ℕ → Bool → Option Answer
answer_in searcher path is_dir = answer (table_in searcher.attributes) searcher.specs path is_dir

-- whether any were given, so that a question may take memory
abbrev pub has_attributes : GivenAttributes → Bool
has_attributes NoneGiven = false
has_attributes (RowsGiven rows) = true
has_attributes (FilesGiven files) = true

-- whether rows were given, beside which no file stands
abbrev pub has_rows : GivenAttributes → Bool
has_rows NoneGiven = false
has_rows (RowsGiven rows) = true
has_rows (FilesGiven files) = false

-- whether files were given, beside which no row stands
abbrev pub has_files : GivenAttributes → Bool
has_files NoneGiven = false
has_files (RowsGiven rows) = false
has_files (FilesGiven files) = true

-- the rows that were given
abbrev pub rows_in : GivenAttributes → List Row
rows_in NoneGiven = []
rows_in (RowsGiven rows) = rows
rows_in (FilesGiven files) = []

-- the files that were given
abbrev pub files_in : GivenAttributes → Files
files_in NoneGiven = no_files Sensitive
files_in (RowsGiven rows) = no_files Sensitive
files_in (FilesGiven files) = files

-- Files stay, and rows answer each question as before.
abbrev pub KeepsGiven : GivenAttributes → GivenAttributes → Type 0
KeepsGiven NoneGiven new = new ≡ NoneGiven
KeepsGiven (RowsGiven rows) new = (kept : List Row) × (new ≡ RowsGiven kept) × (table_of_rows kept ≡ table_of_rows rows)
KeepsGiven (FilesGiven files) new = new ≡ FilesGiven files

-- the specs stay, and the attributes do
pub record Keeps (old new : SearcherContents) : Type 0 where
  pub specs : new.specs ≡ old.specs
  pub attributes : KeepsGiven old.attributes new.attributes

-- an empty handle stays empty, and else it keeps what it holds
abbrev pub KeepsSearcher : Option SearcherContents → Option SearcherContents → Type 0
KeepsSearcher None new = new ≡ None
KeepsSearcher (Some old) new = IsSomeAnd new (Keeps old)

-- one row more: a path, and what a list of attributes assigns there
abbrev pub AddsRow : List ℕ → List ℕ → SearcherContents → SearcherContents → Type 0
AddsRow path list old new =
    (all : List Assignment) × (assignments_of list ≡ Ok all) × (new ≡ record old { attributes = RowsGiven (rows_in old.attributes ++ record { path = path; assignments = all } ∷ []) })
