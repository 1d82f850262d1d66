-- What the filter of a command takes, and what it ends with.
use Rattle.std.specs.Prelude.{◌≡◌, ◌≢◌, ℕ, ◌⊎◌, Bool, List, [], Option, Some, None, IfSome, Result, Ok, Err, if◌then◌else◌}
use Rattle.pathspec_parts.specs.Attributes.{Table}
use Rattle.pathspec_parts.specs.AttributeRows.{table_of}
use Rattle.pathspec_parts.specs.Records.{records, first_bad}
use Rattle.pathspec_parts.specs.Outputs.{records_where, good_records}
use Rattle.gix_pathspec.specs.Search.{Numbered, specs_of}
use Rattle.gix_pathspec.specs.Matching.{is_chosen}
use Rattle.pathspec_filter.specs.declared.selection.LeadingDot.TheVariants as leading_dot
use Rattle.pathspec_filter.specs.declared.selection.Selection.{Selection}
use Rattle.pathspec_filter.specs.declared.answers.Counts.{Counts}
use Rattle.pathspec_filter.specs.Selections.{takes_in}
use Rattle.pathspec_filter.specs.FilterAnswers.{EndsWell, EndsEarly}
use Rattle.pathspec_options.specs.declared.options.FilterOptions.{FilterOptions}
use Rattle.pathspec_commands.specs.declared.attributes.Attributes.{Attributes}
use Rattle.pathspec_commands.specs.declared.attributes.Attributes.TheVariants.{Rows, Directory}
use Rattle.pathspec_commands.specs.declared.filtering.Ended.{Ended}

-- ---- what is taken

-- the byte that ends a record
abbrev pub separator_of : FilterOptions → ℕ
separator_of options = if options.null then 0 else 10

-- Which records are taken, and whether a leading `./` is part of a path.
abbrev pub selection_of : FilterOptions → Selection
selection_of options = record { leading_dot = if options.verbatim then leading_dot.Kept else leading_dot.Dropped; is_inverted = options.invert }

-- whether a path is taken, by options, a search and what is known of attributes
abbrev pub takes_of : FilterOptions → List Numbered → Table → List ℕ → Bool → Bool
takes_of options search table = takes_in (selection_of options) (is_chosen table (specs_of search))

-- This holds of the attributes of paths, where the options give them: of attribute files nothing is said.
abbrev pub WithTable : Attributes → (Table → Type 0) → Type 0
WithTable (Rows rows) P = P (table_of rows.rows)
WithTable (Directory directory) P = Unit {0}

-- ---- how a filter ends

-- All output of the listing was appended, and it was counted; no record of it is bad.
abbrev pub EndsCounted : (List ℕ → Bool → Bool) → ℕ → Option (List ℕ) → Option (List ℕ) → Option Counts → List ℕ → Type 0
EndsCounted takes separator old new None input = ⊥
EndsCounted takes separator old new (Some counts) input = EndsWell takes separator old new counts input

-- What a filter ends with, for a listing where it is known, and for what a writer held before and holds after it: at a fault a beginning of the output was appended.
abbrev pub EndsWriting : {F : Type 0} → (List ℕ → Bool → Bool) → ℕ → Option (List ℕ) → Option (List ℕ) → Option (List ℕ) → Result Ended F → Type 0
EndsWriting takes separator listing old new (Ok ended) = IfSome listing (EndsCounted takes separator old new ended.counts)
EndsWriting takes separator listing old new (Err fault) = IfSome listing (EndsEarly takes separator old new)

-- ---- whether a record is taken

-- some record before the first bad one is taken
abbrev pub TakesSome : (List ℕ → Bool → Bool) → ℕ → List ℕ → Type 0
TakesSome takes separator input = records_where takes (good_records (records separator input)) ≢ []

-- no record is taken, and none is bad
pub record TakesNone (takes : List ℕ → Bool → Bool) (separator : ℕ) (input : List ℕ) : Type 0 where
  pub good : first_bad (records separator input) ≡ None
  pub none : records_where takes (records separator input) ≡ []

-- The exit status 0 says that some record is taken, and 1 that none is. There is no other.
abbrev pub TellsWhether : (List ℕ → Bool → Bool) → ℕ → ℕ → List ℕ → Type 0
TellsWhether takes separator status input = ((status ≡ 0) × TakesSome takes separator input) ⊎ ((status ≡ 1) × TakesNone takes separator input)

-- What a search for the first taken record ends with, for a listing where it is known.
abbrev pub TellsFirst : {F : Type 0} → (List ℕ → Bool → Bool) → ℕ → Option (List ℕ) → Result Ended F → Type 0
TellsFirst takes separator listing (Ok ended) = IfSome listing (TellsWhether takes separator ended.status)
TellsFirst takes separator listing (Err fault) = Unit {0}
