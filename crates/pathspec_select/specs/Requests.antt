-- What words and the environment ask for, and what an input has for it.
use Rattle.std.specs.Prelude.{ℕ, List, Option, Some, None, if◌then◌else◌, Result, Ok, Err}
use Rattle.pathspec_parts.specs.AttributeRows.{Row, RowsContents}
use Rattle.pathspec_pattern.specs.declared.defaults.Defaults.{Defaults}
use Rattle.pathspec_pattern.specs.Environment.{Words, defaults_of}
use Rattle.gix_pathspec.specs.Results.{◌>>=◌}
use Rattle.gix_pathspec.specs.Faults.{Fault}
use Rattle.gix_pathspec.specs.Search.{Numbered, SearchContents}
use Rattle.gix_pathspec.specs.Lines.{search_of_texts, search_of_lines}
use Rattle.pathspec_select.specs.RequestFaults.{RequestFault}
use Rattle.pathspec_select.specs.RequestFaults.RequestFault.{BadEnvironment, NoEnd, BadSpec}
use Rattle.pathspec_select.specs.Options.{Options, options_of}
use Rattle.pathspec_select.specs.Rows.{rows_of_options}
use Rattle.pathspec_select.specs.Input.{has_end_line, spec_text, listing_text}

-- ---- where specs stand

-- what a search of the lines at the front of an input is built with
pub record BuilderContents : Type 0 where
  -- what the source of the specs is called
  pub source : List ℕ
  pub defaults : Defaults
  pub prefix : List ℕ
  pub root : List ℕ

-- where the specs of a job stand
pub data JobSpecs (S : Type 0) : Type 0 where
  -- in the words, and this is their search
  FromWords : (search : S) → JobSpecs S
  -- first in the input, and a search of them is built with this
  FromInput : (builder : BuilderContents) → JobSpecs S

-- the same specs, where a search is seen as its specs in search order
abbrev pub numbered_specs : JobSpecs SearchContents → JobSpecs (List Numbered)
numbered_specs (FromWords search) = FromWords search.specs
numbered_specs (FromInput builder) = FromInput builder

-- the search, where there is one
abbrev pub search_in : {S : Type 0} → JobSpecs S → Option S
search_in (FromWords search) = Some search
search_in (FromInput builder) = None

-- what the source of the specs is called, where they stand in the input
abbrev pub source_in : {S : Type 0} → JobSpecs S → Option (List ℕ)
source_in (FromWords search) = None
source_in (FromInput builder) = Some builder.source

-- What a `Job` holds.
pub record JobContents : Type 0 where
  pub specs : JobSpecs SearchContents
  -- the byte that ends a record
  pub separator : ℕ

-- ---- what is asked for

-- what is asked for
pub record Request : Type 0 where
  -- the byte that ends a record
  pub separator : ℕ
  -- the attributes of paths, in their order
  pub rows : List Row
  -- the specs, in search order where they stand in the words
  pub specs : JobSpecs (List Numbered)

-- what a job and its rows do
abbrev pub request_view : JobContents × RowsContents → Request
request_view pair = record { separator = pair.0.separator; rows = pair.1.rows; specs = numbered_specs pair.0.specs }

-- the same defaults, where a fault is the environment's
abbrev pub environment_result : Result Defaults Fault → Result Defaults RequestFault
environment_result (Ok defaults) = Ok defaults
environment_result (Err fault) = Err (BadEnvironment fault)

-- the same result, where a fault is that of the spec with its number
abbrev pub spec_result : {A : Type 0} → Result A (ℕ × Fault) → Result A RequestFault
spec_result (Ok x) = Ok x
spec_result (Err fault) = Err (BadSpec fault.0 fault.1)

-- the specs that options ask for under the defaults, or the first fault of those that stand in the words
abbrev pub asked_specs : Options → Defaults → Result (JobSpecs (List Numbered)) RequestFault
asked_specs options defaults =
    elim options.source [
      | None ↦ spec_result (search_of_texts defaults options.prefix options.root options.texts) >>= λ specs. Ok (FromWords specs)
      | Some source ↦ Ok (FromInput (record { source = source; defaults = defaults; prefix = options.prefix; root = options.root }))
    ]

-- What words and the environment ask for, or the first fault: of the options, of their lists of attributes, of the environment, of the specs as they are read, and of the specs as they are normalised.
unfoldable pub request_of : List (List ℕ) → Words → Result Request RequestFault
request_of words environment = do
  options ← options_of words
  rows ← rows_of_options options
  defaults ← environment_result (defaults_of environment)
  specs ← asked_specs options defaults
  Ok (record { separator = options.separator; rows = rows; specs = specs })

-- ---- what an input has

-- the specs in search order, and the listing
pub record InputParts : Type 0 where
  pub specs : List Numbered
  pub listing : List ℕ

-- the search that is built of the specs on these lines
abbrev pub built_specs : BuilderContents → List ℕ → Result (List Numbered) RequestFault
built_specs builder lines = spec_result (search_of_lines builder.defaults builder.prefix builder.root lines)

-- The specs and the listing of an input: all of it is the listing, or what follows its first line `--`, and the lines before that are the specs. Or the first fault: it has no such line, or that of the specs.
abbrev pub parts_of : JobSpecs (List Numbered) → List ℕ → Result InputParts RequestFault
parts_of (FromWords specs) input = Ok (record { specs = specs; listing = input })
parts_of (FromInput builder) input =
    if has_end_line input then (built_specs builder (spec_text input) >>= λ specs. Ok (record { specs = specs; listing = listing_text input }))
    else Err NoEnd
