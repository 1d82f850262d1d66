-- Rows on what words and the environment ask for, and on the first fault.
use Rattle.std.proofs.Common.{◌≡◌, ℕ, refl, true, List, [], ◌∷◌, map, Some, None, Ok, Err}
use Rattle.std.specs.Prelude.{codes}
use Rattle.pathspec_parts.specs.Attributes.State.{Set, Unset}
use Rattle.pathspec_parts.specs.Truth.{truth_of}
use Rattle.pathspec_pattern.specs.AttributeLists.{assignment_of, assignments_of}
use Rattle.pathspec_pattern.specs.declared.SearchMode.TheVariants.{Literal}
use Rattle.pathspec_pattern.specs.Environment.{Words}
use Rattle.gix_pathspec.specs.Faults.Fault.{UnimplementedShort, LeavesRepository, NotTruth, GlobAndNoGlob}
use Rattle.gix_pathspec.specs.Reading.{literal_spec, no_defaults, is_unimplemented, cut_of, spec_of, reading}
use Rattle.gix_pathspec.specs.NormalForm.{climb, normal_form}
use Rattle.gix_pathspec.specs.Search.{search_of}
use Rattle.pathspec_select.specs.RequestFaults.{RequestFault}
use Rattle.pathspec_select.specs.RequestFaults.RequestFault.{Usage, BadEnvironment, BadSpec}
use Rattle.pathspec_select.specs.Options.{options_of}
use Rattle.pathspec_select.specs.Rows.{rows_of_words}
use Rattle.pathspec_select.specs.Requests.{request_of}
use Rattle.pathspec_select.specs.Requests.JobSpecs.{FromWords, FromInput}

-- no variable is set
abbrev unset : Words
unset = record { literal = None; icase = None; glob = None; noglob = None }

-- globs are asked for and not
abbrev glob_and_noglob : Words
glob_and_noglob = record unset { glob = Some (codes "1"); noglob = Some (codes "1") }

-- the variable for case is no word of truth
abbrev bad_case : Words
bad_case = record unset { icase = Some (codes "maybe") }

-- `--attr x gen --attr x -gen`
rows_in_their_order :
    rows_of_words (codes "--attr" ∷ codes "x" ∷ codes "gen" ∷ codes "--attr" ∷ codes "x" ∷ codes "-gen" ∷ codes "x" ∷ [])
    ≡ Ok (record { path = codes "x"; assignments = record { name = codes "gen"; state = Set } ∷ [] } ∷ record { path = codes "x"; assignments = record { name = codes "gen"; state = Unset } ∷ [] } ∷ [])
unfolding assignments_of assignment_of
rows_in_their_order = refl

-- words and variables, and the first fault
abbrev faulty : List (List (List ℕ) × Words × RequestFault)
faulty =
    -- lists of attributes are read before the environment
    (codes "--attr" ∷ codes "x" ∷ codes "a=." ∷ codes ":#x" ∷ [], bad_case, Usage)
    ∷ (codes "--attr" ∷ codes "x" ∷ [] ∷ [], unset, Usage)
    -- the environment is read before the specs and the input
    ∷ (codes ":#x" ∷ [], bad_case, BadEnvironment (NotTruth (codes "maybe")))
    ∷ (codes "--specs-first" ∷ codes "f" ∷ [], bad_case, BadEnvironment (NotTruth (codes "maybe")))
    ∷ (codes "x" ∷ [], glob_and_noglob, BadEnvironment GlobAndNoGlob)
    -- all specs are read before the first is normalised
    ∷ (codes "../x" ∷ codes ":#y" ∷ [], unset, BadSpec 1 (UnimplementedShort 35))
    ∷ (codes "a" ∷ codes "../x" ∷ [], unset, BadSpec 1 (LeavesRepository (codes "../x")))
    ∷ []

first_faults : map (λ r. request_of r.0 r.1) faulty ≡ map (λ r. Err r.2) faulty
unfolding request_of options_of assignments_of assignment_of truth_of reading cut_of is_unimplemented spec_of search_of normal_form climb
first_faults = refl

-- `-z --attr x gen *`, where literal specs are asked for, so that the variable for globs doesn't count
separator_rows_and_specs :
    request_of (codes "-z" ∷ codes "--attr" ∷ codes "x" ∷ codes "gen" ∷ codes "*" ∷ []) (record unset { literal = Some (codes "yes"); glob = Some (codes "maybe") })
    ≡ Ok (record { separator = 0; rows = record { path = codes "x"; assignments = record { name = codes "gen"; state = Set } ∷ [] } ∷ []; specs = FromWords (record { number = 0; spec = literal_spec 0 (codes "*") } ∷ []) })
unfolding request_of options_of assignments_of assignment_of truth_of reading search_of normal_form climb
separator_rows_and_specs = refl

-- `--prefix a --specs-first f`, where literal specs are asked for: what a search of lines is built with
builder_is_asked_for :
    request_of (codes "--prefix" ∷ codes "a" ∷ codes "--specs-first" ∷ codes "f" ∷ []) (record unset { literal = Some (codes "yes") })
    ≡ Ok (record { separator = 10; rows = []; specs = FromInput (record { source = codes "f"; defaults = record no_defaults { search_mode = Literal; literal = true }; prefix = codes "a"; root = [] }) })
unfolding request_of options_of truth_of
builder_is_asked_for = refl
