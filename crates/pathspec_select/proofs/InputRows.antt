-- Rows on inputs that have specs before their listing.
use Rattle.std.proofs.Common.{◌≡◌, ℕ, refl, true, false, List, [], ◌∷◌, ◌++◌, map, Ok, Err}
use Rattle.std.specs.Prelude.{codes}
use Rattle.bstr.specs.Text.{line_len, lines_from}
use Rattle.gix_pathspec.specs.Faults.Fault.{Empty}
use Rattle.gix_pathspec.specs.Reading.{empty_spec, no_defaults, cut_of, spec_of, reading}
use Rattle.gix_pathspec.specs.NormalForm.{climb, normal_form}
use Rattle.gix_pathspec.specs.Search.{search_of}
use Rattle.pathspec_select.specs.RequestFaults.RequestFault.{NoEnd, BadSpec}
use Rattle.pathspec_select.specs.Input.{has_end_line, spec_text, listing_text}
use Rattle.pathspec_select.specs.Requests.{BuilderContents, parts_of}
use Rattle.pathspec_select.specs.Requests.JobSpecs.{FromWords, FromInput}

-- specs from `f`, under no prefix
abbrev of_f : BuilderContents
of_f = record { source = codes "f"; defaults = no_defaults; prefix = []; root = [] }

-- `a`, `--`, `b`, each with a line feed
abbrev short_input : List ℕ
short_input = codes "a" ++ 10 ∷ codes "--" ++ 10 ∷ codes "b" ++ 10 ∷ []

lines_before_the_mark_are_specs : spec_text short_input ≡ 97 ∷ 10 ∷ []
unfolding line_len lines_from
lines_before_the_mark_are_specs = refl

-- inputs, and their listings
abbrev inputs : List (List ℕ × List ℕ)
inputs =
    (short_input, 98 ∷ 10 ∷ [])
    -- the mark may end with a carriage return and a line feed, and lack its line feed at the end
    ∷ (codes "--" ++ 13 ∷ 10 ∷ 98 ∷ [], 98 ∷ [])
    ∷ (codes "a" ++ 10 ∷ codes "--", [])
    -- a second mark is a record
    ∷ (codes "--" ++ 10 ∷ codes "--" ++ 10 ∷ [], codes "--" ++ 10 ∷ [])
    ∷ []

listings_follow_the_mark : map (λ r. listing_text r.0) inputs ≡ map (λ r. r.1) inputs
unfolding line_len lines_from
listings_follow_the_mark = refl

-- a mark without its line feed, one that ends with a carriage return alone, and longer lines
marks : map has_end_line ((codes "a" ++ 10 ∷ codes "--") ∷ (codes "--" ++ 13 ∷ []) ∷ (codes "--a" ++ 10 ∷ codes " --" ++ 10 ∷ []) ∷ []) ≡ (true ∷ false ∷ false ∷ [])
unfolding line_len lines_from
marks = refl

empty_input_has_no_mark : parts_of (FromInput of_f) [] ≡ Err NoEnd
unfolding line_len lines_from
empty_input_has_no_mark = refl

specs_are_those_of_the_lines : parts_of (FromInput of_f) short_input ≡ Ok (record { specs = record { number = 0; spec = record empty_spec { path = codes "a" } } ∷ []; listing = 98 ∷ 10 ∷ [] })
unfolding line_len lines_from reading cut_of spec_of search_of normal_form climb
specs_are_those_of_the_lines = refl

-- `a`, an empty line, `--`
fault_of_a_line_is_told : parts_of (FromInput of_f) (97 ∷ 10 ∷ 10 ∷ codes "--") ≡ Err (BadSpec 1 Empty)
unfolding line_len lines_from reading spec_of
fault_of_a_line_is_told = refl

-- where the specs stand in the words
all_of_the_input_is_the_listing : parts_of (FromWords []) short_input ≡ Ok (record { specs = []; listing = short_input })
all_of_the_input_is_the_listing = refl
