-- Specs that a text has on its lines, as those of a file (git, "--pathspec-from-file").
use Rattle.std.specs.Prelude.{ℕ, ◌+◌, List, [], ◌∷◌, map, Result, Ok}
use Rattle.bstr.specs.Text.{lines_of, without_terminator}
use Rattle.pathspec_pattern.specs.declared.defaults.Defaults.{Defaults}
use Rattle.gix_pathspec.specs.Results.{◌>>=◌}
use Rattle.gix_pathspec.specs.Faults.{Fault}
use Rattle.gix_pathspec.specs.Specs.{Spec}
use Rattle.gix_pathspec.specs.Reading.{reading}
use Rattle.gix_pathspec.specs.Search.{Numbered, at_number, numbered_from, search_of}

-- The lines of a text. A line feed ends each, and the last may lack it; one carriage return directly before a line feed is no part of the line.
abbrev pub spec_lines : List ℕ → List (List ℕ)
spec_lines text = map without_terminator (lines_of text)

-- the spec that each text says, where they are numbered from n on, or the first fault with the number of its text
abbrev pub readings_from : ℕ → Defaults → List (List ℕ) → Result (List Spec) (ℕ × Fault)
readings_from n defaults [] = Ok []
readings_from n defaults (text ∷ texts) = at_number n (reading defaults text) >>= λ spec. readings_from (n + 1) defaults texts >>= λ specs. Ok (spec ∷ specs)

-- the search of the specs that texts say, or the first fault: of a text that says none, and then of a spec without a normal form
abbrev pub search_of_texts : Defaults → List ℕ → List ℕ → List (List ℕ) → Result (List Numbered) (ℕ × Fault)
search_of_texts defaults prefix root texts = readings_from 0 defaults texts >>= search_of prefix root

-- The search of the specs on the lines of a text, or the first fault with the number of its line, from 0.
abbrev pub search_of_lines : Defaults → List ℕ → List ℕ → List ℕ → Result (List Numbered) (ℕ × Fault)
search_of_lines defaults prefix root text = search_of_texts defaults prefix root (spec_lines text)

-- the normal forms of the specs on the lines of a text, numbered from 0, or the first fault: of a line that says no spec, and then of a spec without a normal form
abbrev pub numbered_of_lines : Defaults → List ℕ → List ℕ → List ℕ → Result (List Numbered) (ℕ × Fault)
numbered_of_lines defaults prefix root text = readings_from 0 defaults (spec_lines text) >>= numbered_from 0 prefix root
