-- An input that has specs before its listing: lines of specs, the line `--`, and the listing.
use Rattle.std.specs.Prelude.{◌≡◌, ℕ, Bool, List, ◌++◌, codes, bytes_eq, IsTrue}
use Rattle.std.specs.List.{list_any, before_first, after_first, concat}
use Rattle.bstr.specs.Text.{lines_of, without_terminator}

-- a line is `--`, whatever ends it
abbrev pub is_end_line : List ℕ → Bool
is_end_line line = bytes_eq (without_terminator line) (codes "--")

-- some line is
abbrev pub has_end_line : List ℕ → Bool
has_end_line input = list_any is_end_line (lines_of input)

-- what stands before the first such line: the lines of the specs
abbrev pub spec_text : List ℕ → List ℕ
spec_text input = concat (before_first is_end_line (lines_of input))

-- what stands after it: the listing
abbrev pub listing_text : List ℕ → List ℕ
listing_text input = concat (after_first is_end_line (lines_of input))

-- An input with such a line is the lines of the specs, that line, and the listing; no line of the specs is `--`.
pub record IsInParts (input : List ℕ) : Type 0 where
  pub line : List ℕ
  pub is_end : IsTrue (is_end_line line)
  pub whole : input ≡ spec_text input ++ line ++ listing_text input
  pub before : lines_of (spec_text input) ≡ before_first is_end_line (lines_of input)
  pub after : lines_of (listing_text input) ≡ after_first is_end_line (lines_of input)

-- Each such input is.
abbrev pub InputIsInParts : Type 0
InputIsInParts = (input : List ℕ) → IsTrue (has_end_line input) → IsInParts input
