-- Vectors of truth values as words.
use Rattle.std.specs.Prelude.{ℕ, Bool, false, List, map, get_or, ◌/◌, ◌%◌}
use Rattle.std.specs.List.{range_with_len}
use Rattle.pathspec_glob.specs.GlobCells.{has}

-- the value at a place
abbrev pub holds : List Bool → ℕ → Bool
holds bits place = get_or bits place false

-- whether words hold the place
abbrev pub words_hold : List ℕ → ℕ → Bool
words_hold words place = has (get_or words (place / 64) 0) (place % 64)

-- the truth values that words are, of so many places
abbrev pub bits_of : List ℕ → ℕ → List Bool
bits_of words states = map (words_hold words) (range_with_len 0 states)
