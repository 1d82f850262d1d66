-- The answers to many paths.
use Rattle.std.specs.Prelude.{◌≡◌, ◌⊎◌, ℕ, ◌-◌, List, length, take, map, Option, Some, None}
use Rattle.std.specs.List.{AllZip, suffix_len}
use Rattle.pathspec_parts.specs.Paths.{is_slash, ends_with_slash}
use Rattle.gix_pathspec.specs.Search.{selects}
use Rattle.pathspec_c.specs.Calls.{yes_no}
use Rattle.pathspec_c.specs.Searchers.{SearcherContents, answer_in}

-- a text without the slashes at its end
abbrev pub without_slashes : List ℕ → List ℕ
without_slashes text = take (length text - suffix_len is_slash text) text

-- Whether a search selects a path, which is a directory's where the text has a slash at its end. An empty handle selects nothing.
abbrev pub answer_to : Option SearcherContents → List ℕ → ℕ
answer_to None text = 0
answer_to (Some searcher) text = yes_no (selects (answer_in searcher (without_slashes text) (ends_with_slash text)))

-- the answers to all of them, in order
abbrev pub answers_to : Option SearcherContents → List (List ℕ) → List ℕ
answers_to search texts = map (answer_to search) texts

-- Each of the wanted answers is given, or 1 in its place.
abbrev pub LosesNone : List ℕ → List ℕ → Type 0
LosesNone wanted given = AllZip (λ w g. (g ≡ w) ⊎ (g ≡ 1)) wanted given
