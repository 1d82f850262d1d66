-- The lines of an attribute file, and the words of a line (gitattributes, "DESCRIPTION").
use Rattle.std.specs.Prelude.{ℕ, Bool, not, List, [], ◌∷◌, drop, map, filter, ◌==◌, if◌then◌else◌}
use Rattle.std.specs.List.{before_first, prefix_len, slice_split}
use Rattle.std.specs.Str.Lines.{lines}
use Rattle.pathspec_glob.specs.Bytes.{is_one_of, is_empty, begins_with}

-- the byte order mark
abbrev pub order_mark : List ℕ
order_mark = 239 ∷ 187 ∷ 191 ∷ []

-- a text without the byte order mark that it begins with
abbrev pub without_order_mark : List ℕ → List ℕ
without_order_mark text = if begins_with text order_mark then drop 3 text else text

-- the byte 0
abbrev pub is_nul : ℕ → Bool
is_nul b = b == 0

-- what stands before the first byte 0
abbrev pub before_nul : List ℕ → List ℕ
before_nul text = before_first is_nul text

-- The lines of a text, without line feed and the carriage return before one. A line ends at its first byte 0 for its reader.
abbrev pub lines_of : List ℕ → List (List ℕ)
lines_of text = map before_nul (lines (without_order_mark text))

-- space, tab, line feed and carriage return
abbrev pub is_blank : ℕ → Bool
is_blank b = is_one_of (32 ∷ 9 ∷ 10 ∷ 13 ∷ []) b

-- a text without the blanks in front
abbrev pub behind_blanks : List ℕ → List ℕ
behind_blanks text = drop (prefix_len is_blank text) text

-- the words between blanks
abbrev pub words : List ℕ → List (List ℕ)
words text = filter (λ word. not (is_empty word)) (slice_split is_blank text)
