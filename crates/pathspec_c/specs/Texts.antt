-- Texts that a call copies to room of its caller's.
use Rattle.std.specs.Prelude.{ℕ, List, ◌++◌, length, take, drop, Option, Some, None}
use Rattle.gix_pathspec.specs.Specs.{Spec}
use Rattle.gix_pathspec.specs.Search.{specs_of}
use Rattle.pathspec_c.specs.Searchers.{SearcherContents}

-- room once bytes are copied to its front, as far as it goes
abbrev pub copied : List ℕ → List ℕ → List ℕ
copied bytes room = take (length room) bytes ++ drop (length bytes) room

-- the text of a searcher; an empty handle has none
abbrev pub text_in : (List Spec → Option (List ℕ)) → Option SearcherContents → Option (List ℕ)
text_in text None = None
text_in text (Some searcher) = text (specs_of searcher.specs)

-- 1 where there is a text, and 0 where there is none
abbrev pub text_status : Option (List ℕ) → ℕ
text_status None = 0
text_status (Some text) = 1

-- the same of a searcher, and 2 where the handle is empty
abbrev pub handle_status : (List Spec → Option (List ℕ)) → Option SearcherContents → ℕ
handle_status text None = 2
handle_status text (Some searcher) = text_status (text (specs_of searcher.specs))

-- the room, to which a text is copied where there is one
abbrev pub text_copied : Option (List ℕ) → List ℕ → List ℕ
text_copied None room = room
text_copied (Some text) room = copied text room

-- how long the text is, 0 where there is none
abbrev pub text_length : Option (List ℕ) → ℕ
text_length None = 0
text_length (Some text) = length text
