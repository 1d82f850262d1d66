-- The last byte of a text, and what a pattern says of it.
use Rattle.std.specs.Prelude.{◌≡◌, ℕ, ◌-◌, ◌==◌, Bool, not, ◌&&◌, ◌||◌, List, length, get_or, Option, Some, None, if◌then◌else◌, IsTrue}
use Rattle.pathspec_glob.specs.declared.Mode.{Mode}
use Rattle.pathspec_glob.specs.declared.Case.{Case}
use Rattle.pathspec_glob.specs.Bytes.{close_bracket, is_empty, is_wildcard, slash}
use Rattle.pathspec_glob.specs.Tokens.{tokens}
use Rattle.pathspec_glob.specs.GlobRelation.{is_same_byte, matches}

-- the last byte of a text that isn't empty
abbrev pub last_byte : List ℕ → ℕ
last_byte text = get_or text (length text - 1) 0

-- A byte that stands for itself at the end of a pattern: it is no wildcard, closes no bracket, and is no slash, with which `**/` may be left out.
abbrev pub is_own_end : ℕ → Bool
is_own_end b = not (is_wildcard b || ((b == close_bracket) || (b == slash)))

-- the last byte of a pattern, where it stands for itself
abbrev pub own_end : List ℕ → Option ℕ
own_end pattern = if not (is_empty pattern) && is_own_end (last_byte pattern) then Some (last_byte pattern) else None

-- the text ends with this byte, up to case where it does not count
abbrev pub ends_with_byte : Case → List ℕ → ℕ → Bool
ends_with_byte case text byte = not (is_empty text) && is_same_byte case byte (last_byte text)

-- Every text that a pattern matches as a glob ends with the pattern's last byte, where that stands for itself.
abbrev pub MatchHasOwnEnd : Type 0
MatchHasOwnEnd = (pattern : List ℕ) (byte : ℕ) → own_end pattern ≡ Some byte
    → (mode : Mode) (case : Case) (text : List ℕ) → IsTrue (matches mode case (tokens mode pattern) text) → IsTrue (ends_with_byte case text byte)
