-- Where a path parts from a text that it would have to begin with.
use Rattle.std.specs.Prelude.{ℕ, ◌+◌, ◌<◌, Bool, List, length, take, if◌then◌else◌, ◌==◌, IsTrue, IsFalse}
use Rattle.std.specs.Char.{eq_ignore_ascii_case}
use Rattle.gix_pathspec.specs.Bytes.{begins_with}

-- The path begins with so many bytes of the text, and not with one more.
pub record PartsAt (text path : List ℕ) (at : ℕ) : Type 0 where
  pub within : at < length text
  pub before : IsTrue (begins_with path (take at text))
  pub there : IsFalse (begins_with path (take (at + 1) text))

-- two bytes are equal, up to ASCII case where it does not count
abbrev pub is_same : Bool → ℕ → ℕ → Bool
is_same ignore_case own byte = if ignore_case then eq_ignore_ascii_case own byte else own == byte
