-- Paths: byte strings that are cut at `/` (gitglossary, "pathspec").
use Rattle.std.specs.Prelude.{◌≡◌, ◌⊎◌, ℕ, Bool, not, ◌&&◌, ◌||◌, List, [], ◌∷◌, ◌++◌, length, drop, filter, codes, bytes_eq, ◌==◌, if◌then◌else◌, Option, Some, None, ◌-◌, ◌<◌, take, nat_eq, All}
use Rattle.std.specs.List.{starts_with, ends_with, list_all, join_with_byte, slice_split}
use Rattle.pathspec_glob.specs.Bytes.{slash, is_empty, begins_with}

-- each element is a byte
abbrev pub IsBytes : List ℕ → Type 0
IsBytes text = All (λ b. b < 256) text

-- the byte `/`
abbrev pub is_slash : ℕ → Bool
is_slash b = b == slash

-- what stands between the slashes
abbrev pub pieces : List ℕ → List (List ℕ)
pieces path = slice_split is_slash path

-- neither empty nor `.`
abbrev pub is_component : List ℕ → Bool
is_component piece = not (is_empty piece || bytes_eq piece (codes "."))

-- `..`
abbrev pub is_parent_dir : List ℕ → Bool
is_parent_dir piece = bytes_eq piece (codes "..")

-- a component other than `..`
abbrev pub is_name : List ℕ → Bool
is_name piece = is_component piece && not (is_parent_dir piece)

-- The components of a path: its pieces between slashes, without the empty ones and `.`
abbrev pub components : List ℕ → List (List ℕ)
components path = filter is_component (pieces path)

-- names with a slash between each two
abbrev pub join_names : List (List ℕ) → List ℕ
join_names names = join_with_byte slash names

-- x begins with d and a slash
abbrev pub IsBelow : List ℕ → List ℕ → Type 0
IsBelow x d = (rest : List ℕ) × (x ≡ d ++ slash ∷ rest)

-- x is d, or begins with d and a slash
abbrev pub IsAtOrBelow : List ℕ → List ℕ → Type 0
IsAtOrBelow x d = (x ≡ d) ⊎ IsBelow x d

-- the first of these as a test
abbrev pub is_below : List ℕ → List ℕ → Bool
is_below x d = begins_with x (d ++ slash ∷ [])

-- the second as a test
abbrev pub is_at_or_below : List ℕ → List ℕ → Bool
is_at_or_below x d = bytes_eq x d || is_below x d

-- A path is absolute where it begins with a slash.
abbrev pub is_absolute : List ℕ → Bool
is_absolute path = begins_with path (slash ∷ [])

-- A clean prefix is empty, or names joined by single slashes.
abbrev pub is_clean_prefix : List ℕ → Bool
is_clean_prefix prefix = is_empty prefix || list_all is_name (pieces prefix)

-- a path that ends with a slash
abbrev pub ends_with_slash : List ℕ → Bool
ends_with_slash path = ends_with nat_eq path (slash ∷ [])

-- a path without its last byte, where that is a slash
abbrev pub without_last_slash : List ℕ → List ℕ
without_last_slash path = if ends_with_slash path then take (length path - 1) path else path

-- the names after those that begin them
abbrev pub strip_names : List (List ℕ) → List (List ℕ) → Option (List (List ℕ))
strip_names front names = if starts_with bytes_eq names front then Some (drop (length front) names) else None

-- the components of an absolute path after those of an absolute root that begin them
abbrev pub strip_root : List ℕ → List ℕ → Option (List (List ℕ))
strip_root root path = if is_absolute root && is_absolute path then strip_names (components root) (components path) else None
