-- The names in a directory, as the system gives them: each with the byte 0 at its end.
use Rattle.std.specs.Prelude.{ℕ, ◌==◌, ◌≡◌, Bool, not, ◌||◌, List, [], length, map, if◌then◌else◌, codes, bytes_eq, Vec, Option, IfSome}
use Rattle.std.specs.List.{filter, slice_split, list_any}
use Rattle.std.specs.Global.{Global}

-- the byte at the end of a name
abbrev pub is_end : ℕ → Bool
is_end b = b == 0

-- what stands between the ends
abbrev pub pieces : List ℕ → List (List ℕ)
pieces bytes = slice_split is_end bytes

-- `.git`
abbrev pub is_git : List ℕ → Bool
is_git name = bytes_eq name (codes ".git")

-- whether `.git` is one of the names
abbrev pub has_git : List ℕ → Bool
has_git bytes = list_any is_git (pieces bytes)

-- neither empty nor `.`, `..` or `.git`
abbrev pub is_kept : List ℕ → Bool
is_kept name = not ((length name == 0) || bytes_eq name (codes ".") || bytes_eq name (codes "..") || is_git name)

-- the names that are kept, in their order
abbrev pub kept_names : List ℕ → List (List ℕ)
kept_names bytes = filter is_kept (pieces bytes)

-- the names that a walk is given of a directory at this path: none of a nested repository, unless those are opened
abbrev pub given_names : List ℕ → Bool → List ℕ → List (List ℕ)
given_names path nested bytes = if length path == 0 || nested || not (has_git bytes) then kept_names bytes else []

-- the texts that names hold
abbrev pub texts_of : List (Vec ℕ Global) → List (List ℕ)
texts_of names = map (λ name. name.items) names

-- The bytes are all those that a directory has left, where they are known.
abbrev pub AreAllOf : {D : Type 0} → (D → Option (List ℕ)) → List ℕ → Type 0
AreAllOf {D} remaining bytes = (directory : D) × IfSome (remaining directory) (λ left. bytes ≡ left)
