-- Which records are taken.
use Rattle.std.specs.Prelude.{ℕ, Bool, not, ◌&&◌, List, codes, take, drop, bytes_eq, if◌then◌else◌}
use Rattle.pathspec_parts.specs.Bytes.{is_empty}
use Rattle.pathspec_parts.specs.Paths.{IsBelow}
use Rattle.pathspec_filter.specs.declared.selection.LeadingDot.{LeadingDot}
use Rattle.pathspec_filter.specs.declared.selection.LeadingDot.TheVariants as leading_dot
use Rattle.pathspec_filter.specs.declared.selection.Selection.{Selection}

-- a `./` with more behind it
abbrev pub has_leading_dot : List ℕ → Bool
has_leading_dot path = bytes_eq (take 2 path) (codes "./") && not (is_empty (drop 2 path))

-- What a path is, where a leading `./` is part of it or not.
abbrev pub path_in : LeadingDot → List ℕ → List ℕ
path_in leading_dot.Kept path = path
path_in leading_dot.Dropped path = if has_leading_dot path then drop 2 path else path

-- Whether a path that is chosen, or isn't, is taken.
abbrev pub taken_if : Selection → Bool → Bool
taken_if selection is_chosen = if selection.is_inverted then not is_chosen else is_chosen

-- Whether a path as it stands is taken, for what chooses paths.
abbrev pub takes_in : Selection → (List ℕ → Bool → Bool) → List ℕ → Bool → Bool
takes_in selection chooses path is_dir = taken_if selection (chooses (path_in selection.leading_dot path) is_dir)

-- A path below the directory lies below it as well where both lose a leading `./`.
abbrev pub KeepsBelow : LeadingDot → List ℕ → Type 0
KeepsBelow leading_dot d = (path : List ℕ) → IsBelow path d → IsBelow (path_in leading_dot path) (path_in leading_dot d)
