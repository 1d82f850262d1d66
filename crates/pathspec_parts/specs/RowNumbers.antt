-- The rows of each path, by their numbers.
use Rattle.std.specs.Prelude.{◌≡◌, ℕ, List, [], ◌∷◌, ◌++◌, map, filter, bytes_eq, slice_get, Some, Vec, if◌then◌else◌}
use Rattle.std.specs.Option.{option_map_or}
use Rattle.std.specs.Ordering.{nat_cmp}
use Rattle.std.specs.Cmp.Lexicographic.{slice_cmp}
use Rattle.std.specs.Global.{Global}
use Rattle.std.specs.BTreeMap.{BTreeMap, get_by}
use Rattle.pathspec_parts.specs.AttributeRows.{Row}

-- the rows of a path, in their order
abbrev pub rows_of_path : List ℕ → List Row → List Row
rows_of_path path rows = filter (λ row. bytes_eq row.path path) rows

-- They are the numbers of the rows of a path, in their order.
abbrev pub AreRowNumbers : List Row → List ℕ → List ℕ → Type 0
AreRowNumbers rows path numbers = map (slice_get rows) numbers ≡ map Some (rows_of_path path rows)

-- numbers by path
abbrev pub Numbers : Type 0
Numbers = BTreeMap (Vec ℕ Global) (Vec ℕ Global)

-- the numbers of a path
abbrev pub numbers_at : Numbers → List ℕ → List ℕ
numbers_at numbers path = option_map_or (λ own. own.items) (get_by (λ key. slice_cmp nat_cmp path key.items) numbers) []

-- Each path has the numbers of its rows.
abbrev pub HaveRowNumbers : List Row → Numbers → Type 0
HaveRowNumbers rows numbers = (path : List ℕ) → AreRowNumbers rows path (numbers_at numbers path)

-- each path has the same numbers
abbrev pub KeepsNumbers : Numbers → Numbers → Type 0
KeepsNumbers old new = (path : List ℕ) → numbers_at new path ≡ numbers_at old path

-- one number more of a path, and the others have the same
abbrev pub AddsNumber : Numbers → Numbers → List ℕ → ℕ → Type 0
AddsNumber old new path number = (other : List ℕ) → numbers_at new other ≡ (if bytes_eq path other then numbers_at old other ++ number ∷ [] else numbers_at old other)
