-- The texts that begin every path that a spec fits.
use Rattle.std.specs.Prelude.{◌≡◌, ◌≢◌, ℕ, ◌≤◌, List, [], ◌++◌, length, take, map, filter, find, nat_eq, if◌then◌else◌, unwrap_or, All}
use Rattle.std.specs.List.{before_first, common_prefix_len, reduce}
use Rattle.std.specs.Option.{option_map}
use Rattle.gix_pathspec.specs.Bytes.{is_wildcard}
use Rattle.gix_pathspec.specs.Specs.{Spec, is_include, ignores_case, prefix_directory}

-- The stem of a spec is its path before the first wildcard byte; of a nil spec it is the whole path.
abbrev pub stem : Spec → List ℕ
stem s = if s.nil then s.path else before_first is_wildcard s.path

-- The head is the stem; of a spec without case it is the prefix directory, and a nil spec has none.
abbrev pub head : Spec → List ℕ
head s = if s.nil then [] else if ignores_case s then prefix_directory s else stem s

-- the heads of the includes
abbrev pub heads : List Spec → List (List ℕ)
heads specs = map head (filter is_include specs)

-- y begins with x
abbrev pub IsFrontOf : List ℕ → List ℕ → Type 0
IsFrontOf x y = (rest : List ℕ) × (y ≡ x ++ rest)

-- x begins every one of the texts, and no longer text does; where there is no text, x is empty
pub record IsLongestFront (texts : List (List ℕ)) (x : List ℕ) : Type 0 where
  pub front : All (IsFrontOf x) texts
  pub longest : (y : List ℕ) → texts ≢ [] → All (IsFrontOf y) texts → length y ≤ length x
  pub none : texts ≡ [] → x ≡ []

-- The common prefix is the longest text that begins every include's head, and empty where there is no include.
abbrev pub IsCommonPrefix : List Spec → List ℕ → Type 0
IsCommonPrefix specs x = IsLongestFront (heads specs) x

-- the longest front that two texts share
abbrev pub common_front : List ℕ → List ℕ → List ℕ
common_front x y = take (common_prefix_len nat_eq x y) x

-- the common prefix as a function
unfoldable pub common_prefix : List Spec → List ℕ
common_prefix specs = unwrap_or (reduce common_front (heads specs)) []

-- the prefix directory of the first include, and empty without one
abbrev pub first_prefix_directory : List Spec → List ℕ
first_prefix_directory specs = unwrap_or (option_map prefix_directory (find is_include specs)) []
