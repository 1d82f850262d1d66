-- The sizes of what rows are stepped by.
use Rattle.std.specs.Prelude.{◌≡◌, ◌+◌, ◌<◌, ◌≤◌, ◌^◌, ℕ, Bool, true, false, List, [], length, get_or}
use Rattle.pathspec_glob.specs.BitVecs.{holds}

-- a row of several
abbrev pub row_at : List (List Bool) → ℕ → List Bool
row_at rows r = get_or rows r []

-- all rows have the same places, each byte has a class, and each class a row
pub record HaveSizes (over cuts start wide : List Bool) (classes : List ℕ) (takes : List (List Bool)) (ends : List ℕ) : Type 0 where
  pub small : length wide < 2 ^ 62
  pub over_alike : length over ≡ length wide
  pub cuts_alike : length cuts ≡ length wide
  pub start_alike : length start ≡ length wide
  pub each_byte : (b : ℕ) → b < 256 → get_or classes b 0 < length takes
  pub each_class : (c : ℕ) → c < length takes → length (row_at takes c) ≡ length wide
  pub each_glob : (g : ℕ) → g < length ends → get_or ends g 0 < length wide

-- the least glob from one on whose last place stands in a row, or their count
pub record IsFirst (ends : List ℕ) (row : List Bool) (from found : ℕ) : Type 0 where
  pub behind : from ≤ found
  pub within : found ≤ length ends
  pub stands : found < length ends → holds row (get_or ends found 0) ≡ true
  pub none : (g : ℕ) → from ≤ g → g < found → holds row (get_or ends g 0) ≡ false

-- From a glob on, up to the one that was found or to the last, each was looked at once at most.
pub record AreLooks (globs from found looks : ℕ) : Type 0 where
  pub within : looks + from ≤ globs
  pub before : looks + from ≤ found + 1

-- how many places the globs of a set have at most
abbrev pub most_places : ℕ
most_places = 131072

-- how many more searches of a table that was cleared give up than not, before a scratch is spent
abbrev pub most_losses : ℕ
most_losses = 256
