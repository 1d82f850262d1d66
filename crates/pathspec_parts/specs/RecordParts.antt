-- The first record of bytes, and what stands behind it.
use Rattle.std.specs.Prelude.{◌≡◌, ◌≢◌, ◌⊎◌, ℕ, ◌+◌, ◌<◌, true, false, List, [], ◌∷◌, ◌++◌, ◌==◌, length, take, drop, All}
use Rattle.std.specs.List.{before_first, after_first}
use Rattle.pathspec_glob.specs.Bytes.{slash}
use Rattle.pathspec_parts.specs.Paths.{ends_with_slash}

-- the first record of what is left of a listing
abbrev pub first_record : ℕ → List ℕ → List ℕ
first_record separator rest = before_first (λ b. b == separator) rest

-- what stands behind it
abbrev pub behind_record : ℕ → List ℕ → List ℕ
behind_record separator rest = after_first (λ b. b == separator) rest

-- no byte of it is the separator
abbrev pub IsFreeOf : ℕ → List ℕ → Type 0
IsFreeOf separator text = All (λ b. (b == separator) ≡ false) text

-- The first record of what is left has so many bytes and a separator behind it: it is a file right in the directory.
pub record BeginsWithFile (separator : ℕ) (directory rest : List ℕ) (count : ℕ) : Type 0 where
  pub fits : count < length rest
  pub record_is : take count rest ≡ first_record separator rest
  pub behind_is : drop (count + 1) rest ≡ behind_record separator rest
  pub name : List ℕ
  pub whole : take count rest ≡ directory ++ name
  pub some : name ≢ []
  pub no_slash : IsFreeOf slash name

-- The record stands first, with the separator after it.
pub record IsFirstRecord (separator : ℕ) (rest r : List ℕ) : Type 0 where
  pub behind : List ℕ
  pub whole : rest ≡ r ++ separator ∷ behind
  pub free : IsFreeOf separator r

-- a path that is empty or has a slash at its end
abbrev pub IsClosed : List ℕ → Type 0
IsClosed path = (path ≡ []) ⊎ (ends_with_slash path ≡ true)
