-- What a clause reads of a listing that is read, and of its parts.
use Rattle.std.specs.Prelude.{◌≡◌, ◌≢◌, ◌⊎◌, ℕ, ◌+◌, ◌<◌, ◌≤◌, Bool, true, false, List, [], ◌++◌, length, take, drop, All, ◌==◌, Some, None, Result, Ok, Err}
use Rattle.std.specs.List.{before_first, after_first}
use Rattle.pathspec_select.specs.declared.listing.entries.RecordError.{RecordError}
use Rattle.pathspec_select.specs.declared.listing.entries.RecordError.TheVariants as record_error
use Rattle.pathspec_parts.specs.Bytes.{slash}
use Rattle.pathspec_parts.specs.Paths.{ends_with_slash}
use Rattle.pathspec_select.specs.declared.listing.contents.ListingError.{ListingError}
use Rattle.pathspec_select.specs.declared.listing.contents.ListingError.TheVariants as listing_error
use Rattle.pathspec_parts.specs.Records.{records, first_bad, directory_names, has_empty_name}
use Rattle.pathspec_parts.specs.RecordParts.{IsClosed}

-- the rest of a path after whole names
pub record IsRestOf (path rest : List ℕ) : Type 0 where
  pub front : List ℕ
  pub whole : path ≡ front ++ rest
  pub closed : IsClosed front

-- so many first bytes of both are the same
pub record HasCommonFront (left right : List ℕ) (n : ℕ) : Type 0 where
  pub in_left : n ≤ length left
  pub in_right : n ≤ length right
  pub same : take n left ≡ take n right

-- the path can be cut after so many bytes, which are whole names
abbrev pub IsAfterName : List ℕ → ℕ → Type 0
IsAfterName path n = directory_names path ≡ directory_names (take n path) ++ directory_names (drop n path)

-- so many first bytes of two directories' paths are the same whole names
pub record SharesNames (directory wanted : List ℕ) (n : ℕ) : Type 0 where
  pub front : HasCommonFront directory wanted n
  pub in_directory : IsAfterName directory n
  pub in_wanted : IsAfterName wanted n
  pub closed : IsClosed (take n wanted)

-- one of the names is empty, or memory ran out
abbrev pub RefusesNames : List (List ℕ) → RecordError → Type 0
RefusesNames names record_error.EmptyName = has_empty_name names ≡ true
RefusesNames names record_error.Memory = Unit {0}

-- Names are refused just where one is empty, but for memory.
abbrev pub AnswersNames : {A : Type 0} → List (List ℕ) → Result A RecordError → Type 0
AnswersNames names (Ok done) = has_empty_name names ≡ false
AnswersNames names (Err error) = RefusesNames names error

-- this is the first bad record, or memory ran out
abbrev pub RefusesRecords : List (List ℕ) → ListingError → Type 0
RefusesRecords rs (listing_error.BadLine number) = first_bad rs ≡ Some number
RefusesRecords rs listing_error.Memory = Unit {0}

-- A listing is refused for its first bad record, or where memory ran out.
abbrev pub AnswersRecords : {A : Type 0} → List (List ℕ) → Result A ListingError → Type 0
AnswersRecords rs (Ok listing) = first_bad rs ≡ None
AnswersRecords rs (Err error) = RefusesRecords rs error

-- what is told of a record that is refused
abbrev pub refusal_of : RecordError → ℕ → ListingError
refusal_of record_error.EmptyName number = listing_error.BadLine number
refusal_of record_error.Memory number = listing_error.Memory
