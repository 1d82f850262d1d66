-- What a filter ends with.
use Rattle.std.specs.Prelude.{◌≡◌, ℕ, Bool, List, length, Option, Some, None, IfSome, Result, Ok, Err}
use Rattle.std.specs.Io.KnownBytes.{Appends}
use Rattle.pathspec_parts.specs.Attributes.{next_count}
use Rattle.pathspec_parts.specs.Records.{records, first_bad}
use Rattle.pathspec_filter.specs.declared.answers.Counts.{Counts}
use Rattle.pathspec_filter.specs.declared.answers.FilterError.{FilterError}
use Rattle.pathspec_filter.specs.declared.answers.FilterError.TheVariants as error
use Rattle.pathspec_parts.specs.Writing.{AppendsFront}
use Rattle.pathspec_parts.specs.Outputs.{records_where, output_where, full_output}

-- the filter read all records, and selected those that pass
pub record CountsRecords (takes : List ℕ → Bool → Bool) (rs : List (List ℕ)) (counts : Counts) : Type 0 where
  pub records : counts.records ≡ length rs
  pub selected : counts.selected ≡ length (records_where takes rs)

-- No record of the input is bad, and all its output was appended; the counts are those of its records.
pub record EndsWell (takes : List ℕ → Bool → Bool) (separator : ℕ) (old new : Option (List ℕ)) (counts : Counts) (input : List ℕ) : Type 0 where
  pub good : first_bad (records separator input) ≡ None
  pub written : Appends old new (output_where takes separator (records separator input))
  pub counted : CountsRecords takes (records separator input) counts

-- The record with this number is the first bad one, and all output of those before it was appended.
pub record EndsAtBad (takes : List ℕ → Bool → Bool) (separator : ℕ) (old new : Option (List ℕ)) (number : ℕ) (input : List ℕ) : Type 0 where
  pub bad : first_bad (records separator input) ≡ Some number
  pub written : Appends old new (full_output takes separator input)

-- a front of all that is ever written was appended
abbrev pub EndsEarly : (List ℕ → Bool → Bool) → ℕ → Option (List ℕ) → Option (List ℕ) → List ℕ → Type 0
EndsEarly takes separator old new input = AppendsFront old new (full_output takes separator input)

-- the error is one that may come at any record, and tells of none
abbrev pub IsEarly : {F : Type 0} → FilterError F → Type 0
IsEarly error.Read = Unit {0}
IsEarly (error.Line number) = ⊥
IsEarly (error.LookUp fault) = Unit {0}
IsEarly error.Memory = Unit {0}
IsEarly error.Write = Unit {0}

-- What a filter ends with, for the paths that are taken, the separator, the bytes that a reader gives, and those that a writer held before and holds after it.
abbrev pub EndsFilter : {F : Type 0} → (List ℕ → Bool → Bool) → ℕ → Option (List ℕ) → Option (List ℕ) → Option (List ℕ) → Result Counts (FilterError F) → Type 0
EndsFilter takes separator input old new (Ok counts) = IfSome input (EndsWell takes separator old new counts)
EndsFilter takes separator input old new (Err error.Read) = IfSome input (EndsEarly takes separator old new)
EndsFilter takes separator input old new (Err (error.Line number)) = IfSome input (EndsAtBad takes separator old new number)
EndsFilter takes separator input old new (Err (error.LookUp fault)) = IfSome input (EndsEarly takes separator old new)
EndsFilter takes separator input old new (Err error.Memory) = IfSome input (EndsEarly takes separator old new)
EndsFilter takes separator input old new (Err error.Write) = IfSome input (EndsEarly takes separator old new)

-- The look-up's failures before and after: one more where its fault is told, and otherwise as many.
abbrev pub CountsFault : {A F : Type 0} → ℕ → ℕ → Result A (FilterError F) → Type 0
CountsFault before after (Ok _) = after ≡ before
CountsFault before after (Err error.Read) = after ≡ before
CountsFault before after (Err (error.Line number)) = after ≡ before
CountsFault before after (Err (error.LookUp fault)) = after ≡ next_count before
CountsFault before after (Err error.Memory) = after ≡ before
CountsFault before after (Err error.Write) = after ≡ before
