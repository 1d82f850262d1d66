-- What a filter has done with bytes that it took.
use Rattle.std.specs.Prelude.{◌≡◌, ℕ, ◌+◌, ◌≤◌, Bool, true, false, List, [], ◌∷◌, ◌++◌, length, take, drop, All, MatchBool, if◌then◌else◌, Option, Result, Ok, Err}
use Rattle.pathspec_parts.specs.Bytes.{is_empty}
use Rattle.pathspec_parts.specs.Records.{is_bad}
use Rattle.pathspec_parts.specs.RecordParts.{IsFreeOf, IsFirstRecord}
use Rattle.pathspec_parts.specs.Writing.{AppendsUpTo, AppendsFront}
use Rattle.pathspec_parts.specs.Outputs.{records_where, text_of, output_where}
use Rattle.pathspec_filter.specs.declared.answers.Counts.{Counts}
use Rattle.pathspec_filter.specs.declared.answers.FilterError.{FilterError}
use Rattle.pathspec_filter.specs.declared.answers.FilterError.TheVariants as error

-- ---- what stands first

-- the first record is a bad one
pub record BeginsBad (separator : ℕ) (rest : List ℕ) : Type 0 where
  pub text : List ℕ
  pub first : IsFirstRecord separator rest text
  pub bad : is_bad text ≡ true

-- ---- what was taken

-- The bytes are these records, each with the separator after it, and none is bad.
pub record AreGoodRecords (separator : ℕ) (rs : List (List ℕ)) (bytes : List ℕ) : Type 0 where
  pub whole : bytes ≡ text_of separator rs
  pub free : All (IsFreeOf separator) rs
  pub good : All (λ r. is_bad r ≡ false) rs

-- These bytes, which are good records, were taken: their output was appended but for what is left of it, and they were counted.
pub record HasTaken (takes : List ℕ → Bool → Bool) (separator : ℕ) (taken : List ℕ) (old new : Option (List ℕ)) (left : List ℕ) (before after : Counts) : Type 0 where
  pub rs : List (List ℕ)
  pub are : AreGoodRecords separator rs taken
  pub written : AppendsUpTo old new (output_where takes separator rs) left
  pub records : after.records ≡ before.records + length rs
  pub selected : after.selected ≡ before.selected + length (records_where takes rs)

-- The bytes begin with good records, and a front of their output was appended.
pub record HasStopped (takes : List ℕ → Bool → Bool) (separator : ℕ) (bytes : List ℕ) (old new : Option (List ℕ)) : Type 0 where
  pub rs : List (List ℕ)
  pub taken : List ℕ
  pub behind : List ℕ
  pub whole : bytes ≡ taken ++ behind
  pub are : AreGoodRecords separator rs taken
  pub written : AppendsFront old new (output_where takes separator rs)

-- ---- a pass

-- Within a pass over bytes: what stands before the rest was taken, and of its output those bytes are left that are held back and the run in front of the rest.
pub record IsWithin (takes : List ℕ → Bool → Bool) (separator : ℕ) (bytes run_and_rest : List ℕ) (run : ℕ) (old new : Option (List ℕ)) (held : List ℕ) (before after : Counts) : Type 0 where
  pub taken : List ℕ
  pub whole : bytes ≡ taken ++ drop run run_and_rest
  pub inside : run ≤ length run_and_rest
  pub long : length run_and_rest ≤ length bytes
  pub done : HasTaken takes separator taken old new (held ++ take run run_and_rest) before after

-- A pass took so many bytes, and no whole record stands behind them, or a bad one.
pub record HasPassed (takes : List ℕ → Bool → Bool) (separator : ℕ) (bytes : List ℕ) (count : ℕ) (meets_bad : Bool) (old new : Option (List ℕ)) (before after : Counts) : Type 0 where
  pub inside : count ≤ length bytes
  pub done : HasTaken takes separator (take count bytes) old new [] before after
  pub behind : MatchBool meets_bad (BeginsBad separator (drop count bytes)) (IsFreeOf separator (drop count bytes))

-- ---- all whole records

-- The whole records of the bytes were taken, and what is left has no separator.
pub record HasTakenAll (takes : List ℕ → Bool → Bool) (separator : ℕ) (bytes left : List ℕ) (old new : Option (List ℕ)) (before after : Counts) : Type 0 where
  pub taken : List ℕ
  pub whole : bytes ≡ taken ++ left
  pub free : IsFreeOf separator left
  pub done : HasTaken takes separator taken old new [] before after

-- The bytes begin with good records, which were taken; then comes a bad one, which has this number.
pub record HasMetBad (takes : List ℕ → Bool → Bool) (separator : ℕ) (bytes : List ℕ) (old new : Option (List ℕ)) (before : Counts) (number : ℕ) : Type 0 where
  pub taken : List ℕ
  pub behind : List ℕ
  pub after : Counts
  pub whole : bytes ≡ taken ++ behind
  pub bad : BeginsBad separator behind
  pub done : HasTaken takes separator taken old new [] before after
  pub number_is : number ≡ after.records + 1

-- What was done with bytes: all whole records were taken, or those before the first bad one, or it stopped at some record.
abbrev pub EndsTaking : {A F : Type 0} → (List ℕ → Bool → Bool) → ℕ → List ℕ → List ℕ → Option (List ℕ) → Option (List ℕ) → Counts → Counts → Result A (FilterError F) → Type 0
EndsTaking takes separator bytes left old new before after (Ok done) = HasTakenAll takes separator bytes left old new before after
EndsTaking takes separator bytes left old new before after (Err error.Read) = HasStopped takes separator bytes old new
EndsTaking takes separator bytes left old new before after (Err (error.Line number)) = HasMetBad takes separator bytes old new before number
EndsTaking takes separator bytes left old new before after (Err (error.LookUp fault)) = HasStopped takes separator bytes old new
EndsTaking takes separator bytes left old new before after (Err error.Memory) = HasStopped takes separator bytes old new
EndsTaking takes separator bytes left old new before after (Err error.Write) = HasStopped takes separator bytes old new

-- bytes without a separator, with one at the end where there are any
abbrev pub with_end : ℕ → List ℕ → List ℕ
with_end separator bytes = if is_empty bytes then [] else bytes ++ separator ∷ []
