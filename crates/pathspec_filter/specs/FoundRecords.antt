-- What stands first among bytes, as it is found.
use Rattle.std.specs.Prelude.{◌≡◌, ℕ, ◌<◌, Bool, false, List, length, take}
use Rattle.pathspec_parts.specs.Records.{record_path, record_is_dir, is_bad}
use Rattle.pathspec_parts.specs.RecordParts.{IsFreeOf, IsFirstRecord}
use Rattle.pathspec_filter.specs.Passes.{BeginsBad}
use Rattle.pathspec_filter.specs.declared.choice.Found.{Found}
use Rattle.pathspec_filter.specs.declared.choice.Found.TheVariants as found

-- The first record has so many bytes, is good, and is selected as it should be.
pub record BeginsGood (takes : List ℕ → Bool → Bool) (separator : ℕ) (rest : List ℕ) (count : ℕ) (is_selected : Bool) : Type 0 where
  pub fits : count < length rest
  pub first : IsFirstRecord separator rest (take count rest)
  pub good : is_bad (take count rest) ≡ false
  pub selected : is_selected ≡ takes (record_path (take count rest)) (record_is_dir (take count rest))

-- what stands first
abbrev pub IsFound : (List ℕ → Bool → Bool) → ℕ → List ℕ → Found → Type 0
IsFound takes separator rest (found.Record record_found) = BeginsGood takes separator rest record_found.length record_found.is_taken
IsFound takes separator rest found.Bad = BeginsBad separator rest
IsFound takes separator rest found.Partial = IsFreeOf separator rest
