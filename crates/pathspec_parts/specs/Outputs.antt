-- What is written for records.
use Rattle.std.specs.Prelude.{◌≡◌, ℕ, Bool, List, [], ◌∷◌, ◌++◌, filter, flat_map}
use Rattle.std.specs.List.{before_first}
use Rattle.pathspec_parts.specs.Records.{records, record_path, record_is_dir, is_bad}

-- the records that pass, by their paths and their kinds
abbrev pub records_where : (List ℕ → Bool → Bool) → List (List ℕ) → List (List ℕ)
records_where takes rs = filter (λ r. takes (record_path r) (record_is_dir r)) rs

-- the records, each with the separator after it
abbrev pub text_of : ℕ → List (List ℕ) → List ℕ
text_of separator rs = flat_map (λ r. r ++ separator ∷ []) rs

-- What is written for records: each that passes, with the separator after it.
abbrev pub output_where : (List ℕ → Bool → Bool) → ℕ → List (List ℕ) → List ℕ
output_where takes separator rs = text_of separator (records_where takes rs)

-- The records before the first bad one.
abbrev pub good_records : List (List ℕ) → List (List ℕ)
good_records rs = before_first is_bad rs

-- All that is ever written for an input: the output of its records before the first bad one.
abbrev pub full_output : (List ℕ → Bool → Bool) → ℕ → List ℕ → List ℕ
full_output takes separator input = output_where takes separator (good_records (records separator input))

-- A text that is cut behind a separator: its records are those of the front, and then those of what stands behind.
abbrev pub RecordsInParts : ℕ → Type 0
RecordsInParts separator = (front behind : List ℕ) → records separator (front ++ separator ∷ behind) ≡ records separator (front ++ separator ∷ []) ++ records separator behind

-- A text that is cut behind a separator: its output is that of the front, and then that of what stands behind.
abbrev pub OutputInParts : (List ℕ → Bool → Bool) → ℕ → Type 0
OutputInParts takes separator = (front behind : List ℕ) → output_where takes separator (records separator (front ++ separator ∷ behind)) ≡ output_where takes separator (records separator (front ++ separator ∷ [])) ++ output_where takes separator (records separator behind)
