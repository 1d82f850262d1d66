-- What is written is what the specs choose.
use Rattle.std.proofs.Common.{ℕ, Bool, inl, inr, List, [], ◌∷◌, Option, Some, None, Result, Ok, Err, filter, IsTrue}
use Rattle.std.proofs.lemmas.Bool.{cases_Bool}
use Rattle.std.specs.Prelude.{OnOk}
use Rattle.pathspec_parts.specs.Attributes.{Table}
use Rattle.gix_pathspec.specs.Search.{Numbered, specs_of}
use Rattle.gix_pathspec.specs.Matching.{is_chosen}
use Rattle.gix_pathspec.proofs.ChosenProofs.{chosen_is_test}
use Rattle.pathspec_select.specs.declared.refusal.Refusal.{Refusal}
use Rattle.pathspec_parts.specs.Records.{records, record_path, record_is_dir}
use Rattle.pathspec_select.specs.Listing.{output}
use Rattle.pathspec_select.specs.Requests.{JobSpecs}
use Rattle.pathspec_select.specs.Program.{EndsJob}
use Rattle.pathspec_select.specs.Choice.{IsSelection, IsChosenRecord, WritesRecords}
use Rattle.pathspec_select.specs.Choice.IsSelection.{none, keep, drop}

-- a filter is a selection by what its test says
pub filter-IsSelection : (P : List ℕ → Type 0) (test : List ℕ → Bool) → ((x : List ℕ) → (IsTrue (test x) → P x) × (P x → IsTrue (test x))) → (xs : List (List ℕ)) → IsSelection P xs (filter test xs)
filter-IsSelection P test same [] = none
filter-IsSelection P test same (x ∷ xs) = elim (cases_Bool (test x)) [
  | inl h ↦ rw h (keep ((same x).0 h) (filter-IsSelection P test same xs))
  | inr h ↦ rw h (drop (λ p. let q = (same x).1 p in let no : ⊥ = cc in no) (filter-IsSelection P test same xs))
]

-- a full output has the chosen records
pub writes_records : {A : Type 0} (table : Table) (specs : JobSpecs (List Numbered)) (separator : ℕ) (input old new : Option (List ℕ)) (result : Result A Refusal) → EndsJob table specs separator input old new result → OnOk result (WritesRecords table specs separator input old new)
unfolding output
writes_records table specs separator input old new (Err e) h = tt
writes_records table specs separator None old new (Ok done) h = tt
writes_records table specs separator (Some bytes) old new (Ok done) (parts, e, (good, appended)) =
    let given = specs_of parts.specs in
    let test : List ℕ → Bool = λ r. is_chosen table given (record_path r) (record_is_dir r) in
    let rs = records separator parts.listing in
    (parts, e, (filter test rs, filter-IsSelection (IsChosenRecord table given) test (λ r. chosen_is_test table given (record_path r) (record_is_dir r)) rs, appended))
