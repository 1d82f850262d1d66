-- Rows of `--attr`: a path, and the attributes that it has.
use Rattle.std.specs.Prelude.{◌≡◌, ℕ, List, map, Result, Ok, Err, MatchResult}
use Rattle.pathspec_parts.specs.AttributeRows.{Row}
use Rattle.gix_pathspec.specs.Results.{◌>>=◌, all_ok}
use Rattle.gix_pathspec.specs.Faults.{Fault}
use Rattle.pathspec_pattern.specs.AttributeLists.{assignments_of}
use Rattle.pathspec_select.specs.declared.refusal.Refusal.{Refusal}
use Rattle.pathspec_select.specs.declared.refusal.Refusal.TheVariants as refusal
use Rattle.pathspec_select.specs.RequestFaults.{RequestFault}
use Rattle.pathspec_select.specs.Options.{ListAt, Options, no_options}
use Rattle.pathspec_select.specs.OptionWords.{options_from}

-- a list that can't be read is a wrong use
abbrev pub list_result : {A : Type 0} → Result A Fault → Result A RequestFault
list_result (Ok x) = Ok x
list_result (Err fault) = Err RequestFault.Usage

-- the row that a list of attributes is
abbrev pub row_of : ListAt → Result Row RequestFault
row_of at = list_result (assignments_of at.list) >>= λ assignments. Ok (record { path = at.path; assignments = assignments })

-- The rows that options ask for, in their order.
abbrev pub rows_of_options : Options → Result (List Row) RequestFault
rows_of_options options = all_ok (map row_of options.lists)

-- the rows that words ask for, whatever their prefix
abbrev pub rows_of_words : List (List ℕ) → Result (List Row) RequestFault
rows_of_words words = options_from no_options words >>= rows_of_options

-- The refusal is of the usage, and P holds; or memory ran out.
abbrev pub IsUsageOrMemory : Refusal → Type 0 → Type 0
IsUsageOrMemory refusal.Usage P = P
IsUsageOrMemory (refusal.Environment error) P = ⊥
IsUsageOrMemory (refusal.Spec number error) P = ⊥
IsUsageOrMemory refusal.Read P = ⊥
IsUsageOrMemory refusal.Specs P = ⊥
IsUsageOrMemory (refusal.Line number) P = ⊥
IsUsageOrMemory refusal.Write P = ⊥
IsUsageOrMemory refusal.Memory P = Unit {0}

-- The result, seen by `view`, is what is computed; a refusal tells the only fault, or that memory ran out.
abbrev pub ComputesRows : {A B : Type 0} → (A → B) → Result B RequestFault → Result A Refusal → Type 0
ComputesRows view computed result = MatchResult result (λ x. computed ≡ Ok (view x)) (λ e. IsUsageOrMemory e (computed ≡ Err RequestFault.Usage))
