-- What is reported to C of an answer and of a fault.
use Rattle.std.specs.Prelude.{◌≡◌, ℕ, List, Option, Some, None, Result, Ok}
use Rattle.gix_pathspec.specs.Faults.{Fault}
use Rattle.gix_pathspec.specs.Specs.{is_exclude}
use Rattle.gix_pathspec.specs.Search.{Numbered, Answer}
use Rattle.pathspec_c.specs.declared.reports.PsMatch.{PsMatch}
use Rattle.pathspec_c.specs.declared.reports.PsFault.{PsFault}
use Rattle.pathspec_c.specs.Searchers.{SearcherContents, new_searcher}
use Rattle.pathspec_c.specs.Calls.{yes_no, kind_number, fault_number}

-- the number, the kind and the sign of the spec that settles the path; zeros where none does
abbrev pub TellsAnswer : PsMatch → Option Answer → Type 0
TellsAnswer report None = report ≡ record { number = 0; kind = 0; is_excluded = 0 }
TellsAnswer report (Some a) = report ≡ record { number = a.number; kind = kind_number a.kind; is_excluded = yes_no (is_exclude a.pattern) }

-- memory ran out before the question was answered: yes, with the kind 5 and zeros
abbrev pub IsUnanswered : ℕ → PsMatch → Type 0
IsUnanswered status report = (status ≡ 1) × (report ≡ record { number = 0; kind = 5; is_excluded = 0 })

-- P holds of this fault, with its number
abbrev pub TellsFirst : PsFault → (ℕ × Fault → Type 0) → Type 0
TellsFirst report P = (fault : Fault) × (report.kind ≡ fault_number fault) × P (report.number, fault)

-- what is computed are specs, and the searcher has these
abbrev pub HoldsComputed : Result (List Numbered) (ℕ × Fault) → Option SearcherContents → Type 0
HoldsComputed computed searcher = (specs : List Numbered) × (computed ≡ Ok specs) × (searcher ≡ Some (new_searcher specs))
