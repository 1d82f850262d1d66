-- What is reported of a file of specs.
use Rattle.std.specs.Prelude.{◌≡◌, ℕ, ◌+◌, List, ◌++◌, codes, Some, Result, Err}
use Rattle.std.specs.Fmt.{decimal}
use Rattle.bstr.specs.Owned.{bstring_bytes}
use Rattle.pathspec_pattern.specs.declared.error.Error.{Error}
use Rattle.gix_pathspec.specs.Faults.{Fault}
use Rattle.gix_pathspec.specs.Errors.{fault_of, kind_of}
use Rattle.gix_pathspec.specs.Search.{Numbered}
use Rattle.pathspec_callers.specs.declared.lines.LinesError.{LinesError}
use Rattle.pathspec_callers.specs.declared.lines.LinesError.TheVariants as told

-- the report for an error of the line with this number, from 0, of a file with this name; in it lines count from 1
abbrev pub report_of : List ℕ → ℕ → Error → List ℕ
report_of name number error = name ++ codes ":" ++ decimal (number + 1) ++ codes ": " ++ kind_of error

-- It reports the computed fault at its line; or memory ran out.
abbrev pub ReportsFault : List ℕ → Result (List Numbered) (ℕ × Fault) → LinesError → Type 0
ReportsFault name computed (told.Report text) =
    (number : ℕ) × (error : Error) × (fault : Fault) × (fault_of error ≡ Some fault) × (computed ≡ Err (number, fault)) × (bstring_bytes text ≡ report_of name number error)
ReportsFault name computed told.Memory = Unit {0}
