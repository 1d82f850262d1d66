-- The names of faults by their numbers.
use Rattle.std.specs.Prelude.{◌≡◌, ℕ, List, codes, ◌==◌, if◌then◌else◌, Option, Some, None}
use Rattle.pathspec_pattern.specs.declared.error.Error.{Error}
use Rattle.gix_pathspec.specs.Faults.{Fault}
use Rattle.gix_pathspec.specs.Errors.{fault_of, kind_of}
use Rattle.pathspec_c.specs.Calls.{fault_number}

-- the name of the fault with this number
abbrev pub fault_name : ℕ → Option (List ℕ)
fault_name kind =
    if kind == 1 then Some (codes "Empty")
    else if kind == 2 then Some (codes "UnimplementedShort")
    else if kind == 3 then Some (codes "MissingParen")
    else if kind == 4 then Some (codes "InvalidKeyword")
    else if kind == 5 then Some (codes "LiteralWithGlob")
    else if kind == 6 then Some (codes "SecondAttributes")
    else if kind == 7 then Some (codes "InvalidPrefix")
    else if kind == 8 then Some (codes "EmptyAttributes")
    else if kind == 9 then Some (codes "InvalidName")
    else if kind == 10 then Some (codes "InvalidValueByte")
    else if kind == 11 then Some (codes "TrailingEscape")
    else if kind == 12 then Some (codes "OutsideRoot")
    else if kind == 13 then Some (codes "LeavesRepository")
    else if kind == 14 then Some (codes "NotTruth")
    else if kind == 15 then Some (codes "GlobAndNoGlob")
    else None

-- The fault of an error has the error's name.
abbrev pub NamesKinds : Type 0
NamesKinds = (error : Error) (fault : Fault) → fault_of error ≡ Some fault → fault_name (fault_number fault) ≡ Some (kind_of error)
