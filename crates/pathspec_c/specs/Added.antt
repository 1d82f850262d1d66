-- What a call that adds an attribute file changes and tells.
use Rattle.std.specs.Prelude.{◌≡◌, ℕ, ◌+◌, Bool, not, ◌&&◌, ◌||◌, ◌==◌, List, [], ◌∷◌, length}
use Rattle.pathspec_glob.specs.Bytes.{is_empty}
use Rattle.pathspec_parts.specs.Paths.{is_clean_prefix}
use Rattle.pathspec_attributes.specs.declared.place.Place.{Place}
use Rattle.pathspec_attributes.specs.declared.place.Place.TheVariants.{Global, Directory, Info}
use Rattle.pathspec_attributes.specs.declared.reasons.Reason.{Reason}
use Rattle.pathspec_attributes.specs.declared.reasons.Reason.TheVariants.{TooLong, InvalidName, MacroHere, Negative}
use Rattle.pathspec_attributes.specs.Files.{Files, LeftOut, file_of}
use Rattle.pathspec_attributes.specs.Places.{may_define, PutsFile}
use Rattle.pathspec_c.specs.declared.reports.PsLeftOut.{PsLeftOut}
use Rattle.pathspec_c.specs.Searchers.{SearcherContents, files_in}
use Rattle.pathspec_c.specs.Searchers.GivenAttributes.{FilesGiven}

-- ---- places

-- The numbers of places: 0 for a directory, which has to be clean, 1 for `info/attributes`, and 2 for the global file.
abbrev pub is_place : ℕ → List ℕ → Bool
is_place number directory = (number == 0 && is_clean_prefix directory) || (number == 1 || number == 2)

-- a number, with a directory, is that of a place
abbrev pub NamesPlace : ℕ → List ℕ → Place → Type 0
NamesPlace number directory (Directory path) = (number ≡ 0) × (path.now ≡ directory)
NamesPlace number directory Info = number ≡ 1
NamesPlace number directory Global = number ≡ 2

-- whether a file there may define macros: each may, but for those of directories below the top
abbrev pub defines : ℕ → List ℕ → Bool
defines number directory = not (number == 0) || is_empty directory

-- ---- files

-- The text is the file of a place from now on, and each other place has the file that it had.
abbrev pub AddsFile : Place → List ℕ → SearcherContents → SearcherContents → Type 0
AddsFile place text old new =
    (files : Files) × PutsFile place (file_of (may_define place) text) (files_in old.attributes) files × (new ≡ record old { attributes = FilesGiven files })

-- the same, where the place is given by its number
abbrev pub AddsFileAt : ℕ → List ℕ → List ℕ → SearcherContents → SearcherContents → Type 0
AddsFileAt number directory text old new = (place : Place) × NamesPlace number directory place × AddsFile place text old new

-- ---- lines that are left out

-- the number of a reason
abbrev pub reason_number : Reason → ℕ
reason_number TooLong = 1
reason_number InvalidName = 2
reason_number MacroHere = 3
reason_number Negative = 4

-- how many lines are left out, and the first of them; zeros where none is
abbrev pub TellsLeftOut : PsLeftOut → List LeftOut → Type 0
TellsLeftOut report [] = report ≡ record { count = 0; line = 0; reason = 0 }
TellsLeftOut report (first ∷ others) = report ≡ record { count = length others + 1; line = first.line; reason = reason_number first.reason }
