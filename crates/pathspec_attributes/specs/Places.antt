-- The files that are held once one is added or removed.
use Rattle.std.specs.Prelude.{◌≡◌, ℕ, Bool, true, List, [], bytes_eq, if◌then◌else◌}
use Rattle.pathspec_glob.specs.declared.Case.{Case}
use Rattle.pathspec_glob.specs.Bytes.{is_empty}
use Rattle.pathspec_attributes.specs.declared.place.Place.{Place}
use Rattle.pathspec_attributes.specs.declared.place.Place.TheVariants.{Global, Directory as In, Info}
use Rattle.pathspec_attributes.specs.Files.{AttributeFile, Directory, Files, empty_file, file_at}

-- Macros may stand in each file but those of directories below the top.
abbrev pub may_define : Place → Bool
may_define Global = true
may_define (In path) = is_empty path.now
may_define Info = true

-- A directory has this file from now on, and each other one has what it had.
abbrev pub PutsIn : List ℕ → AttributeFile → List Directory → List Directory → Type 0
PutsIn path file old new = (other : List ℕ) → file_at new other ≡ (if bytes_eq path other then file else file_at old other)

-- A place has this file from now on, and each other one has what it had.
abbrev pub PutsFile : Place → AttributeFile → Files → Files → Type 0
PutsFile Global file old new = new ≡ record old { global = file }
PutsFile (In path) file old new = (new ≡ record old { directories = new.directories }) × PutsIn path.now file old.directories new.directories
PutsFile Info file old new = new ≡ record old { info = file }

-- no files
abbrev pub no_files : Case → Files
no_files case = record { case = case; info = empty_file; directories = []; global = empty_file }
