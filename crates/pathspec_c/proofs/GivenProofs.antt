-- Attributes that are given.
use Rattle.std.proofs.Common.{◌≡◌, false, refl, sym, Result, Ok, Err, OnOk}
use Rattle.std.proofs.lemmas.Bool.{false≢true}
use Rattle.pathspec_glob.specs.declared.Case.TheVariants.{Sensitive}
use Rattle.pathspec_attributes.specs.Places.{no_files}
use Rattle.pathspec_c.specs.Searchers.{GivenAttributes, files_in, has_files}
use Rattle.pathspec_c.specs.Searchers.GivenAttributes.{NoneGiven, RowsGiven, FilesGiven}

-- before the first file there is none
pub files-none : (given : GivenAttributes) → has_files given ≡ false → files_in given ≡ no_files Sensitive
files-none NoneGiven h = refl
files-none (RowsGiven rows) h = refl
files-none (FilesGiven files) h = absurd (false≢true (sym h))

-- what follows where a call succeeds
pub onward : {A E P Q : Type 0} (r : Result A E) → (P → Q) → OnOk r P → OnOk r Q
onward (Ok x) f p = f p
onward (Err e) f p = tt
