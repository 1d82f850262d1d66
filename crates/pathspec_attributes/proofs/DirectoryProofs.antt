-- The file of each directory, once one is put or removed.
use Rattle.std.proofs.Common.{◌≡◌, ◌∙◌, refl, sym, ap, true, false, cond, Bool, ℕ, List, [], ◌∷◌, map, Vec, Option, Some}
use Rattle.std.proofs.lemmas.Map.Text.{is_eq-slice_cmp}
use Rattle.std.specs.Prelude.{bytes_eq}
use Rattle.std.specs.Option.{option_map_or}
use Rattle.std.specs.Ordering.{nat_cmp, is_eq}
use Rattle.std.specs.Cmp.Lexicographic.{slice_cmp}
use Rattle.std.specs.Global.{Global}
use Rattle.std.specs.BTreeMap.{UpdatesBy}
use Rattle.std.specs.Map.{lookup}
use Rattle.pathspec_attributes.specs.declared.file.File.{File}
use Rattle.pathspec_attributes.specs.Files.{AttributeFile, Directory, empty_file, file_at}
use Rattle.pathspec_attributes.specs.Places.{PutsIn}
use Rattle.pathspec_attributes.specs.Views.{Directories, directories_view, file_in, file_view}
use Rattle.pathspec_attributes.proofs.KeyProofs.{key_cmp, value_at, value-updates}

-- the file that a value is
abbrev pub file_of_value : Option File → AttributeFile
file_of_value w = option_map_or file_view w empty_file

-- a directory with its file
abbrev entry_view : Vec ℕ Global × File → Directory
entry_view entry = record { path = entry.0.items; file = file_view entry.1 }

-- the file of a path among entries
entries-at : (entries : List (Vec ℕ Global × File)) (path : List ℕ) → file_of_value (lookup (λ (key : Vec ℕ Global). is_eq (slice_cmp nat_cmp path key.items)) entries) ≡ file_at (map entry_view entries) path
entries-at [] path = refl
entries-at (e ∷ es) path = rw (is_eq-slice_cmp path e.0.items) (by (bytes_eq path e.0.items) (entries-at es path))
  where
    by : (b : Bool) → file_of_value (lookup (λ (key : Vec ℕ Global). is_eq (slice_cmp nat_cmp path key.items)) es) ≡ file_at (map entry_view es) path
        → file_of_value (cond b (Some e.1) (lookup (λ (key : Vec ℕ Global). is_eq (slice_cmp nat_cmp path key.items)) es)) ≡ cond b (file_view e.1) (file_at (map entry_view es) path)
    by true others = refl
    by false others = others

-- the map gives the files of the directories that it holds
pub file_in-is : (directories : Directories) (path : List ℕ) → file_in directories path ≡ file_at (directories_view directories) path
file_in-is directories path = entries-at directories.entries path

pub view-updates : (old new : Directories) (path : List ℕ) (w : Option File) → UpdatesBy key_cmp (λ key. slice_cmp nat_cmp path key.items) old new w → PutsIn path (file_of_value w) (directories_view old) (directories_view new)
view-updates old new path w h other =
    sym (file_in-is new other)
    ∙ (ap file_of_value (value-updates old new path w h other)
    ∙ (by (bytes_eq path other) (value_at old other)
    ∙ ap (λ (file : AttributeFile). cond (bytes_eq path other) (file_of_value w) file) (file_in-is old other)))
  where
    by : (b : Bool) (o : Option File) → file_of_value (cond b w o) ≡ cond b (file_of_value w) (file_of_value o)
    by true o = refl
    by false o = refl
