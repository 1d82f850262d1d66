-- What a clause reads of the values that lines are read into.
use Rattle.std.specs.Prelude.{ℕ, Bool, List, [], ◌∷◌, ◌++◌, Vec, map, reverse}
use Rattle.std.specs.Option.{option_map_or}
use Rattle.std.specs.Ordering.{nat_cmp}
use Rattle.std.specs.Cmp.Lexicographic.{slice_cmp}
use Rattle.std.specs.BTreeMap.{BTreeMap, get_by}
use Rattle.std.specs.Borrow.{Bor}
use Rattle.std.specs.Global.{Global}
use Rattle.pathspec_parts.specs.AttributeNames.{name_bytes}
use Rattle.pathspec_parts.specs.AttributeStates.{assignment_view}
use Rattle.pathspec_attributes.specs.declared.asking.Asked.{Asked}
use Rattle.pathspec_attributes.specs.declared.deciding.Macros.{Macros}
use Rattle.pathspec_attributes.specs.declared.file.File.{File}
use Rattle.pathspec_attributes.specs.declared.file.RuleLine.{RuleLine}
use Rattle.pathspec_attributes.specs.declared.marks.Marks.{Marks}
use Rattle.pathspec_attributes.specs.declared.reading.Macro.{Macro as Own}
use Rattle.pathspec_attributes.specs.declared.reading.Reading.{Reading as Read}
use Rattle.pathspec_attributes.specs.declared.reading.Reading.TheVariants as read
use Rattle.pathspec_attributes.specs.declared.reasons.LeftOut.{LeftOut as Told}
use Rattle.pathspec_attributes.specs.Deciding.{Macro}
use Rattle.pathspec_attributes.specs.Files.{AttributeFile, Directory, Files, LeftOut, empty_file}
use Rattle.pathspec_attributes.specs.Marks.{has_number}
use Rattle.pathspec_attributes.specs.Quoting.{Quoted}
use Rattle.pathspec_attributes.specs.Readings.{Reading}
use Rattle.pathspec_attributes.specs.Rules.{Rule}
use Rattle.pathspec_attributes.specs.Readings.Reading.{Nothing, Ruling, Defining, Refused}

-- what bytes and a rest are
abbrev pub quoted_view : Vec ℕ Global × Bor (List ℕ) → Quoted
quoted_view pair = record { text = pair.0.items; rest = pair.1.now }

-- the macro that a `Macro` is
abbrev pub macro_view : Own → Macro
macro_view own = record { name = name_bytes own.name; body = map assignment_view own.body.items }

-- the macros of `Macros`, in the order in which they count
abbrev pub macros_view : Macros → List Macro
macros_view macros = reverse (map macro_view macros.info.now) ++ (reverse (map macro_view macros.top.now) ++ (reverse (map macro_view macros.global.now) ++ reverse (map macro_view macros.built_in.now)))

-- what a `Reading` says
abbrev pub reading_view : Read → Reading
reading_view read.Nothing = Nothing
reading_view (read.Ruling rule) = Ruling rule
reading_view (read.Defining own) = Defining (name_bytes own.name) (map assignment_view own.body.items)
reading_view (read.Refused reason) = Refused reason

-- the list of one reading
abbrev pub one_reading : Read → List Reading
one_reading reading = reading_view reading ∷ []

-- the rule of a `RuleLine`
abbrev pub rule_in : RuleLine → Rule
rule_in own = own.rule

-- and the number of its line
abbrev pub line_in : RuleLine → ℕ
line_in own = own.line

-- the file that a `File` is
abbrev pub file_view : File → AttributeFile
file_view file = record {
  rules = map rule_in file.rules.items;
  lines = map line_in file.rules.items;
  macros = map macro_view file.macros.items;
}

-- the files of directories, by their paths
abbrev pub Directories : Type 0
Directories = BTreeMap (Vec ℕ Global) File

-- the directories that it holds
abbrev pub directories_view : Directories → List Directory
directories_view directories = map (λ (entry : Vec ℕ Global × File). record { path = entry.0.items; file = file_view entry.1 }) directories.entries

-- the file that it has for a path, or one that says nothing
abbrev pub file_in : Directories → List ℕ → AttributeFile
file_in directories path = option_map_or file_view (get_by (λ key. slice_cmp nat_cmp path key.items) directories) empty_file

-- whether a name is marked
abbrev pub marked : Marks → List ℕ → Bool
marked marks name = has_number marks.numbers marks.number name

-- the files that a question is asked of
abbrev pub asked_files : Asked → AttributeFile → List Directory → AttributeFile → Files
asked_files asked info directories global = record { case = asked.case; info = info; directories = directories; global = global }

-- the line that a `LeftOut` tells of
abbrev pub left_out_view : Told → LeftOut
left_out_view told = record { line = told.line; reason = told.reason }
