-- The attribute files that are held, and what they say of a path (gitattributes, "DESCRIPTION").
use Rattle.std.specs.Prelude.{◌≡◌, ℕ, zero, suc, ◌+◌, Bool, true, ◌&&◌, ◌||◌, List, [], ◌∷◌, ◌++◌, length, take, map, reverse, get_or, nat_lt, bytes_eq, codes, if◌then◌else◌}
use Rattle.std.specs.List.{flat_map}
use Rattle.pathspec_glob.specs.declared.Case.{Case}
use Rattle.pathspec_parts.specs.Attributes.{Assignment, Question, Table}
use Rattle.pathspec_parts.specs.Outcomes.{apply_assignments, states_of, unspecified}
use Rattle.pathspec_parts.specs.Paths.{is_slash, ends_with_slash, without_last_slash}
use Rattle.pathspec_attributes.specs.declared.reasons.Reason.{Reason}
use Rattle.pathspec_attributes.specs.Lines.{lines_of}
use Rattle.pathspec_attributes.specs.Readings.{Reading, reading}
use Rattle.pathspec_attributes.specs.Readings.Reading.{Nothing, Ruling, Defining, Refused}
use Rattle.pathspec_attributes.specs.Rules.{Rule, fits}
use Rattle.pathspec_attributes.specs.Deciding.{Macro, decided_by}

-- ---- a file

-- a file: its rules with the numbers of their lines, from 1, and its macros, each in the order of their lines
pub record AttributeFile : Type 0 where
  pub rules : List Rule
  pub lines : List ℕ
  pub macros : List Macro

-- the rules among what lines say
abbrev pub rules_in : List Reading → List Rule
rules_in [] = []
rules_in (Nothing ∷ readings) = rules_in readings
rules_in (Ruling rule ∷ readings) = rule ∷ rules_in readings
rules_in (Defining name body ∷ readings) = rules_in readings
rules_in (Refused reason ∷ readings) = rules_in readings

-- the numbers of their lines, where the first line has this number
abbrev pub lines_from : ℕ → List Reading → List ℕ
lines_from n [] = []
lines_from n (Nothing ∷ readings) = lines_from (n + 1) readings
lines_from n (Ruling rule ∷ readings) = n ∷ lines_from (n + 1) readings
lines_from n (Defining name body ∷ readings) = lines_from (n + 1) readings
lines_from n (Refused reason ∷ readings) = lines_from (n + 1) readings

-- the macros among what lines say
abbrev pub macros_in : List Reading → List Macro
macros_in [] = []
macros_in (Nothing ∷ readings) = macros_in readings
macros_in (Ruling rule ∷ readings) = macros_in readings
macros_in (Defining name body ∷ readings) = record { name = name; body = body } ∷ macros_in readings
macros_in (Refused reason ∷ readings) = macros_in readings

-- a line that is left out: its number, from 1, and why
pub record LeftOut : Type 0 where
  pub line : ℕ
  pub reason : Reason

-- the lines that are left out, where the first has this number
abbrev pub left_out_from : ℕ → List Reading → List LeftOut
left_out_from n [] = []
left_out_from n (Nothing ∷ readings) = left_out_from (n + 1) readings
left_out_from n (Ruling rule ∷ readings) = left_out_from (n + 1) readings
left_out_from n (Defining name body ∷ readings) = left_out_from (n + 1) readings
left_out_from n (Refused reason ∷ readings) = record { line = n; reason = reason } ∷ left_out_from (n + 1) readings

-- what the lines of a text say
abbrev pub readings_of : Bool → List ℕ → List Reading
readings_of may_define text = map (reading may_define) (lines_of text)

-- the file that a text is
abbrev pub file_of : Bool → List ℕ → AttributeFile
file_of may_define text = record {
  rules = rules_in (readings_of may_define text);
  lines = lines_from 1 (readings_of may_define text);
  macros = macros_in (readings_of may_define text);
}

-- the lines of a text that are left out
abbrev pub left_out : Bool → List ℕ → List LeftOut
left_out may_define text = left_out_from 1 (readings_of may_define text)

-- a file that says nothing
abbrev pub empty_file : AttributeFile
empty_file = record { rules = []; lines = []; macros = [] }

-- what git has without any file
unfoldable pub built_in : AttributeFile
built_in = file_of true (codes "[attr]binary -diff -merge -text")

-- ---- the files that are held

-- a directory by its path from the top, which is empty for the top, and its file
pub record Directory : Type 0 where
  pub path : List ℕ
  pub file : AttributeFile

-- the files that are held, and whether case counts
pub record Files : Type 0 where
  pub case : Case
  pub info : AttributeFile
  pub directories : List Directory
  pub global : AttributeFile

-- What a look-up of files holds: the files, and how many questions failed.
pub record Held : Type 0 where
  pub files : Files
  pub failures : ℕ

-- the file of a directory, or one that says nothing
abbrev pub file_at : List Directory → List ℕ → AttributeFile
file_at [] path = empty_file
file_at (d ∷ directories) path = if bytes_eq path d.path then d.file else file_at directories path

-- ---- what they say of a path

-- the directories that a path lies in, up to this length, the longest first and the top last
abbrev pub directories_to : ℕ → List ℕ → List (List ℕ)
directories_to zero path = [] ∷ []
directories_to (suc n) path = if is_slash (get_or path n 0) && nat_lt 0 n then take n path ∷ directories_to n path else directories_to n path

-- the directories that a path without a slash at its end lies in
abbrev pub directories_of : List ℕ → List (List ℕ)
directories_of path = directories_to (length path) path

-- what a rule says of a path: its assignments, the last first, where it fits
abbrev pub said_by_rule : Case → List ℕ → List ℕ → Bool → Rule → List Assignment
said_by_rule case base path is_dir rule = if fits case base rule path is_dir then reverse rule.assignments else []

-- what a file says: its rules, the last first
abbrev pub said_by_file : Case → List ℕ → Bool → List ℕ → AttributeFile → List Assignment
said_by_file case path is_dir base file = flat_map (said_by_rule case base path is_dir) (reverse file.rules)

-- What all say, in the order in which it counts: first `info/attributes`, then the files of the path's directories from its own up to the top, and then the global file.
abbrev pub said : Files → List ℕ → Bool → List Assignment
said files path is_dir =
    said_by_file files.case path is_dir [] files.info
    ++ (flat_map (λ base. said_by_file files.case path is_dir base (file_at files.directories base)) (directories_of path)
    ++ said_by_file files.case path is_dir [] files.global)

-- The macros, in the order in which they count: those of `info/attributes`, of the top's file, of the global one and of git. In a file the last counts.
abbrev pub macros_of : Files → List Macro
macros_of files = reverse files.info.macros ++ (reverse (file_at files.directories []).macros ++ (reverse files.global.macros ++ reverse built_in.macros))

-- what is decided of a path without a slash at its end
abbrev pub decided : Files → List ℕ → Bool → List Assignment
decided files path is_dir = decided_by (macros_of files) (said files path is_dir) []

-- The files answer every question. A path with a slash at its end is a directory's.
abbrev pub table_of : Files → Table
table_of files q = record {
  found = true;
  states = states_of (apply_assignments (unspecified q.names) (decided files (without_last_slash q.path) (q.is_dir || ends_with_slash q.path)));
}

-- Where files agree but for directories that no question's path lies in, they answer alike.
abbrev pub AnswersByOwnDirectories : Type 0
AnswersByOwnDirectories = (files : Files) (directories : List Directory) (q : Question)
    → map (file_at directories) (directories_of (without_last_slash q.path)) ≡ map (file_at files.directories) (directories_of (without_last_slash q.path))
    → table_of (record files { directories = directories }) q ≡ table_of files q
