-- Rules of attribute files, and the paths that they fit (gitattributes, "DESCRIPTION").
use Rattle.std.specs.Prelude.{ℕ, ◌+◌, Bool, not, ◌&&◌, ◌||◌, List, length, drop, if◌then◌else◌, ◌↔◌, ◌<◌, IsTrue, IsFalse}
use Rattle.std.specs.List.{list_any, after_last}
use Rattle.pathspec_glob.specs.declared.Mode.{Mode}
use Rattle.pathspec_glob.specs.declared.Mode.TheVariants.{Shell, PathAware}
use Rattle.pathspec_glob.specs.declared.Case.{Case}
use Rattle.pathspec_glob.specs.Bytes.{is_empty, first_is}
use Rattle.pathspec_glob.specs.GlobRelation.{Matches, matches}
use Rattle.pathspec_glob.specs.Globs.{GlobSource, glob_tokens}
use Rattle.pathspec_parts.specs.Paths.{is_slash, ends_with_slash, without_last_slash}
use Rattle.pathspec_parts.specs.Attributes.{Assignment}

-- A rule: a glob, whether it is for directories alone, and what it assigns. A glob in Shell is compared with last names.
pub record Rule : Type 0 where
  pub glob : GlobSource
  pub only_directories : Bool
  pub assignments : List Assignment

-- a text without its first byte, where that is a slash
abbrev pub without_first_slash : List ℕ → List ℕ
without_first_slash text = if first_is is_slash text then drop 1 text else text

-- the glob of a pattern without its last slash: for last names, or, where it has a slash, for whole paths
abbrev pub glob_of : List ℕ → GlobSource
glob_of body = if list_any is_slash body then record { mode = PathAware; pattern = without_first_slash body } else record { mode = Shell; pattern = body }

-- the rule of a pattern
abbrev pub rule_of : List ℕ → List Assignment → Rule
rule_of pattern assignments = record {
  glob = glob_of (without_last_slash pattern);
  only_directories = ends_with_slash pattern;
  assignments = assignments;
}

-- the last name of a path
abbrev pub last_name : List ℕ → List ℕ
last_name path = after_last is_slash path

-- a path from the directory where the file of attributes lies, in which it is
abbrev pub path_from : List ℕ → List ℕ → List ℕ
path_from base path = if is_empty base then path else drop (length base + 1) path

-- The directory is the top, or has fewer bytes than the path.
abbrev pub IsBaseOf : List ℕ → List ℕ → Type 0
IsBaseOf base path = IsFalse (is_empty base) → length base < length path

-- what a glob of this mode is compared with
abbrev pub compared : Mode → List ℕ → List ℕ → List ℕ
compared Shell base path = last_name path
compared PathAware base path = path_from base path

-- A rule of a file in a directory fits a path below that directory, which has no slash at its end.
pub record Fits (case : Case) (base : List ℕ) (rule : Rule) (path : List ℕ) (is_dir : Bool) : Type 0 where
  pub kind : IsTrue rule.only_directories → IsTrue is_dir
  pub glob : Matches rule.glob.mode case (glob_tokens rule.glob) (compared rule.glob.mode base path)

-- the same as a test
abbrev pub fits : Case → List ℕ → Rule → List ℕ → Bool → Bool
fits case base rule path is_dir = (not rule.only_directories || is_dir) && matches rule.glob.mode case (glob_tokens rule.glob) (compared rule.glob.mode base path)

-- The test gives just what the relation says.
abbrev pub FitsIsRelation : Type 0
FitsIsRelation = (case : Case) (base : List ℕ) (rule : Rule) (path : List ℕ) (is_dir : Bool) → IsTrue (fits case base rule path is_dir) ↔ Fits case base rule path is_dir
