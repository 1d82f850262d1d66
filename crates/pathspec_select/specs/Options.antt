-- What the options of a command line say, and which of its words are specs.
use Rattle.std.specs.Prelude.{ℕ, not, ◌&&◌, List, [], ◌∷◌, ◌++◌, length, codes, bytes_eq, nat_lt, if◌then◌else◌, Option, Some, None, is_some, Result, Ok, Err}
use Rattle.pathspec_parts.specs.Bytes.{is_empty, begins_with}
use Rattle.pathspec_parts.specs.Paths.{without_last_slash, is_clean_prefix}
use Rattle.gix_pathspec.specs.Results.{◌>>=◌}
use Rattle.pathspec_select.specs.RequestFaults.{RequestFault}
use Rattle.pathspec_select.specs.RequestFaults.RequestFault.{Usage}

-- ---- what options say

-- a path, and the list of attributes that it is to have, as it is written
pub record ListAt : Type 0 where
  pub path : List ℕ
  pub list : List ℕ

-- what words ask for
pub record Options : Type 0 where
  pub prefix : List ℕ
  pub root : List ℕ
  -- the byte that ends a record
  pub separator : ℕ
  -- the lists of attributes, in their order
  pub lists : List ListAt
  -- what the source of the specs is called, where they stand first in the input
  pub source : Option (List ℕ)
  -- the words of the specs
  pub texts : List (List ℕ)

-- an option with its arguments
pub data Setting : Type 0 where
  -- the byte 0 ends a record
  EndsByNul : Setting
  -- specs are read in this directory
  HasPrefix : (path : List ℕ) → Setting
  -- the repository lies here
  HasRoot : (path : List ℕ) → Setting
  -- a path has this list of attributes
  HasList : (path list : List ℕ) → Setting
  -- the specs stand first in the input, and their source is called so
  HasSource : (name : List ℕ) → Setting

-- options with one more; an earlier prefix, root or source no longer counts
abbrev pub with_setting : Setting → Options → Options
with_setting EndsByNul options = record options { separator = 0 }
with_setting (HasPrefix path) options = record options { prefix = path }
with_setting (HasRoot path) options = record options { root = path }
with_setting (HasList path list) options = record options { lists = options.lists ++ record { path = path; list = list } ∷ [] }
with_setting (HasSource name) options = record options { source = Some name }

-- ---- which words are options

-- what a word says where an option may stand
pub data OptionWord : Type 0 where
  -- the words after it are specs
  EndsOptions : OptionWord
  -- the byte 0 ends a record
  SaysNul : OptionWord
  -- the next word is the prefix
  NamesPrefix : OptionWord
  -- the next word is the root
  NamesRoot : OptionWord
  -- the next two words are a path and a list of attributes
  NamesList : OptionWord
  -- the next word is the source of specs that stand first in the input
  NamesSource : OptionWord
  -- no option has this name
  IsUnknown : OptionWord
  -- it is a spec, and so are the words after it
  BeginsSpecs : OptionWord

-- what these bytes say
abbrev pub option_word : List ℕ → OptionWord
option_word word =
    if bytes_eq word (codes "--") then EndsOptions
    else if bytes_eq word (codes "-z") then SaysNul
    else if bytes_eq word (codes "--prefix") then NamesPrefix
    else if bytes_eq word (codes "--root") then NamesRoot
    else if bytes_eq word (codes "--attr") then NamesList
    else if bytes_eq word (codes "--specs-first") then NamesSource
    else if begins_with word (codes "-") then IsUnknown
    else BeginsSpecs

-- what the next word is
pub data Awaited : Type 0 where
  -- an option or a spec
  AnyWord : Awaited
  -- an argument of this option
  PrefixPath : Awaited
  RootPath : Awaited
  ListPath : Awaited
  -- the list for this path
  ListOf : (path : List ℕ) → Awaited
  -- what the source of the specs is called
  SourceName : Awaited

-- options, and what the words after them say, of which the first is awaited so
abbrev pub options_after : Awaited → Options → List (List ℕ) → Result Options RequestFault
options_after AnyWord options [] = Ok (record options { texts = [] })
options_after PrefixPath options [] = Err Usage
options_after RootPath options [] = Err Usage
options_after ListPath options [] = Err Usage
options_after (ListOf path) options [] = Err Usage
options_after SourceName options [] = Err Usage
options_after PrefixPath options (word ∷ words) = options_after AnyWord (with_setting (HasPrefix word) options) words
options_after RootPath options (word ∷ words) = options_after AnyWord (with_setting (HasRoot word) options) words
options_after ListPath options (word ∷ words) = options_after (ListOf word) options words
options_after (ListOf path) options (word ∷ words) = options_after AnyWord (with_setting (HasList path word) options) words
options_after SourceName options (word ∷ words) = options_after AnyWord (with_setting (HasSource word) options) words
options_after AnyWord options (word ∷ words) =
    elim (option_word word) [
      | EndsOptions ↦ Ok (record options { texts = words })
      | SaysNul ↦ options_after AnyWord (with_setting EndsByNul options) words
      | NamesPrefix ↦ options_after PrefixPath options words
      | NamesRoot ↦ options_after RootPath options words
      | NamesList ↦ options_after ListPath options words
      | NamesSource ↦ options_after SourceName options words
      | IsUnknown ↦ Err Usage
      | BeginsSpecs ↦ Ok (record options { texts = word ∷ words })
    ]

-- ---- what words ask for

-- the byte that ends a record where no option says otherwise
abbrev pub line_feed : ℕ
line_feed = 10

-- before the first word
abbrev pub no_options : Options
no_options = record { prefix = []; root = []; separator = line_feed; lists = []; source = None; texts = [] }

-- The prefix that an argument names: where it is longer than one byte, one slash at its end isn't part of it.
abbrev pub prefix_of : List ℕ → List ℕ
prefix_of argument = if nat_lt 1 (length argument) then without_last_slash argument else argument

-- options with the prefix that their argument names, which has to be clean
abbrev pub with_clean_prefix : Options → Result Options RequestFault
with_clean_prefix options = if is_clean_prefix (prefix_of options.prefix) then Ok (record options { prefix = prefix_of options.prefix }) else Err Usage

-- options whose specs stand in one place: where they stand first in the input, no word may be one
abbrev pub with_specs_once : Options → Result Options RequestFault
with_specs_once options = if is_some options.source && not (is_empty options.texts) then Err Usage else Ok options

-- What words ask for. Options are read up to `--` or the first word that begins with no `-`.
unfoldable pub options_of : List (List ℕ) → Result Options RequestFault
options_of words = options_after AnyWord no_options words >>= with_clean_prefix >>= with_specs_once
