-- What a clause reads of an `Environment`.
use Rattle.std.specs.Prelude.{ℕ, List, codes, bytes_eq, if◌then◌else◌, Option, None, string_bytes}
use Rattle.std.specs.Option.{option_map}
use Rattle.pathspec_pattern.specs.Environment.{Words}
use Rattle.pathspec_select.specs.declared.environment.Environment.{Environment}

-- the words of the four variables
abbrev pub words_of : Environment → Words
words_of environment =
    record {
      literal = option_map string_bytes environment.literal;
      icase = option_map string_bytes environment.icase;
      glob = option_map string_bytes environment.glob;
      noglob = option_map string_bytes environment.noglob;
    }

-- the word of the variable with this name, where it is one of the four and set
abbrev pub word_of : Words → List ℕ → Option (List ℕ)
word_of words name =
    if bytes_eq name (codes "GIT_LITERAL_PATHSPECS") then words.literal
    else if bytes_eq name (codes "GIT_ICASE_PATHSPECS") then words.icase
    else if bytes_eq name (codes "GIT_GLOB_PATHSPECS") then words.glob
    else if bytes_eq name (codes "GIT_NOGLOB_PATHSPECS") then words.noglob
    else None
