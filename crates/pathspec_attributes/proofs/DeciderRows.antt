-- Rows on the rule that decides an attribute, as `git check-attr` answers where each rule says a value of its own.
use Rattle.std.proofs.Common.{ℕ, true, false, refl, List, [], ◌∷◌, ◌++◌}
use Rattle.std.specs.Prelude.{codes, Option, Some, None}
use Rattle.std.specs.List.{flat_map}
use Rattle.pathspec_glob.specs.declared.Case.TheVariants.{Sensitive}
use Rattle.pathspec_glob.specs.Tokens.{tokens_from}
use Rattle.pathspec_glob.specs.GlobRelation.{matches}
use Rattle.pathspec_parts.specs.Attributes.{State}
use Rattle.pathspec_parts.specs.Attributes.State.{Set, Unset, Unspecified}
use Rattle.pathspec_attributes.specs.Files.{Files, built_in, file_of, macros_of}
use Rattle.pathspec_attributes.specs.Sayings.{FilePlace, IsDecider, RuleAt, Saying, sayings}
use Rattle.pathspec_attributes.specs.Sayings.FilePlace.{GlobalFile, DirectoryFile, InfoFile}

-- the text of lines
abbrev text : List (List ℕ) → List ℕ
text lines = flat_map (λ line. line ++ 10 ∷ []) lines

-- the files of a repository: global, the top's, that of the directory `t`, and info
abbrev repository : List (List ℕ) → List (List ℕ) → List (List ℕ) → List (List ℕ) → Files
repository global top t info = record {
  case = Sensitive;
  info = file_of true (text info);
  directories = record { path = []; file = file_of true (text top) } ∷ record { path = codes "t"; file = file_of false (text t) } ∷ [];
  global = file_of true (text global);
}

-- the rules that fit the file `t/a.c`
unfoldable pub fitting : Files → List Saying
unfolding matches tokens_from built_in
fitting files = sayings files (codes "t/a.c") false

-- whether the rule of this place and line, or none, decides `x` for it
unfoldable pub DecidedAt : Files → Option RuleAt → Type 0
unfolding fitting
DecidedAt files at = IsDecider (macros_of files) (fitting files) (codes "x") at

-- a rule that says one state of one name
abbrev says : FilePlace → ℕ → List ℕ → State → Saying
says place line name state = record { at = record { file = place; line = line }; said = record { name = name; state = state } ∷ [] }

-- ---- which file counts first

info_first : DecidedAt (repository [] (codes "* x" ∷ []) (codes "* -x" ∷ []) (codes "t/*.c x" ∷ [])) (Some (record { file = InfoFile; line = 1 }))
unfolding DecidedAt fitting
info_first = record {
  before = [];
  said = (says InfoFile 1 (codes "x") Set).said;
  behind = says (DirectoryFile (codes "t")) 1 (codes "x") Unset ∷ says (DirectoryFile []) 1 (codes "x") Set ∷ [];
  among = refl;
  undecided = refl;
  decided = refl;
}

-- comments, empty lines and rules that don't fit have numbers too
nearer_first : DecidedAt (repository [] (codes "* x" ∷ []) (codes "# c" ∷ [] ∷ codes "*.d x" ∷ codes "*.c -x" ∷ []) []) (Some (record { file = DirectoryFile (codes "t"); line = 4 }))
unfolding DecidedAt fitting
nearer_first = record {
  before = [];
  said = (says (DirectoryFile (codes "t")) 4 (codes "x") Unset).said;
  behind = says (DirectoryFile []) 1 (codes "x") Set ∷ [];
  among = refl;
  undecided = refl;
  decided = refl;
}

global_last : DecidedAt (repository (codes "* x" ∷ []) [] [] []) (Some (record { file = GlobalFile; line = 1 }))
unfolding DecidedAt fitting
global_last = record {
  before = [];
  said = (says GlobalFile 1 (codes "x") Set).said;
  behind = [];
  among = refl;
  undecided = refl;
  decided = refl;
}

-- ---- within a file

later_line_first : DecidedAt (repository [] (codes "* x" ∷ codes "*.c -x" ∷ []) [] []) (Some (record { file = DirectoryFile []; line = 2 }))
unfolding DecidedAt fitting
later_line_first = record {
  before = [];
  said = (says (DirectoryFile []) 2 (codes "x") Unset).said;
  behind = says (DirectoryFile []) 1 (codes "x") Set ∷ [];
  among = refl;
  undecided = refl;
  decided = refl;
}

-- what is said of another name decides nothing
other_name : DecidedAt (repository [] (codes "* x" ∷ codes "*.c y" ∷ []) [] []) (Some (record { file = DirectoryFile []; line = 1 }))
unfolding DecidedAt fitting
other_name = record {
  before = says (DirectoryFile []) 2 (codes "y") Set ∷ [];
  said = (says (DirectoryFile []) 1 (codes "x") Set).said;
  behind = [];
  among = refl;
  undecided = refl;
  decided = refl;
}

-- `!x` decides, too
hidden : DecidedAt (repository [] (codes "* x" ∷ []) (codes "*.c !x" ∷ []) []) (Some (record { file = DirectoryFile (codes "t"); line = 1 }))
unfolding DecidedAt fitting
hidden = record {
  before = [];
  said = (says (DirectoryFile (codes "t")) 1 (codes "x") Unspecified).said;
  behind = says (DirectoryFile []) 1 (codes "x") Set ∷ [];
  among = refl;
  undecided = refl;
  decided = refl;
}

-- ---- macros

-- the rule that sets a macro decides what it brings along
by_macro : DecidedAt (repository [] (codes "[attr]m x" ∷ codes "*.c m" ∷ []) [] []) (Some (record { file = DirectoryFile []; line = 2 }))
unfolding DecidedAt fitting
by_macro = record {
  before = [];
  said = (says (DirectoryFile []) 2 (codes "m") Set).said;
  behind = [];
  among = refl;
  undecided = refl;
  decided = refl;
}

-- one that is unset brings nothing along
unset_macro : DecidedAt (repository [] (codes "[attr]m x" ∷ codes "* x" ∷ codes "*.c -m" ∷ []) [] []) (Some (record { file = DirectoryFile []; line = 2 }))
unfolding DecidedAt fitting
unset_macro = record {
  before = says (DirectoryFile []) 3 (codes "m") Unset ∷ [];
  said = (says (DirectoryFile []) 2 (codes "x") Set).said;
  behind = [];
  among = refl;
  undecided = refl;
  decided = refl;
}

-- ---- no rule

undecided : DecidedAt (repository (codes "*.d x" ∷ []) (codes "*.c y" ∷ []) [] (codes "/a.c x" ∷ [])) None
unfolding DecidedAt fitting
undecided = refl
