-- The rules that fit a path, and the one among them that decides an attribute.
use Rattle.std.specs.Prelude.{◌≡◌, ℕ, Bool, List, [], ◌∷◌, ◌++◌, map, reverse, Contains, if◌then◌else◌, Option, Some, None, IsTrue, IsFalse}
use Rattle.std.specs.List.{flat_map}
use Rattle.pathspec_glob.specs.declared.Case.{Case}
use Rattle.pathspec_parts.specs.Attributes.{State, Assignment}
use Rattle.pathspec_parts.specs.Attributes.State.{Unspecified}
use Rattle.pathspec_parts.specs.AttributeStates.{assignment_view}
use Rattle.pathspec_parts.specs.Outcomes.{apply_assignments, states_of, unspecified}
use Rattle.pathspec_attributes.specs.declared.place.Place.{Place}
use Rattle.pathspec_attributes.specs.declared.place.Place.TheVariants.{Global, Directory as In, Info}
use Rattle.pathspec_attributes.specs.declared.place.RuleAt.{RuleAt as Told}
use Rattle.pathspec_attributes.specs.declared.sayings.Saying.{Saying as Said}
use Rattle.pathspec_attributes.specs.Deciding.{Macro, Decides, decided_by, knows}
use Rattle.pathspec_attributes.specs.Files.{AttributeFile, Files, decided, directories_of, file_at, macros_of, said}
use Rattle.pathspec_attributes.specs.Rules.{Rule, fits}

-- the place of an attribute file
pub data FilePlace : Type 0 where
  GlobalFile : FilePlace
  DirectoryFile : (path : List ℕ) → FilePlace
  InfoFile : FilePlace

-- the directory from which its patterns count
abbrev pub base_of : FilePlace → List ℕ
base_of GlobalFile = []
base_of (DirectoryFile path) = path
base_of InfoFile = []

-- where a rule stands: its file, and the number of its line, from 1
pub record RuleAt : Type 0 where
  pub file : FilePlace
  pub line : ℕ

-- a rule that fits a path: where it stands, and what it assigns, the last first
pub record Saying : Type 0 where
  pub at : RuleAt
  pub said : List Assignment

-- rules with the numbers of their lines
abbrev pub numbered : List ℕ → List Rule → List (ℕ × Rule)
numbered lines [] = []
numbered [] (rule ∷ rules) = (0, rule) ∷ numbered [] rules
numbered (n ∷ lines) (rule ∷ rules) = (n, rule) ∷ numbered lines rules

-- what a rule says of a path, if it fits
abbrev pub saying_of : Case → List ℕ → Bool → FilePlace → ℕ × Rule → List Saying
saying_of case path is_dir place own =
    if fits case (base_of place) own.1 path is_dir
    then record { at = record { file = place; line = own.0 }; said = reverse own.1.assignments } ∷ []
    else []

-- the rules of a file that fit, the last first
abbrev pub sayings_of_file : Case → List ℕ → Bool → FilePlace → AttributeFile → List Saying
sayings_of_file case path is_dir place file = flat_map (saying_of case path is_dir place) (reverse (numbered file.lines file.rules))

-- The rules of all files that fit, in the order in which they count.
abbrev pub sayings : Files → List ℕ → Bool → List Saying
sayings files path is_dir =
    sayings_of_file files.case path is_dir InfoFile files.info
    ++ (flat_map (λ base. sayings_of_file files.case path is_dir (DirectoryFile base) (file_at files.directories base)) (directories_of path)
    ++ sayings_of_file files.case path is_dir GlobalFile files.global)

-- all that rules say
abbrev pub all_said : List Saying → List Assignment
all_said list = flat_map (λ (s : Saying). s.said) list

-- what is decided by what rules say
abbrev pub decided_in : List Macro → List Saying → List Assignment
decided_in macros list = decided_by macros (all_said list) []

-- The first rule by which a name is decided: before it the name is open.
pub record FirstDecides (macros : List Macro) (all : List Saying) (name : List ℕ) (at : RuleAt) : Type 0 where
  pub before : List Saying
  pub said : List Assignment
  pub behind : List Saying
  pub among : all ≡ before ++ record { at = at; said = said } ∷ behind
  pub undecided : IsFalse (knows (decided_in macros before) name)
  pub decided : IsTrue (knows (decided_in macros (before ++ record { at = at; said = said } ∷ [])) name)

-- The rule that decides a name; there is none where the name stays open.
abbrev pub IsDecider : List Macro → List Saying → List ℕ → Option RuleAt → Type 0
IsDecider macros all name None = IsFalse (knows (decided_in macros all) name)
IsDecider macros all name (Some at) = FirstDecides macros all name at

-- ---- what the rule says is the answer

-- what files answer for a name
abbrev pub state_in : Files → List ℕ → Bool → List ℕ → List State
state_in files path is_dir name = states_of (apply_assignments (unspecified (name ∷ [])) (decided files path is_dir))

-- A rule says a state of a name: after those before it, it decides so, itself or by a macro that it sets.
pub record Says (macros : List Macro) (before : List Saying) (said : List Assignment) (name : List ℕ) (state : State) : Type 0 where
  pub own : List Assignment
  pub decides : Decides macros said (decided_in macros before) (decided_in macros before ++ own)
  pub among : Contains own (record { name = name; state = state })

-- what the rule says that decides a name, and that it is the answer
pub record Answers (files : Files) (path : List ℕ) (is_dir : Bool) (before : List Saying) (said : List Assignment) (name : List ℕ) : Type 0 where
  pub state : State
  pub says : Says (macros_of files) before said name state
  pub answer : state_in files path is_dir name ≡ state ∷ []

-- What the rules that fit say is all that is said of a path, and the one that decides a name says the answer. Where none does, the answer is that it is unspecified.
pub record LawsOfDeciders : Type 0 where
  pub all : (files : Files) (path : List ℕ) (is_dir : Bool) → all_said (sayings files path is_dir) ≡ said files path is_dir
  pub some : (files : Files) (path : List ℕ) (is_dir : Bool) (name : List ℕ) (at : RuleAt) (first : FirstDecides (macros_of files) (sayings files path is_dir) name at) → Answers files path is_dir first.before first.said name
  pub none : (files : Files) (path : List ℕ) (is_dir : Bool) (name : List ℕ) → IsDecider (macros_of files) (sayings files path is_dir) name None → state_in files path is_dir name ≡ Unspecified ∷ []

-- ---- what a clause reads

-- the place that a `Place` is
abbrev pub place_view : Place → FilePlace
place_view Global = GlobalFile
place_view (In path) = DirectoryFile path.now
place_view Info = InfoFile

-- where a rule stands
abbrev pub rule_at_view : Told → RuleAt
rule_at_view told = record { file = place_view told.place; line = told.line }

-- what a `Saying` says
abbrev pub saying_view : Said → Saying
saying_view s = record { at = rule_at_view s.at; said = reverse (map assignment_view s.assignments.now) }
