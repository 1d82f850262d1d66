-- What a walk over directories gives, opens and tells.
use Rattle.std.specs.Prelude.{◌≡◌, ℕ, Bool, not, ◌&&◌, ◌||◌, List, [], ◌∷◌, map, length, slice_get, unwrap_or, Option, Some, option_map, IsTrue, All, Contains, false, true, if◌then◌else◌}
use Rattle.std.specs.List.Sorted.{IsStrictlyIncreasing}
use Rattle.pathspec_parts.specs.Attributes.{Table}
use Rattle.pathspec_parts.specs.Entries.{Entry, entries_where}
use Rattle.gix_pathspec.specs.Specs.{Spec}
use Rattle.gix_pathspec.specs.Matching.{is_chosen}
use Rattle.pathspec_walk.specs.Walks.{IsEntryWith, HasWalked, can_hold}
use Rattle.pathspec_list.specs.Directories.{append_known}

-- whether an entry is listed: it is chosen, and a file unless directories are wanted too
abbrev pub is_listed : Bool → Table → List Spec → List ℕ → Bool → Bool
is_listed with_directories table specs path is_dir = (with_directories || not is_dir) && is_chosen table specs path is_dir

-- the paths of the entries with these numbers
abbrev pub paths_at : List Entry → List ℕ → List (List ℕ)
paths_at es ns = map (λ n. unwrap_or (option_map (λ e. e.path) (slice_get es n)) []) ns

-- a path that a walk gives, and whether it is a directory's
abbrev pub Given : Type 0
Given = List ℕ × Bool

-- the entries with these numbers, as a walk gives them
abbrev pub given_at : List Entry → List ℕ → List Given
given_at es ns = map (λ n. unwrap_or (option_map (λ e. (e.path, e.is_dir)) (slice_get es n)) ([], false)) ns

-- one given more where the test passes
abbrev pub given_if : Bool → List ℕ → Bool → Option (List Given) → Option (List Given)
given_if passes path is_dir given = if passes then append_known given ((path, is_dir) ∷ []) else given

-- a path more where the test passes
abbrev pub path_if : Bool → List ℕ → Option (List (List ℕ)) → Option (List (List ℕ))
path_if passes path paths = if passes then append_known paths (path ∷ []) else paths

-- whether a walk has to look at a path: something below it can be chosen, or it is listed, as a file or as a directory
abbrev pub matters : (List ℕ → Bool → Bool) → List Spec → List ℕ → Bool
matters takes specs path = can_hold specs path || takes path false || takes path true

-- Each of these paths is one that a walk has to look at.
abbrev pub AllMatter : (List ℕ → Bool → Bool) → List Spec → List (List ℕ) → Type 0
AllMatter takes specs paths = All (λ path. IsTrue (matters takes specs path)) paths

-- What was given is a part, in order, of the entries that pass, each with its kind.
pub record GivesPart (takes : List ℕ → Bool → Bool) (es : List Entry) (given : List Given) : Type 0 where
  pub numbers : List ℕ
  pub are : given ≡ given_at es numbers
  pub rising : IsStrictlyIncreasing numbers
  pub pass : (n : ℕ) → Contains numbers n → IsEntryWith es (λ e. IsTrue (takes e.path e.is_dir)) n

-- What was given is all the entries that pass, each with its kind, and what was opened is the top and the directories that the walk came to and may not skip.
pub record GivesAll (takes : List ℕ → Bool → Bool) (specs : List Spec) (es : List Entry) (given : List Given) (opened : List (List ℕ)) : Type 0 where
  pub given_are : given ≡ given_at es (entries_where takes es)
  pub entered : List ℕ
  pub opened_are : opened ≡ [] ∷ paths_at es entered
  pub walked : HasWalked specs es (length es) entered

-- after is before, if that is known, and more, of which P holds
abbrev pub IsMore : {X : Type 0} → Option (List X) → Option (List X) → (List X → Type 0) → Type 0
IsMore {X} before after P = (more : List X) × (after ≡ append_known before more) × P more

-- What was told is known, and nothing was told since.
abbrev pub NothingTold : Option (List (List ℕ)) → Option (List (List ℕ)) → Type 0
NothingTold before after = (told : List (List ℕ)) × (before ≡ Some told) × (after ≡ Some told)
