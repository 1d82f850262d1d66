-- Why a spec matches a path or does not, by the definitions of a search.
use Rattle.std.specs.Prelude.{◌≡◌, ℕ, Bool, true, false, List, [], ◌∷◌, ◌++◌, take, slice_get, bit_or, if◌then◌else◌, Some, None, IsTrue, IsFalse}
use Rattle.pathspec_parts.specs.Bytes.{slash, is_empty, fold_case}
use Rattle.pathspec_parts.specs.Attributes.{State, Assignment, Table}
use Rattle.gix_pathspec.specs.Specs.{Spec, icase, ignores_case, is_glob, prefix_directory}
use Rattle.gix_pathspec.specs.Matching.{fit, fits, is_in_prefix_directory, glob_matches, same_state, have_states, question, has_attributes}
use Rattle.gix_pathspec.specs.Prefixes.{stem}
use Rattle.pathspec_explain.specs.Parting.{PartsAt}
use Rattle.pathspec_explain.specs.declared.reason.Reason.{Reason}
use Rattle.pathspec_explain.specs.declared.reason.Reason.TheVariants.{Matches, OtherState, NoStates, OnlyDirectory, OutsidePrefix, WithoutCase, Parts, GlobFails}

-- the spec, asked without case
abbrev pub without_case : Spec → Spec
without_case s = record s { signature = bit_or s.signature icase }

-- what a path has to begin with that the spec fits, but for the spec's own path: a glob's stem, else the spec's path and a slash
abbrev pub front_asked : Spec → List ℕ
front_asked s = if is_glob s then stem s else s.path ++ slash ∷ []

-- At this place the states are not as the assignments list them, and before it they are.
pub record DifferAt (states : List State) (listed : List Assignment) (place : ℕ) : Type 0 where
  pub wanted : Assignment
  pub state : State
  pub before : IsTrue (have_states (take place states) (take place listed))
  pub is_listed : slice_get listed place ≡ Some wanted
  pub is_state : slice_get states place ≡ Some state
  pub other : IsFalse (same_state state wanted.state)

-- The reason is true of the spec and the path.
abbrev pub IsReason : Table → Spec → List ℕ → Bool → Reason → Type 0
IsReason table s path is_dir (Matches kind) = (fit s path is_dir ≡ Some kind) × IsTrue (has_attributes table s path is_dir)
IsReason table s path is_dir (OtherState place) = let reply = table (question s path is_dir) in IsTrue (fits s path is_dir) × IsTrue reply.found × DifferAt reply.states s.attributes place
IsReason table s path is_dir NoStates = let reply = table (question s path is_dir) in IsTrue (fits s path is_dir) × IsFalse (is_empty s.attributes) × IsFalse reply.found
IsReason table s path is_dir (OnlyDirectory kind) = IsFalse is_dir × (fit s path false ≡ None) × (fit s path true ≡ Some kind)
IsReason table s path is_dir (OutsidePrefix at) = IsFalse (is_in_prefix_directory s path is_dir) × PartsAt (prefix_directory s ++ slash ∷ []) path at
IsReason table s path is_dir (WithoutCase kind) = IsFalse (ignores_case s) × (fit s path is_dir ≡ None) × (fit (without_case s) path is_dir ≡ Some kind)
IsReason table s path is_dir (Parts at) = let folded = fold_case (ignores_case s) in (fit s path is_dir ≡ None) × PartsAt (folded (front_asked s)) (folded path) at
IsReason table s path is_dir GlobFails = IsTrue (is_glob s) × (fit s path is_dir ≡ None) × IsFalse (glob_matches s.mode s path)

-- the reason says that the spec matches
abbrev pub is_match : Reason → Bool
is_match (Matches kind) = true
is_match (OtherState place) = false
is_match NoStates = false
is_match (OnlyDirectory kind) = false
is_match (OutsidePrefix at) = false
is_match (WithoutCase kind) = false
is_match (Parts at) = false
is_match GlobFails = false
