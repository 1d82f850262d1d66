-- Whether a spec matches a path (gitglossary, "pathspec"). Paths here are not empty, and a path is a directory or a file.
use Rattle.std.specs.Prelude.{ℕ, Bool, true, false, not, ◌&&◌, ◌||◌, ◌⊎◌, List, [], ◌∷◌, map, bytes_eq, if◌then◌else◌, Option, Some, None, is_some, IsTrue, IsFalse, Contains}
use Rattle.std.specs.List.{list_any}
use Rattle.pathspec_pattern.specs.declared.SearchMode.{SearchMode}
use Rattle.pathspec_pattern.specs.declared.SearchMode.TheVariants.{ShellGlob, Literal, PathAwareGlob}
use Rattle.gix_pathspec.specs.declared.search.MatchKind.{MatchKind}
use Rattle.gix_pathspec.specs.declared.search.MatchKind.TheVariants.{Always, Prefix, WildcardMatch, Verbatim}
use Rattle.pathspec_glob.specs.declared.Mode.TheVariants.{Shell, PathAware}
use Rattle.pathspec_glob.specs.declared.Case.{Case}
use Rattle.pathspec_glob.specs.declared.Case.TheVariants.{Sensitive, Fold}
use Rattle.pathspec_parts.specs.Bytes.{is_empty, fold_case}
use Rattle.pathspec_parts.specs.Paths.{is_below}
use Rattle.pathspec_parts.specs.Attributes.{State, Assignment, Question, Table}
use Rattle.pathspec_parts.specs.Attributes.State.{Set, Unset, Value, Unspecified}
use Rattle.gix_pathspec.specs.Specs.{Spec, is_exclude, is_include, ignores_case, wants_directory, always_matches, has_wildcard, prefix_directory}
use Rattle.pathspec_parts.specs.Tokens.{tokens}
use Rattle.pathspec_parts.specs.GlobRelation.{matches}

-- ---- fits

-- A spec without case and with a prefix directory wants a path below that directory, or the directory itself, compared with case.
abbrev pub is_in_prefix_directory : Spec → List ℕ → Bool → Bool
is_in_prefix_directory s path is_dir =
    not (ignores_case s) || is_empty (prefix_directory s) || is_below path (prefix_directory s) || bytes_eq path (prefix_directory s) && is_dir

-- whether case counts for the spec
abbrev pub case_of : Spec → Case
case_of s = if ignores_case s then Fold else Sensitive

-- whether the spec's path, as a glob of its mode, matches the whole path; a literal spec has no glob
abbrev pub glob_matches : SearchMode → Spec → List ℕ → Bool
glob_matches ShellGlob s path = matches Shell (case_of s) (tokens Shell s.path) path
glob_matches Literal s path = false
glob_matches PathAwareGlob s path = matches PathAware (case_of s) (tokens PathAware s.path) path

-- a spec that wants a directory takes no file
abbrev pub takes_kind : Spec → Bool → Bool
takes_kind s is_dir = not (wants_directory s) || is_dir

-- the spec has a wildcard, and its glob matches the path
abbrev pub is_glob_match : Spec → List ℕ → Bool → Bool
is_glob_match s path is_dir = has_wildcard s && glob_matches s.mode s path && takes_kind s is_dir

-- the path is the spec's path
abbrev pub is_verbatim_match : Spec → List ℕ → Bool → Bool
is_verbatim_match s path is_dir = bytes_eq (fold_case (ignores_case s) path) (fold_case (ignores_case s) s.path) && takes_kind s is_dir

-- the path lies below the spec's path
abbrev pub is_prefix_match : Spec → List ℕ → Bool
is_prefix_match s path = is_below (fold_case (ignores_case s) path) (fold_case (ignores_case s) s.path)

-- the way to match by the spec's path as a text
abbrev pub text_way : Spec → List ℕ → Bool → Option MatchKind
text_way s path is_dir = if is_verbatim_match s path is_dir then Some Verbatim else if is_prefix_match s path then Some Prefix else None

-- the first of the ways to match that holds
abbrev pub match_way : Spec → List ℕ → Bool → Option MatchKind
match_way s path is_dir =
    if always_matches s then Some Always
    else if is_glob_match s path is_dir then Some WildcardMatch
    else text_way s path is_dir

-- The way in which a spec fits a path: the prefix directory is kept, and the path matches so.
unfoldable pub fit : Spec → List ℕ → Bool → Option MatchKind
fit s path is_dir = if is_in_prefix_directory s path is_dir then match_way s path is_dir else None

-- a spec fits a path in some way
abbrev pub fits : Spec → List ℕ → Bool → Bool
fits s path is_dir = is_some (fit s path is_dir)

-- ---- means

-- the states are one
abbrev pub same_state : State → State → Bool
same_state Set Set = true
same_state Unset Unset = true
same_state (Value v) (Value w) = bytes_eq v w
same_state Unspecified Unspecified = true
same_state _ _ = false

-- each assignment has its state in the reply
abbrev pub have_states : List State → List Assignment → Bool
have_states [] [] = true
have_states (state ∷ states) (a ∷ rest) = same_state state a.state && have_states states rest
have_states _ _ = false

-- the question to a look-up for a spec and a path
abbrev pub question : Spec → List ℕ → Bool → Question
question s path is_dir = record { path = path; case = Sensitive; is_dir = is_dir; names = map (λ a. a.name) s.attributes }

-- the look-up says each state that the spec lists, where it lists any
unfoldable pub has_attributes : Table → Spec → List ℕ → Bool → Bool
has_attributes table s path is_dir =
    let reply = table (question s path is_dir) in is_empty s.attributes || reply.found && have_states reply.states s.attributes

-- A spec matches a path where it fits and the look-up says what it lists.
unfoldable pub spec_matches : Table → Spec → List ℕ → Bool → Bool
spec_matches table s path is_dir = fits s path is_dir && has_attributes table s path is_dir

-- ---- chosen

-- A path is chosen where no exclude matches it, and some include matches it or there is no include.
pub record IsChosen (table : Table) (specs : List Spec) (path : List ℕ) (is_dir : Bool) : Type 0 where
  pub not_excluded : (s : Spec) → Contains specs s → IsTrue (is_exclude s) → IsFalse (spec_matches table s path is_dir)
  pub included : ((s : Spec) × Contains specs s × IsTrue (is_include s) × IsTrue (spec_matches table s path is_dir)) ⊎ ((s : Spec) → Contains specs s → IsTrue (is_exclude s))

-- whether a path is chosen, as a test
unfoldable pub is_chosen : Table → List Spec → List ℕ → Bool → Bool
is_chosen table specs path is_dir =
    not (list_any (λ s. is_exclude s && spec_matches table s path is_dir) specs)
    && (list_any (λ s. is_include s && spec_matches table s path is_dir) specs || not (list_any is_include specs))
