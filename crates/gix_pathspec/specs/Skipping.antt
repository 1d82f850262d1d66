-- Which directories a walk may skip: pruning that looks at the excludes too.
use Rattle.std.specs.Prelude.{ℕ, Bool, true, false, not, ◌&&◌, ◌||◌, List, [], ◌∷◌, ◌++◌, Option, Some, None, Contains, IsTrue}
use Rattle.std.specs.List.{list_any}
use Rattle.pathspec_pattern.specs.declared.SearchMode.{SearchMode}
use Rattle.pathspec_pattern.specs.declared.SearchMode.TheVariants.{ShellGlob, Literal, PathAwareGlob}
use Rattle.pathspec_glob.specs.declared.Mode.TheVariants.{Shell, PathAware}
use Rattle.gix_pathspec.specs.declared.search.MatchKind.{MatchKind}
use Rattle.gix_pathspec.specs.declared.search.MatchKind.TheVariants.{Always, Prefix, WildcardMatch, Verbatim}
use Rattle.gix_pathspec.specs.Bytes.{slash, is_empty}
use Rattle.pathspec_glob.specs.OpenEnds.{is_open}
use Rattle.gix_pathspec.specs.Tokens.{tokens}
use Rattle.gix_pathspec.specs.Specs.{Spec, is_exclude, is_include, ignores_case, wants_directory, always_matches, has_wildcard}
use Rattle.gix_pathspec.specs.Matching.{is_in_prefix_directory, glob_matches, is_verbatim_match, is_prefix_match}
use Rattle.gix_pathspec.specs.Plain.{has_one_case}
use Rattle.gix_pathspec.specs.Pruning.{reaches, can_match}
use Rattle.gix_pathspec.specs.Search.{Answer}

-- ---- whole

-- the spec fits the path without a look at its glob
abbrev pub fits_plainly : Spec → List ℕ → Bool → Bool
fits_plainly s path is_dir = is_in_prefix_directory s path is_dir && (always_matches s || is_verbatim_match s path is_dir || is_prefix_match s path)

-- A spec takes a directory whole: it matches the directory and all below it, whatever a look-up says.
unfoldable pub takes_whole : Spec → List ℕ → Bool
takes_whole s d = is_empty s.attributes && fits_plainly s d true

-- the spec came to match otherwise than by its glob
abbrev pub is_without_glob : MatchKind → Bool
is_without_glob Always = true
is_without_glob Prefix = true
is_without_glob WildcardMatch = false
is_without_glob Verbatim = true

-- The match of a directory is by an exclude that takes it whole: one without attributes that came to match otherwise than by its glob.
abbrev pub found_takes_whole : Answer → Bool
found_takes_whole a = is_exclude a.pattern && is_empty a.pattern.attributes && is_without_glob a.kind

-- there is a match, and it is by an exclude that takes the directory whole
abbrev pub answer_takes_whole : Option Answer → Bool
answer_takes_whole None = false
answer_takes_whole (Some a) = found_takes_whole a

-- ---- the rest

-- the last token of the spec's glob takes any bytes
abbrev pub has_open_end : SearchMode → Spec → Bool
has_open_end ShellGlob s = is_open (tokens Shell s.path)
has_open_end Literal s = false
has_open_end PathAwareGlob s = is_open (tokens PathAware s.path)

-- A spec takes the rest of a directory: its glob matches the directory's path with a slash, and whatever follows that, so all below the directory, and perhaps not the directory itself.
unfoldable pub takes_rest : Spec → List ℕ → Bool
takes_rest s d =
    is_empty s.attributes && not (wants_directory s) && has_wildcard s && is_in_prefix_directory s d true && has_open_end s.mode s && glob_matches s.mode s (d ++ slash ∷ [])

-- ---- shadowed

-- the exclude has one case, and ignores it where the include does
abbrev pub ignores_case_with : Spec → Spec → Bool
ignores_case_with e i = has_one_case e && (not (ignores_case i) || ignores_case e)

-- An exclude shadows an include without a wildcard: it takes the include's path as what the include wants, and so all that the include takes.
unfoldable pub shadows : Spec → Spec → Bool
shadows e i = is_empty e.attributes && not (always_matches i) && not (has_wildcard i) && ignores_case_with e i && fits_plainly e i.path (wants_directory i)

-- an include that no exclude shadows
abbrev pub is_unshadowed : List Spec → Spec → Bool
is_unshadowed specs i = is_include i && not (list_any (λ e. is_exclude e && shadows e i) specs)

-- ---- directories that may be skipped

-- A directory holds nothing: its path isn't empty, and pruning says no to it, or an exclude takes it whole, or there are includes and each one that reaches it is shadowed.
unfoldable pub holds_nothing : List Spec → List ℕ → Bool
holds_nothing specs d =
    not (is_empty d)
    && (not (can_match specs d (Some true)) || list_any (λ e. is_exclude e && takes_whole e d) specs
    || list_any is_include specs && not (list_any (λ i. is_unshadowed specs i && reaches i d (Some true)) specs))

-- Case counts in all of the path of each exclude, or nowhere.
abbrev pub HaveOneCase : List Spec → Type 0
HaveOneCase specs = (e : Spec) → Contains specs e → IsTrue (is_exclude e) → IsTrue (has_one_case e)

-- A walk may skip what lies below a directory: the directory holds nothing, or its path isn't empty and an exclude takes the rest of it.
unfoldable pub may_skip : List Spec → List ℕ → Bool
may_skip specs d = holds_nothing specs d || not (is_empty d) && list_any (λ e. is_exclude e && takes_rest e d) specs
