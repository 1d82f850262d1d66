-- Rows on the defaults that the environment asks for, and on the variables that are asked for.
use Rattle.std.proofs.Common.{◌≡◌, Bool, true, false, ℕ, List, Option, refl, [], ◌∷◌, map, Some, None, Result, Ok, Err}
use Rattle.std.specs.Prelude.{codes}
use Rattle.pathspec_parts.specs.Truth.{truth_of}
use Rattle.pathspec_pattern.specs.declared.defaults.Defaults.{Defaults}
use Rattle.pathspec_pattern.specs.declared.SearchMode.{SearchMode}
use Rattle.pathspec_pattern.specs.declared.SearchMode.TheVariants.{ShellGlob, Literal, PathAwareGlob}
use Rattle.pathspec_pattern.specs.Faults.{Fault}
use Rattle.pathspec_pattern.specs.Faults.Fault.{NotTruth, GlobAndNoGlob}
use Rattle.pathspec_pattern.specs.Environment.{Words, defaults_of, asked_variables}

-- the words of the variables for literal specs, case, globs and no globs
abbrev words : Option (List ℕ) → Option (List ℕ) → Option (List ℕ) → Option (List ℕ) → Words
words literal icase glob noglob = record { literal = literal; icase = icase; glob = glob; noglob = noglob }

abbrev defaults : ℕ → SearchMode → Bool → Result Defaults Fault
defaults signature mode literal = Ok (record { signature = record { 0 = signature }; search_mode = mode; literal = literal })

-- words, and the defaults that they ask for
abbrev asked_defaults : List (Words × Result Defaults Fault)
asked_defaults =
    (words None None None None, defaults 0 ShellGlob false)
    ∷ (words None None None (Some (codes "false")), defaults 0 ShellGlob false)
    ∷ (words None None None (Some (codes "on")), defaults 0 Literal false)
    ∷ (words None None (Some (codes "on")) None, defaults 0 PathAwareGlob false)
    ∷ (words None None (Some (codes "1")) (Some (codes "1")), Err GlobAndNoGlob)
    ∷ (words None None (Some (codes "1")) (Some (codes "no")), defaults 0 PathAwareGlob false)
    -- the variable for literal specs leaves those for globs unread
    ∷ (words (Some (codes "yes")) None (Some (codes "maybe")) None, defaults 0 Literal true)
    ∷ (words (Some (codes "1")) (Some (codes "on")) None (Some (codes "x")), defaults 2 Literal true)
    ∷ (words (Some (codes "0")) None (Some (codes "1")) None, defaults 0 PathAwareGlob false)
    ∷ (words (Some (codes "maybe")) (Some (codes "x")) None None, Err (NotTruth (codes "maybe")))
    -- the variable for case
    ∷ (words None (Some (codes "1")) None None, defaults 2 ShellGlob false)
    ∷ (words None (Some (codes "1")) (Some (codes "1")) None, defaults 2 PathAwareGlob false)
    ∷ (words None (Some (codes "0k")) None None, defaults 0 ShellGlob false)
    ∷ (words None (Some (codes "maybe")) None None, Err (NotTruth (codes "maybe")))
    ∷ (words (Some (codes "1")) (Some (codes "maybe")) None None, Err (NotTruth (codes "maybe")))
    -- the one for globs is read before the one for no globs
    ∷ (words None None (Some (codes "x")) (Some (codes "y")), Err (NotTruth (codes "x")))
    ∷ (words None None (Some (codes "1")) (Some (codes "y")), Err (NotTruth (codes "y")))
    ∷ []

defaults_are_read : map (λ r. defaults_of r.0) asked_defaults ≡ map (λ r. r.1) asked_defaults
unfolding truth_of
defaults_are_read = refl

-- words, and the variables that are asked for
abbrev asked : List (Words × List (List ℕ × Option (List ℕ)))
asked =
    (words None None None (Some (codes "1")), (codes "GIT_LITERAL_PATHSPECS", None) ∷ (codes "GIT_ICASE_PATHSPECS", None) ∷ (codes "GIT_GLOB_PATHSPECS", None) ∷ (codes "GIT_NOGLOB_PATHSPECS", Some (codes "1")) ∷ [])
    ∷ (words (Some (codes "1")) None (Some (codes "1")) None, (codes "GIT_LITERAL_PATHSPECS", Some (codes "1")) ∷ (codes "GIT_ICASE_PATHSPECS", None) ∷ [])
    ∷ (words (Some (codes "maybe")) (Some (codes "1")) None None, (codes "GIT_LITERAL_PATHSPECS", Some (codes "maybe")) ∷ [])
    ∷ (words None (Some (codes "maybe")) None None, (codes "GIT_LITERAL_PATHSPECS", None) ∷ (codes "GIT_ICASE_PATHSPECS", Some (codes "maybe")) ∷ [])
    ∷ (words (Some (codes "1")) (Some (codes "x")) None None, (codes "GIT_LITERAL_PATHSPECS", Some (codes "1")) ∷ (codes "GIT_ICASE_PATHSPECS", Some (codes "x")) ∷ [])
    ∷ (words None None (Some (codes "x")) (Some (codes "1")), (codes "GIT_LITERAL_PATHSPECS", None) ∷ (codes "GIT_ICASE_PATHSPECS", None) ∷ (codes "GIT_GLOB_PATHSPECS", Some (codes "x")) ∷ [])
    ∷ []

variables_are_asked : map (λ r. asked_variables r.0) asked ≡ map (λ r. r.1) asked
unfolding truth_of
variables_are_asked = refl
