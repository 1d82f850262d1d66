-- A row for each kind of reason.
use Rattle.std.proofs.Common.{true, false, refl, [], ◌∷◌, map, lit<}
use Rattle.std.specs.Prelude.{codes}
use Rattle.pathspec_pattern.specs.declared.SearchMode.TheVariants.{ShellGlob}
use Rattle.pathspec_parts.specs.Attributes.{Table}
use Rattle.pathspec_parts.specs.Attributes.State.{Set, Unspecified}
use Rattle.pathspec_parts.specs.Tokens.{tokens_from}
use Rattle.pathspec_parts.specs.GlobRelation.{matches}
use Rattle.gix_pathspec.specs.declared.search.MatchKind.TheVariants.{Always, Prefix, WildcardMatch, Verbatim}
use Rattle.gix_pathspec.specs.Specs.{Spec}
use Rattle.gix_pathspec.specs.Matching.{fit, has_attributes}
use Rattle.pathspec_pattern.proofs.Asking.{spec, spec_with}
use Rattle.pathspec_explain.specs.Reasons.{IsReason}
use Rattle.pathspec_explain.specs.declared.reason.Reason.TheVariants.{Matches, OtherState, NoStates, OnlyDirectory, OutsidePrefix, WithoutCase, Parts, GlobFails}

-- a look-up that knows of no attribute
abbrev nothing_known : Table
nothing_known q = record { found = true; states = map (λ name. Unspecified) q.names }

-- one that has no answer
abbrev no_answer : Table
no_answer q = record { found = false; states = map (λ name. Unspecified) q.names }

-- `:(icase)B`, given in `a`
abbrev given_in_a : Spec
given_in_a = record { path = codes "a/B"; signature = 2; mode = ShellGlob; attributes = []; nil = false; prefix_length = 1 }

-- ---- it matches

always : IsReason nothing_known (spec [] 0 ShellGlob) (codes "a") false (Matches Always)
unfolding fit has_attributes
always = (refl, refl)

by_glob : IsReason nothing_known (spec (codes "src/*.rs") 0 ShellGlob) (codes "src/a.rs") false (Matches WildcardMatch)
unfolding fit has_attributes matches tokens_from
by_glob = (refl, refl)

same_path : IsReason nothing_known (spec (codes "src") 0 ShellGlob) (codes "src") true (Matches Verbatim)
unfolding fit has_attributes
same_path = (refl, refl)

path_above : IsReason nothing_known (spec (codes "src") 0 ShellGlob) (codes "src/a.rs") false (Matches Prefix)
unfolding fit has_attributes
path_above = (refl, refl)

-- ---- attributes

other_state : IsReason nothing_known (spec_with (codes "src") 0 ShellGlob (record { name = codes "text"; state = Set } ∷ [])) (codes "src/a") false (OtherState 0)
unfolding fit
other_state = (refl, refl, record { before = refl; wanted = record { name = codes "text"; state = Set }; state = Unspecified; is_listed = refl; is_state = refl; other = refl })

no_states : IsReason no_answer (spec_with (codes "src") 0 ShellGlob (record { name = codes "text"; state = Set } ∷ [])) (codes "src/a") false NoStates
unfolding fit
no_states = (refl, refl, refl)

-- ---- the kind of entry, and case

only_directory : IsReason nothing_known (spec (codes "src") 8 ShellGlob) (codes "src") false (OnlyDirectory Verbatim)
unfolding fit
only_directory = (refl, refl, refl)

outside_prefix : IsReason nothing_known given_in_a (codes "A/b") false (OutsidePrefix 0)
outside_prefix = (refl, record { within = lit< tt; before = refl; there = refl })

without_case : IsReason nothing_known (spec (codes "readme.md") 0 ShellGlob) (codes "README.md") false (WithoutCase Verbatim)
unfolding fit
without_case = (refl, refl, refl)

-- ---- where the path parts

parts_in_stem : IsReason nothing_known (spec (codes "src/*.rs") 0 ShellGlob) (codes "scripts/a.rs") false (Parts 1)
unfolding fit matches tokens_from
parts_in_stem = (refl, record { within = lit< tt; before = refl; there = refl })

parts_behind_path : IsReason nothing_known (spec (codes "dir") 0 ShellGlob) (codes "dirt") false (Parts 3)
unfolding fit
parts_behind_path = (refl, record { within = lit< tt; before = refl; there = refl })

glob_fails : IsReason nothing_known (spec (codes "src/*.rs") 0 ShellGlob) (codes "src/a.c") false GlobFails
unfolding fit matches tokens_from
glob_fails = (refl, refl, refl)
