-- A row for each kind of verdict.
use Rattle.std.proofs.Common.{true, false, refl, [], ◌∷◌, map, lit<}
use Rattle.std.specs.Prelude.{codes}
use Rattle.pathspec_pattern.specs.declared.SearchMode.TheVariants.{ShellGlob}
use Rattle.pathspec_parts.specs.Attributes.{Table}
use Rattle.pathspec_parts.specs.Attributes.State.{Unspecified}
use Rattle.gix_pathspec.specs.Matching.{fit, has_attributes, spec_matches}
use Rattle.gix_pathspec.specs.Prefixes.{common_prefix}
use Rattle.gix_pathspec.specs.Search.{Numbered}
use Rattle.pathspec_pattern.proofs.Asking.{spec}
use Rattle.pathspec_explain.specs.Verdicts.{IsVerdict}
use Rattle.pathspec_explain.specs.declared.verdict.Verdict.TheVariants.{Selected, Excluded, NoExcludeMatches, NoIncludeMatches, LacksCommonPrefix}

-- a look-up that knows of no attribute
abbrev nothing_known : Table
nothing_known q = record { found = true; states = map (λ name. Unspecified) q.names }

-- `src`, given first
abbrev source : Numbered
source = record { number = 0; spec = spec (codes "src") 0 ShellGlob }

-- `:!src/gen`, given second
abbrev generated : Numbered
generated = record { number = 1; spec = spec (codes "src/gen") 4 ShellGlob }

-- `docs`
abbrev docs : Numbered
docs = record { number = 2; spec = spec (codes "docs") 0 ShellGlob }

selected : IsVerdict nothing_known (generated ∷ source ∷ []) (codes "src/a.rs") false (Selected 0)
unfolding spec_matches fit has_attributes
selected = (source, refl, refl, record { before = generated ∷ []; after = []; stands = refl; matches = refl; first = refl })

excluded : IsVerdict nothing_known (generated ∷ source ∷ []) (codes "src/gen/a.rs") false (Excluded 1)
unfolding spec_matches fit has_attributes
excluded = (generated, refl, refl, record { before = []; after = source ∷ []; stands = refl; matches = refl; first = refl })

no_exclude_matches : IsVerdict nothing_known (generated ∷ []) (codes "docs") true NoExcludeMatches
unfolding spec_matches fit has_attributes
no_exclude_matches = (refl, refl)

no_include_matches : IsVerdict nothing_known (source ∷ docs ∷ []) (codes "web") true NoIncludeMatches
unfolding spec_matches fit has_attributes
no_include_matches = (refl, refl)

lacks_common_prefix : IsVerdict nothing_known (generated ∷ source ∷ []) (codes "scripts") true (LacksCommonPrefix 1)
unfolding spec_matches fit has_attributes common_prefix
lacks_common_prefix = ((refl, refl), record { within = lit< tt; before = refl; there = refl })
