-- Which directories can hold a path that the specs choose.
use Rattle.std.specs.Prelude.{ℕ, Bool, not, ◌&&◌, ◌||◌, List, Option}
use Rattle.std.specs.List.{list_any}
use Rattle.gix_pathspec.specs.Tables.{StemParts, stem_reaches}
use Rattle.gix_pathspec.specs.Bytes.{is_empty, begins_with}
use Rattle.gix_pathspec.specs.Specs.{Spec, is_exclude, is_include, ignores_case, wants_directory, always_matches, has_wildcard}
use Rattle.gix_pathspec.specs.Prefixes.{stem, common_prefix}

-- the stem of a spec, with the properties that a table of stems asks
abbrev pub stem_of : Spec → StemParts
stem_of s = record { text = stem s; ignores_case = ignores_case s; has_wildcard = has_wildcard s; wants_directory = wants_directory s }

-- A spec reaches d where it always matches, or its stem reaches d: the two are one, or one lies below the other, or the stem begins d and a wildcard follows it.
unfoldable pub reaches : Spec → List ℕ → Option Bool → Bool
reaches s d is_dir = always_matches s || stem_reaches (stem_of s) d is_dir

-- two texts agree as far as both go
abbrev pub agree : List ℕ → List ℕ → Bool
agree x y = begins_with x y || begins_with y x

-- an exclude that takes every path, whatever a look-up says
abbrev pub is_total_exclude : Spec → Bool
is_total_exclude s = is_exclude s && always_matches s && is_empty s.attributes

-- some include reaches d, or there is no include
abbrev pub is_reached : List Spec → List ℕ → Option Bool → Bool
is_reached specs d is_dir = list_any (λ s. is_include s && reaches s d is_dir) specs || not (list_any is_include specs)

-- Something at or below d can match: there are no specs, or d is empty; or d and the common prefix agree,
-- no exclude takes every path, and some include reaches d or there is no include.
unfoldable pub can_match : List Spec → List ℕ → Option Bool → Bool
can_match specs d is_dir = is_empty specs || is_empty d || agree d (common_prefix specs) && not (list_any is_total_exclude specs) && is_reached specs d is_dir
