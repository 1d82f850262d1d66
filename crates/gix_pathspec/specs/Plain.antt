-- The includes for which pruning is exact.
use Rattle.std.specs.Prelude.{Bool, not, ◌&&◌}
use Rattle.gix_pathspec.specs.Bytes.{is_empty}
use Rattle.gix_pathspec.specs.Specs.{Spec, is_include, ignores_case, has_wildcard, prefix_directory}

-- case counts in all of the path or nowhere: no prefix directory stands before a path without case
abbrev pub has_one_case : Spec → Bool
has_one_case s = not (ignores_case s && not (is_empty (prefix_directory s)))

-- an include without a wildcard, and without a prefix directory where case doesn't count
abbrev pub is_plain_but_for_attributes : Spec → Bool
is_plain_but_for_attributes s = is_include s && not (has_wildcard s) && has_one_case s

-- A plain include has no wildcard, no attributes, and no prefix directory without case.
abbrev pub is_plain : Spec → Bool
is_plain s = is_plain_but_for_attributes s && is_empty s.attributes
