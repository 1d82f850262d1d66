-- Which directories a walk may skip, as far as the tables of a search tell.
use Rattle.std.specs.Prelude.{ℕ, Bool, true, not, ◌&&◌, ◌||◌, List, Some}
use Rattle.std.specs.List.{list_any}
use Rattle.gix_pathspec.specs.Bytes.{is_empty}
use Rattle.gix_pathspec.specs.Tables.{path_takes}
use Rattle.gix_pathspec.specs.Specs.{Spec, is_include}
use Rattle.gix_pathspec.specs.Prefixes.{common_prefix}
use Rattle.gix_pathspec.specs.Pruning.{agree, is_total_exclude}
use Rattle.gix_pathspec.specs.Reach.{taken_paths, reaches_unshadowed}

-- The directory and the common prefix disagree, or an exclude takes every path, or the directory by the exclude's own path; or there are includes, and none that isn't shadowed reaches it.
abbrev pub skips_by_tables : List Spec → List ℕ → Bool
skips_by_tables specs d =
    not (agree d (common_prefix specs)) || list_any is_total_exclude specs || list_any (λ p. path_takes p d true) (taken_paths specs)
    || list_any is_include specs && not (reaches_unshadowed specs d (Some true))

-- The path isn't empty, and tables tell that a walk may skip it: nothing at or below it is chosen.
abbrev pub holds_nothing_by_tables : List Spec → List ℕ → Bool
holds_nothing_by_tables specs d = not (is_empty d) && skips_by_tables specs d
