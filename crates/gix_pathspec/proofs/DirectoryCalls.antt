-- How the calls about directories come to their answers.
use Rattle.std.proofs.Common.{◌≡◌, ℕ, Bool, true, false, not, ◌&&◌, ◌||◌, refl, sym, ◌∙◌, ap, List, filter, find, if◌then◌else◌, Some, None}
use Rattle.std.specs.List.{list_any, list_all}
use Rattle.gix_pathspec.specs.Bytes.{is_empty}
use Rattle.gix_pathspec.specs.Specs.{Spec, is_include, wants_directory}
use Rattle.gix_pathspec.specs.Prefixes.{common_prefix}
use Rattle.gix_pathspec.specs.Pruning.{agree}
use Rattle.gix_pathspec.specs.Directories.{settles, settling_answer, allows_directory, directory_matches, ends_at_boundary, parent, non_empty, directory_of, common_directory}

-- ---- what lies in the prefix

module _ (specs : List Spec) (d : List ℕ) (leading : Bool) where
  -- without a look at the specs
  pub directory_matches-unasked : {b : Bool} → b ≡ (is_empty specs || is_empty d) → b ≡ true → b ≡ directory_matches specs d leading
  unfolding directory_matches
  directory_matches-unasked e h = h ∙ (rw (sym e ∙ h) refl)

  -- where the path and the common prefix agree
  pub directory_matches-agreed : {a b r : Bool} → a ≡ (is_empty specs || is_empty d) → a ≡ false → b ≡ agree d (common_prefix specs) → b ≡ true
      → r ≡ settling_answer (find settles specs) (not (list_any is_include specs) || list_any (allows_directory d leading) specs) → r ≡ directory_matches specs d leading
  unfolding directory_matches
  directory_matches-agreed e h f k g = rw (sym e ∙ h, sym f ∙ k) g

  -- where they don't
  pub directory_matches-apart : {a b : Bool} → a ≡ (is_empty specs || is_empty d) → a ≡ false → b ≡ agree d (common_prefix specs) → b ≡ false → b ≡ directory_matches specs d leading
  unfolding directory_matches
  directory_matches-apart e h f k = k ∙ (rw (sym e ∙ h, sym f ∙ k) refl)

-- ---- the common directory

module _ (specs : List Spec) where
  -- with a first include
  pub common_directory-some : (first : Spec) → Some first ≡ find is_include specs
      → non_empty (if wants_directory first && list_all (ends_at_boundary (common_prefix specs)) (filter is_include specs) then common_prefix specs else parent (common_prefix specs)) ≡ common_directory specs
  unfolding common_directory
  common_directory-some first e = ap (λ s. directory_of (filter is_include specs) s (common_prefix specs)) e

  -- without one
  pub common_directory-none : None ≡ find is_include specs → None ≡ common_directory specs
  unfolding common_directory
  common_directory-none e = ap (λ s. directory_of (filter is_include specs) s (common_prefix specs)) e
