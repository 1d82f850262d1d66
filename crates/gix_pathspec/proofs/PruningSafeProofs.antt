-- Pruning is safe: what an include fits at or below d makes it reach d.
use Rattle.std.proofs.Common.{◌≡◌, ℕ, Bool, true, false, not, ◌&&◌, ◌||◌, inl, inr, refl, sym, ◌∙◌, ap, List, ◌++◌, Option, Some, None, ◌⊎◌}
use Rattle.std.proofs.lemmas.Bool.{and_parts, and_from, cases_Bool, both_ways, not-true, false_from_ne_true}
use Rattle.std.specs.Prelude.{◌≢◌}
use Rattle.std.specs.List.{list_any}
use Rattle.gix_pathspec.specs.Bytes.{is_empty, fold_case}
use Rattle.gix_pathspec.specs.Matching.{takes_kind, fits, glob_matches}
use Rattle.gix_pathspec.specs.Paths.{IsAtOrBelow}
use Rattle.gix_pathspec.specs.Prefixes.{stem, common_prefix, IsFrontOf}
use Rattle.gix_pathspec.specs.Stems.{leads_to, lies_below}
use Rattle.gix_pathspec.specs.Tables.{stem_reaches, stem_takes_only_below}
use Rattle.gix_pathspec.specs.Pruning.{stem_of, reaches, agree, is_total_exclude, can_match}
use Rattle.gix_pathspec.specs.PruningLaws.{NoIncludeFits, PruningIsSafe, FilePruningIsSafe}
use Rattle.gix_pathspec.specs.Specs.{Spec, is_include, ignores_case, wants_directory, always_matches, has_wildcard}
use Rattle.gix_pathspec.proofs.ChosenProofs.{list_any-contained}
use Rattle.gix_pathspec.proofs.BeginsProofs.{front-itself, folded-append, tail_of, folded-tail, leads_to-from_fronts, agree-from_fronts}
use Rattle.gix_pathspec.proofs.HeadProofs.{first_two, fits-ways, fits-stem, stem_is_path, not_nil}
use Rattle.gix_pathspec.proofs.SelectedProofs.{common_prefix-none, fitted_begins_common}

-- the stem of a spec and a directory lead to one another where the spec fits a path at or below it
fitted_leads : (s : Spec) (d path : List ℕ) (is_dir : Bool) → always_matches s ≡ false → fits s path is_dir ≡ true → IsAtOrBelow path d
    → leads_to (fold_case (ignores_case s) (stem s)) (has_wildcard s) (fold_case (ignores_case s) d) ≡ true
fitted_leads s d path is_dir a h below =
    let f = ignores_case s in
    let r = fits-stem s path is_dir a h in
    let t = tail_of path d below in
    let same : fold_case f (stem s) ++ r.rest ≡ fold_case f d ++ fold_case f t.0 = sym r.path_is ∙ (ap (fold_case f) t.1 ∙ folded-append f d t.0) in
    leads_to-from_fronts (fold_case f (stem s)) (fold_case f d) r.rest (fold_case f t.0) (has_wildcard s) same (folded-tail f t.0 t.2) r.tail

-- only of a file is it asked whether a spec takes no more than what lies below it
pub takes_only_below-else : (s : Spec) (asked : Option Bool) → asked ≢ Some false → stem_takes_only_below (stem_of s) asked ≡ false
takes_only_below-else s None n = refl
takes_only_below-else s (Some true) n = refl
takes_only_below-else s (Some false) n = absurd (n refl)

-- so it reaches the directory
pub reaches-dir : (s : Spec) (d path : List ℕ) (is_dir : Bool) (asked : Option Bool) → asked ≢ Some false → IsAtOrBelow path d → fits s path is_dir ≡ true → reaches s d asked ≡ true
unfolding reaches stem_reaches
reaches-dir s d path is_dir asked n below h = elim (cases_Bool (always_matches s)) [
  | inl a ↦ rw a refl
  | inr a ↦ rw (a, takes_only_below-else s asked n) (fitted_leads s d path is_dir a h below)
]

-- one that wants a directory takes no file
no_file : (s : Spec) → wants_directory s ≡ true → takes_kind s false ≡ true → ⊥
no_file s w h = let no : false ≡ true = rw w at h in cc

-- a spec that wants a directory and has no wildcard fits only the files below its path
wanted_below : (s : Spec) (d : List ℕ) → always_matches s ≡ false → (wants_directory s && not (has_wildcard s)) ≡ true → fits s d false ≡ true → lies_below (fold_case (ignores_case s) (stem s)) (fold_case (ignores_case s) d) ≡ true
wanted_below s d a w h =
    let p = and_parts (wants_directory s) (not (has_wildcard s)) w in
    rw (stem_is_path s (not_nil s a) (not-true (has_wildcard s) p.1)) (elim (fits-ways s d false h).1 [
      | inl always ↦ absurd (both_ways (always_matches s) a always)
      | inr q ↦ elim q [
        | inl g ↦ absurd (both_ways (has_wildcard s) (not-true (has_wildcard s) p.1) (first_two (has_wildcard s) (glob_matches s.mode s d) (takes_kind s false) g).0)
        | inr q ↦ elim q [
          | inl v ↦ absurd (no_file s p.0 (and_parts _ (takes_kind s false) v).1)
          | inr b ↦ b
        ]
      ]
    ])

-- a spec reaches a file that it fits
reaches-file : (s : Spec) (d : List ℕ) → fits s d false ≡ true → reaches s d (Some false) ≡ true
unfolding reaches stem_reaches
reaches-file s d h = elim (cases_Bool (always_matches s)) [
  | inl a ↦ rw a refl
  | inr a ↦ elim (cases_Bool (wants_directory s && not (has_wildcard s))) [
    | inl w ↦ rw (a, w) (wanted_below s d a w h)
    | inr w ↦ rw (a, w) (fitted_leads s d d false a h (inl refl))
  ]
]

-- ---- where pruning says no

-- where the test says no and no exclude takes all, the common prefix disagrees, or no include reaches d though there is one
no_parts : (none nothing meets total reached some : Bool) → (none || nothing || meets && not total && (reached || not some)) ≡ false → total ≡ false
    → (meets ≡ false) ⊎ ((reached ≡ false) × (some ≡ true))
no_parts true nothing meets total reached some h t = cc
no_parts false true meets total reached some h t = cc
no_parts false false false total reached some h t = inl refl
no_parts false false true true reached some h t = cc
no_parts false false true false true some h t = cc
no_parts false false true false false true h t = inr (refl, refl)
no_parts false false true false false false h t = cc

-- without an include every directory agrees with the common prefix
pub agree-none : (specs : List Spec) (d : List ℕ) → list_any is_include specs ≡ false → agree d (common_prefix specs) ≡ true
agree-none specs d h = rw (common_prefix-none specs h) refl

-- no include fits a path that begins with d, where pruning says no to d and each spec that fits the path reaches d
pruned_fits_none : (specs : List Spec) (d : List ℕ) (asked : Option Bool) (path : List ℕ) (is_dir : Bool) → IsFrontOf d path → ((s : Spec) → fits s path is_dir ≡ true → reaches s d asked ≡ true)
    → can_match specs d asked ≡ false → list_any is_total_exclude specs ≡ false → NoIncludeFits specs path is_dir
unfolding can_match
pruned_fits_none specs d asked path is_dir front reached h t =
    let some = list_any is_include specs in
    elim (no_parts (is_empty specs) (is_empty d) (agree d (common_prefix specs)) (list_any is_total_exclude specs) (list_any (λ s. is_include s && reaches s d asked) specs) some h t) [
      | inl m ↦ elim (cases_Bool some) [
        | inl i ↦ (i, λ s c j. false_from_ne_true (fits s path is_dir) (λ g. both_ways (agree d (common_prefix specs)) m (agree-from_fronts d (common_prefix specs) path front (fitted_begins_common specs s path is_dir c j g))))
        | inr i ↦ absurd (both_ways (agree d (common_prefix specs)) m (agree-none specs d i))
      ]
      | inr r ↦ (r.1, λ s c j. false_from_ne_true (fits s path is_dir) (λ g. both_ways (list_any (λ s. is_include s && reaches s d asked) specs) r.0 (list_any-contained (λ s. is_include s && reaches s d asked) specs s c (and_from (is_include s) (reaches s d asked) j (reached s g)))))
    ]

-- Pruning is safe.
pub pruning_is_safe : (specs : List Spec) → PruningIsSafe specs
pruning_is_safe specs d asked n h = elim (cases_Bool (list_any is_total_exclude specs)) [
  | inl t ↦ inl t
  | inr t ↦ inr (λ path is_dir below. let p = tail_of path d below in pruned_fits_none specs d asked path is_dir (p.0, p.1) (λ s g. reaches-dir s d path is_dir asked n below g) h t)
]

-- The same of a file.
pub file_pruning_is_safe : (specs : List Spec) → FilePruningIsSafe specs
file_pruning_is_safe specs d h = elim (cases_Bool (list_any is_total_exclude specs)) [
  | inl t ↦ inl t
  | inr t ↦ inr (pruned_fits_none specs d (Some false) d false (front-itself d) (λ s g. reaches-file s d g) h t)
]
