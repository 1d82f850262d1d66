-- What is pruned is not chosen: an exclude that takes every path matches each, where a nil spec has no prefix directory.
use Rattle.std.proofs.Common.{◌≡◌, ℕ, Bool, true, false, ◌&&◌, inl, inr, refl, List, [], ◌∷◌, zero, suc, take}
use Rattle.std.proofs.lemmas.Bool.{or_cases, both_ways}
use Rattle.std.specs.Prelude.{IsTrue}
use Rattle.std.specs.List.{list_any}
use Rattle.gix_pathspec.specs.Attributes.{Table}
use Rattle.gix_pathspec.specs.Bytes.{is_empty}
use Rattle.gix_pathspec.specs.Matching.{is_in_prefix_directory, fit, fits, has_attributes, spec_matches, IsChosen}
use Rattle.gix_pathspec.specs.Pruning.{is_total_exclude}
use Rattle.gix_pathspec.specs.PruningLaws.{PrunedIsNotChosen, FilePrunedIsNotChosen, ExcludesAll, NoIncludeFits}
use Rattle.gix_pathspec.specs.SelectionLaws.{NoNilPrefix}
use Rattle.gix_pathspec.specs.Specs.{Spec, is_exclude, is_include, always_matches, prefix_directory}
use Rattle.gix_pathspec.proofs.ChosenProofs.{contained_where}
use Rattle.gix_pathspec.proofs.BeginsProofs.{one_of_four}
use Rattle.gix_pathspec.proofs.SelectedProofs.{fits-from_spec_matches, no_include_from_excludes}
use Rattle.gix_pathspec.proofs.PruningSafeProofs.{pruning_is_safe, file_pruning_is_safe}

-- ---- an exclude that takes every path

-- of an empty path nothing is taken
take-nil : (n : ℕ) (path : List ℕ) → is_empty path ≡ true → is_empty (take n path) ≡ true
take-nil zero path h = refl
take-nil (suc n) [] h = refl
take-nil (suc n) (b ∷ path) h = cc

-- a spec that always matches has no prefix directory
no_prefix : (s : Spec) → (IsTrue s.nil → s.prefix_length ≡ 0) → always_matches s ≡ true → is_empty (prefix_directory s) ≡ true
no_prefix s n a = elim (or_cases s.nil (is_empty s.path) a) [
  | inl e ↦ rw (n e) refl
  | inr e ↦ take-nil s.prefix_length s.path e
]

-- a spec that always matches and lists no attributes matches every path
always-matches : (table : Table) (s : Spec) (path : List ℕ) (is_dir : Bool) → (IsTrue s.nil → s.prefix_length ≡ 0) → always_matches s ≡ true → is_empty s.attributes ≡ true → spec_matches table s path is_dir ≡ true
unfolding spec_matches fit has_attributes
always-matches table s path is_dir n a e =
    let k : is_in_prefix_directory s path is_dir ≡ true = one_of_four _ (is_empty (prefix_directory s)) _ _ (inr (inl (no_prefix s n a))) in
    rw (k, a, e) refl

-- three tests that hold
pub all_three : (a b c : Bool) → (a && b && c) ≡ true → (a ≡ true) × (b ≡ true) × (c ≡ true)
all_three true true true h = (refl, refl, refl)
all_three true true false h = cc
all_three true false c h = cc
all_three false b c h = cc

-- so does an exclude that takes every path
total-matches : (table : Table) (s : Spec) (path : List ℕ) (is_dir : Bool) → (IsTrue s.nil → s.prefix_length ≡ 0) → is_total_exclude s ≡ true → (is_exclude s ≡ true) × (spec_matches table s path is_dir ≡ true)
total-matches table s path is_dir n t =
    let p = all_three (is_exclude s) (always_matches s) (is_empty s.attributes) t in
    (p.0, always-matches table s path is_dir n p.1 p.2)

-- where one stands, nothing is chosen
pub nothing_chosen : (table : Table) (specs : List Spec) (path : List ℕ) (is_dir : Bool) → NoNilPrefix specs → ExcludesAll specs → IsChosen table specs path is_dir → ⊥
nothing_chosen table specs path is_dir none t h =
    let f = contained_where is_total_exclude specs t in
    let m = total-matches table f.0 path is_dir (none f.0 f.1) f.2 in
    both_ways (spec_matches table f.0 path is_dir) (h.not_excluded f.0 f.1 m.0) m.1

-- ---- what is pruned is not chosen

-- a path that no include fits is not chosen
pub unfitted_not_chosen : (table : Table) (specs : List Spec) (path : List ℕ) (is_dir : Bool) → NoIncludeFits specs path is_dir → IsChosen table specs path is_dir → ⊥
unfitted_not_chosen table specs path is_dir n h = elim h.included [
  | inl m ↦ both_ways (fits m.0 path is_dir) (n.1 m.0 m.1 m.2) (fits-from_spec_matches table m.0 path is_dir m.3)
  | inr e ↦ both_ways (list_any is_include specs) (no_include_from_excludes specs e) n.0
]

-- What is pruned is not chosen.
pub pruned_is_not_chosen : (table : Table) (specs : List Spec) → NoNilPrefix specs → PrunedIsNotChosen table specs
pruned_is_not_chosen table specs none d asked n h path is_dir below c = elim (pruning_is_safe specs d asked n h) [
  | inl t ↦ nothing_chosen table specs path is_dir none t c
  | inr u ↦ unfitted_not_chosen table specs path is_dir (u path is_dir below) c
]

-- The same of a file.
pub file_pruned_is_not_chosen : (table : Table) (specs : List Spec) → NoNilPrefix specs → FilePrunedIsNotChosen table specs
file_pruned_is_not_chosen table specs none d h c = elim (file_pruning_is_safe specs d h) [
  | inl t ↦ nothing_chosen table specs d false none t c
  | inr u ↦ unfitted_not_chosen table specs d false u c
]
