-- What is stored of specs in normal form is in normal form, and chooses the same.
use Rattle.std.proofs.Common.{◌≡◌, ℕ, Bool, true, false, not, ◌||◌, refl, sym, ◌∙◌, ap, subst, List, take, Some, inl, inr}
use Rattle.std.proofs.lemmas.Bool.{cases_Bool, cond-true, cond-false}
use Rattle.std.specs.Prelude.{Contains, ◌↔◌}
use Rattle.gix_pathspec.specs.declared.search.MatchKind.TheVariants.{Always}
use Rattle.gix_pathspec.specs.Bytes.{is_empty}
use Rattle.gix_pathspec.specs.Attributes.{Table}
use Rattle.gix_pathspec.specs.Specs.{Spec, is_exclude, ignores_case, always_matches, prefix_directory}
use Rattle.gix_pathspec.specs.NormalForm.{climb, normal_form, IsNormal}
use Rattle.gix_pathspec.specs.Matching.{fit, has_attributes, spec_matches}
use Rattle.gix_pathspec.specs.SelectionLaws.{NoNilPrefix}
use Rattle.pathspec_callers.specs.Stores.{stored_spec, ChooseAlike}
use Rattle.pathspec_callers.proofs.StoreProofs.{always_spec}

-- ---- what is stored of one spec

-- P of what is stored, by the two cases
module _ (P : Spec → Type 0) (n : Spec) where
  pub of_stored : (n.nil ≡ true → P (always_spec n)) → (n.nil ≡ false → P n) → P (stored_spec n)
  of_stored nil present = elim (cases_Bool n.nil) [
    | inl y ↦ subst P (sym (cond-true n.nil (always_spec n) n y)) (nil y)
    | inr x ↦ subst P (sym (cond-false n.nil (always_spec n) n x)) (present x)
  ]

-- it takes paths out where the spec does
pub stored-exclude : (n : Spec) → is_exclude (stored_spec n) ≡ is_exclude n
stored-exclude n = of_stored (λ s. is_exclude s ≡ is_exclude n) n (λ y. refl) (λ x. refl)

-- the spec of the empty path is in normal form
always-normal : (n : Spec) → IsNormal (always_spec n)
unfolding normal_form climb
always-normal n root = refl

pub stored-normal : (n : Spec) → IsNormal n → IsNormal (stored_spec n)
stored-normal n normal = of_stored IsNormal n (λ y. always-normal n) (λ x. normal)

in_directory : (folds x y : Bool) → (((not folds || true) || x) || y) ≡ true
in_directory true x y = refl
in_directory false x y = refl

-- what always matches, without a prefix directory, fits each path
fit-always : (s : Spec) (path : List ℕ) (is_dir : Bool) → always_matches s ≡ true → is_empty (prefix_directory s) ≡ true → fit s path is_dir ≡ Some Always
unfolding fit
fit-always s path is_dir a e = rw (e, in_directory (ignores_case s), a) refl

always-matches : (table : Table) (n : Spec) (path : List ℕ) (is_dir : Bool) → n.nil ≡ true → n.prefix_length ≡ 0 → spec_matches table (always_spec n) path is_dir ≡ spec_matches table n path is_dir
unfolding spec_matches has_attributes
always-matches table n path is_dir nil z =
    let here = fit-always n path is_dir (ap (λ b. b || is_empty n.path) nil) (ap (λ k. is_empty (take k n.path)) z) in
    let there = fit-always (always_spec n) path is_dir refl refl in
    rw (here, there) refl

-- it matches what the spec matches, where a nil spec has no prefix directory
pub stored-matches : (table : Table) (n : Spec) (path : List ℕ) (is_dir : Bool) → (n.nil ≡ true → n.prefix_length ≡ 0) → spec_matches table (stored_spec n) path is_dir ≡ spec_matches table n path is_dir
stored-matches table n path is_dir none = of_stored (λ s. spec_matches table s path is_dir ≡ spec_matches table n path is_dir) n (λ y. always-matches table n path is_dir y (none y)) (λ x. refl)

-- ---- and of all

-- m is what is stored of one of the specs
abbrev pub IsStoredOfOne : List Spec → Spec → Type 0
IsStoredOfOne specs m = (n : Spec) × Contains specs n × (m ≡ stored_spec n)

-- So specs choose what is stored of them chooses.
pub stored-choose : (specs stored : List Spec) → NoNilPrefix specs → ((m : Spec) → Contains stored m ↔ IsStoredOfOne specs m) → ChooseAlike specs stored
stored-choose specs stored none held table path is_dir = (
  λ chosen. record {
    not_excluded = λ m c x. let o = (held m).0 c in matches m o.0 o.1 o.2 ∙ chosen.not_excluded o.0 o.1 (excludes m o.0 o.2 ∙ x);
    included = elim chosen.included [
      | inl i ↦ inl (stored_spec i.0, (held (stored_spec i.0)).1 (i.0, i.1, refl), ap not (stored-exclude i.0) ∙ i.2, matches (stored_spec i.0) i.0 i.1 refl ∙ i.3)
      | inr all ↦ inr (λ m c. let o = (held m).0 c in sym (excludes m o.0 o.2) ∙ all o.0 o.1)
    ];
  },
  λ chosen. record {
    not_excluded = λ n c x. sym (matches (stored_spec n) n c refl) ∙ chosen.not_excluded (stored_spec n) ((held (stored_spec n)).1 (n, c, refl)) (stored-exclude n ∙ x);
    included = elim chosen.included [
      | inl i ↦ let o = (held i.0).0 i.1 in inl (o.0, o.1, ap not (excludes i.0 o.0 o.2) ∙ i.2, sym (matches i.0 o.0 o.1 o.2) ∙ i.3)
      | inr all ↦ inr (λ n c. sym (stored-exclude n) ∙ all (stored_spec n) ((held (stored_spec n)).1 (n, c, refl)))
    ];
  },
)
  where
    excludes : (m n : Spec) → m ≡ stored_spec n → is_exclude n ≡ is_exclude m
    excludes m n e = sym (ap is_exclude e ∙ stored-exclude n)

    matches : (m n : Spec) → Contains specs n → m ≡ stored_spec n → spec_matches table m path is_dir ≡ spec_matches table n path is_dir
    matches m n c e = ap (λ s. spec_matches table s path is_dir) e ∙ stored-matches table n path is_dir (none n c)
