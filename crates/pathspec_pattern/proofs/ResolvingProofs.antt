-- The normal form by what a path stands on and by its own components.
use Rattle.std.proofs.Common.{◌≡◌, ℕ, true, false, refl, sym, ◌∙◌, ap, List, inl, inr, ◌||◌, Some, None, Ok, Err}
use Rattle.std.proofs.lemmas.Bool.{cases_Bool}
use Rattle.pathspec_parts.specs.Bytes.{is_empty}
use Rattle.pathspec_parts.specs.Paths.{is_absolute, is_clean_prefix}
use Rattle.pathspec_pattern.specs.Faults.Fault.{OutsideRoot, LeavesRepository}
use Rattle.pathspec_pattern.specs.Specs.{Spec, top, has}
use Rattle.pathspec_pattern.specs.NormalForm.{Base, base, base_names, own_components, components_to_resolve, is_inside, survivors, parent_dir_count, resolved, resolve, normal_form}
use Rattle.pathspec_pattern.proofs.HeightProofs.{parent_dir_count-clean}

module _ (prefix root : List ℕ) (s : Spec) where
  -- the names that a path stands on have no `..`
  pub base-names_only : is_clean_prefix prefix ≡ true → parent_dir_count (base_names (base prefix s)) ≡ 0
  base-names_only clean = elim (cases_Bool (is_absolute s.path)) [
    | inl a ↦ rw a refl
    | inr r ↦ elim (cases_Bool (is_empty prefix || has top s.signature)) [
      | inl t ↦ rw (r, t) refl
      | inr j ↦ rw (r, j) (parent_dir_count-clean prefix clean)
    ]
  ]

  module _ (b : Base) (stands : b ≡ base prefix s) where
    form-is : normal_form prefix root s ≡ resolve b s (own_components b root s.path)
    unfolding normal_form
    form-is = ap (λ x. resolve x s (own_components x root s.path)) (sym stands)

    -- it lies outside the root
    pub form-outside : None ≡ own_components b root s.path → normal_form prefix root s ≡ Err (OutsideRoot s.path)
    form-outside none = form-is ∙ ap (resolve b s) (sym none)

    module _ (own : List (List ℕ)) (is_own : Some own ≡ own_components b root s.path) where
      -- it climbs out
      pub form-leaves : is_inside b own ≡ false → normal_form prefix root s ≡ Err (LeavesRepository s.path)
      form-leaves out = form-is ∙ (ap (resolve b s) (sym is_own) ∙ (rw out refl))

      -- it doesn't
      pub form-stays : (left : List (List ℕ)) (n : Spec) → is_inside b own ≡ true → left ≡ survivors (components_to_resolve b own) → n ≡ resolved b s own left → normal_form prefix root s ≡ Ok n
      form-stays left n inside is_left is_n = form-is ∙ (ap (resolve b s) (sym is_own) ∙ (rw (inside, ← is_left) (ap Ok (sym is_n))))
