-- Pruning is near: what reaches d always matches, or its stem begins d or lies below it.
use Rattle.std.proofs.Common.{◌≡◌, ℕ, Bool, true, false, not, ◌&&◌, ◌||◌, inl, inr, refl, List, [], ◌∷◌, ◌++◌, Option, ◌⊎◌}
use Rattle.std.proofs.lemmas.Bool.{and_parts, cases_Bool, both_ways, false_from_ne_true}
use Rattle.std.proofs.lemmas.Slice.Eq.{bytes_eq-Decides}
use Rattle.std.specs.Prelude.{◌≢◌, bytes_eq, IsTrue, Contains}
use Rattle.std.specs.List.{list_any}
use Rattle.gix_pathspec.specs.Bytes.{slash, is_empty, begins_with, fold_case}
use Rattle.gix_pathspec.specs.Paths.{is_below}
use Rattle.gix_pathspec.specs.Prefixes.{stem, common_prefix}
use Rattle.gix_pathspec.specs.Stems.{leads_to}
use Rattle.gix_pathspec.specs.Tables.{stem_reaches, stem_takes_only_below}
use Rattle.gix_pathspec.specs.Pruning.{stem_of, reaches, agree, is_total_exclude, can_match}
use Rattle.gix_pathspec.specs.PruningLaws.{IsNear, PruningIsNear}
use Rattle.gix_pathspec.specs.Specs.{Spec, is_include, ignores_case, always_matches, has_wildcard}
use Rattle.gix_pathspec.proofs.ChosenProofs.{contained_where}
use Rattle.gix_pathspec.proofs.BeginsProofs.{front-itself, begins_with-from_front, IsBelow-from_is_below, which_of_four}
use Rattle.gix_pathspec.proofs.SelectedProofs.{empty_is_nil}

-- what lies below a text begins with it
front_of_below : (x z : List ℕ) → is_below z x ≡ true → begins_with z x ≡ true
front_of_below x z h = let q = IsBelow-from_is_below z x h in begins_with-from_front x z (slash ∷ q.0, q.1)

-- what leads to d begins it or lies below it
leads_near : (stem d : List ℕ) (wild : Bool) → leads_to stem wild d ≡ true → IsTrue (begins_with d stem) ⊎ IsTrue (begins_with stem (d ++ slash ∷ []))
leads_near stem d wild h = elim (which_of_four (is_below stem d) (bytes_eq d stem) (is_below d stem) (wild && begins_with d stem) h) [
  | inl b ↦ inr b
  | inr w ↦ elim w [
    | inl e ↦ inl (rw ((bytes_eq-Decides d stem).0 e) (begins_with-from_front stem stem (front-itself stem)))
    | inr w ↦ elim w [
      | inl b ↦ inl (front_of_below stem d b)
      | inr b ↦ let p = and_parts wild (begins_with d stem) b in inl p.1
    ]
  ]
]

-- so a spec that reaches d is near it
reached_near : (s : Spec) (d : List ℕ) (asked : Option Bool) → reaches s d asked ≡ true → IsNear s d
unfolding reaches stem_reaches
reached_near s d asked h = elim (cases_Bool (always_matches s)) [
  | inl a ↦ inl a
  | inr a ↦ elim (cases_Bool (stem_takes_only_below (stem_of s) asked)) [
    | inl w ↦ let b = rw (a, w) at h in inr (inl (front_of_below (fold_case (ignores_case s) (stem s)) (fold_case (ignores_case s) d) b))
    | inr w ↦ let l = rw (a, w) at h in inr (leads_near (fold_case (ignores_case s) (stem s)) (fold_case (ignores_case s) d) (has_wildcard s) l)
  ]
]

-- where the test says yes, no exclude takes all, and there is no include or one reaches d
yes_parts : (nothing meets total reached some : Bool) → (nothing || meets && not total && (reached || not some)) ≡ true → nothing ≡ false → (total ≡ false) × ((some ≡ false) ⊎ (reached ≡ true))
yes_parts true meets total reached some h e = cc
yes_parts false false total reached some h e = cc
yes_parts false true true reached some h e = cc
yes_parts false true false true some h e = (refl, inr refl)
yes_parts false true false false true h e = cc
yes_parts false true false false false h e = (refl, inl refl)

-- an include of the specs that reaches d
abbrev ReachedBy : List Spec → List ℕ → Option Bool → Type 0
ReachedBy specs d asked = (s : Spec) × Contains specs s × (is_include s ≡ true) × (reaches s d asked ≡ true)

-- the same of the answer
pub can_match-parts : (specs : List Spec) (d : List ℕ) (asked : Option Bool) → d ≢ [] → can_match specs d asked ≡ true
    → (list_any is_total_exclude specs ≡ false) × ((list_any is_include specs ≡ false) ⊎ ReachedBy specs d asked)
unfolding can_match
can_match-parts [] d asked n h = (refl, inl refl)
can_match-parts (x ∷ others) d asked n h =
    let specs = x ∷ others in
    let into : Spec → Bool = λ s. is_include s && reaches s d asked in
    let filled : is_empty d ≡ false = false_from_ne_true (is_empty d) (λ e. n (empty_is_nil d e)) in
    let r = yes_parts (is_empty d) (agree d (common_prefix specs)) (list_any is_total_exclude specs) (list_any into specs) (list_any is_include specs) h filled in (
      r.0,
      elim r.1 [
        | inl e ↦ inl e
        | inr y ↦ let f = contained_where into specs y in let p = and_parts (is_include f.0) (reaches f.0 d asked) f.2 in inr (f.0, f.1, p.0, p.1)
      ],
    )

-- Pruning is near.
pub pruning_is_near : (specs : List Spec) → PruningIsNear specs
pruning_is_near specs i d asked n h = elim (can_match-parts specs d asked n h).1 [
  | inl e ↦ absurd (both_ways (list_any is_include specs) e i)
  | inr r ↦ (r.0, r.1, r.2, reached_near r.0 d asked r.3)
]
