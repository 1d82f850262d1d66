-- Of plain specs a walk may skip just the directories at and below which nothing is chosen.
use Rattle.std.proofs.Common.{◌≡◌, ◌≢◌, ℕ, Bool, true, false, not, ◌&&◌, ◌||◌, inl, inr, refl, sym, ◌∙◌, List, [], ◌∷◌, ◌++◌, Some}
use Rattle.std.proofs.Math.Bool.{or_assoc}
use Rattle.std.proofs.lemmas.Bool.{and_parts, and_from, and_cases, or_parts, or_cases, or_left, or_right, cases_Bool, both_ways, not-true, not-false, not_from_false, false_from_ne_true}
use Rattle.std.proofs.lemmas.Slice.Eq.{bytes_eq-Decides}
use Rattle.std.specs.Prelude.{bytes_eq, Contains}
use Rattle.std.specs.List.{list_any}
use Rattle.gix_pathspec.specs.Bytes.{slash, is_empty, fold_case}
use Rattle.gix_pathspec.specs.Paths.{IsBytes, IsBelow}
use Rattle.gix_pathspec.specs.Specs.{Spec, is_exclude, is_include, ignores_case, wants_directory, always_matches, has_wildcard, prefix_directory}
use Rattle.gix_pathspec.specs.Attributes.{Table}
use Rattle.gix_pathspec.specs.Matching.{is_in_prefix_directory, takes_kind, is_verbatim_match, is_prefix_match, fits, spec_matches, glob_matches}
use Rattle.gix_pathspec.specs.Plain.{has_one_case}
use Rattle.gix_pathspec.specs.Pruning.{reaches, can_match}
use Rattle.gix_pathspec.specs.SelectionLaws.{NoNilPrefix, SpecPathsAreBytes}
use Rattle.gix_pathspec.specs.Skipping.{fits_plainly, takes_whole, has_open_end, takes_rest, ignores_case_with, shadows, is_unshadowed, holds_nothing, may_skip}
use Rattle.gix_pathspec.specs.SkipLaws.{is_plain_spec, ArePlain, CaseAgrees, HoldsChosen, SkipIsExact}
use Rattle.gix_pathspec.proofs.ChosenProofs.{list_any-contained, contained_where}
use Rattle.gix_pathspec.proofs.MatchingProofs.{fitted_matches}
use Rattle.gix_pathspec.proofs.NotChosenProofs.{all_three}
use Rattle.gix_pathspec.proofs.SelectedProofs.{empty_is_nil, fits-from_spec_matches}
use Rattle.gix_pathspec.proofs.SharpPruningProofs.{Plain, plain_prefix, plain_fits, below-fits, always-fits, plain_reaches, plain-leads_to, rest_after, rest_after-bytes, folded-rest_after}
use Rattle.gix_pathspec.proofs.SkipProofs.{plainly-within, within-exclude, nothing_is_chosen}

-- ---- plain specs

-- what is known of a plain spec
record PlainSpec (s : Spec) : Type 0 where
  pub plain : Plain s
  pub no_attributes : is_empty s.attributes ≡ true

-- the test by its parts
plain_spec-parts : (s : Spec) → is_plain_spec s ≡ true → PlainSpec s
plain_spec-parts s h =
    let under = ignores_case s && not (is_empty (prefix_directory s)) in
    let p = all_three (not (has_wildcard s)) (not under) (is_empty s.attributes) h in
    record { plain = record { wild = not-true (has_wildcard s) p.0; prefix = not-true under p.1 }; no_attributes = p.2 }

-- a plain spec fits without a look at its glob what it fits
plain-plainly : (s : Spec) (x : List ℕ) (k : Bool) → Plain s → fits s x k ≡ true → fits_plainly s x k ≡ true
plain-plainly s x k p h =
    and_from (is_in_prefix_directory s x k) (always_matches s || is_verbatim_match s x k || is_prefix_match s x) (plain_prefix s x k p) (or_assoc (always_matches s) (is_verbatim_match s x k) (is_prefix_match s x) ∙ (sym (plain_fits s x k p) ∙ h))

-- a plain exclude ignores case in all of the path where it does so at all
plain_case : (e i : Spec) → Plain e → (ignores_case i ≡ true → ignores_case e ≡ true) → ignores_case_with e i ≡ true
plain_case e i p imp =
    let under = ignores_case e && not (is_empty (prefix_directory e)) in
    and_from (has_one_case e) (not (ignores_case i) || ignores_case e) (not_from_false under p.prefix) (elim (cases_Bool (ignores_case i)) [
      | inr n ↦ or_left (not (ignores_case i)) (ignores_case e) (not_from_false (ignores_case i) n)
      | inl t ↦ or_right (not (ignores_case i)) (ignores_case e) (imp t)
    ])

-- a plain include fits its path, as what it wants, case aside where it has none
path-fits : (i : Spec) (x : List ℕ) → Plain i → fold_case (ignores_case i) x ≡ fold_case (ignores_case i) i.path → fits i x (wants_directory i) ≡ true
path-fits i x p e =
    plain_fits i x (wants_directory i) p ∙ or_right (always_matches i) (is_verbatim_match i x (wants_directory i) || is_prefix_match i x) (or_left (is_verbatim_match i x (wants_directory i)) (is_prefix_match i x)
    (and_from (bytes_eq (fold_case (ignores_case i) x) (fold_case (ignores_case i) i.path)) (takes_kind i (wants_directory i)) ((bytes_eq-Decides (fold_case (ignores_case i) x) (fold_case (ignores_case i) i.path)).1 e) (wanted (wants_directory i))))
  where
    wanted : (b : Bool) → (not b || b) ≡ true
    wanted true = refl
    wanted false = refl

-- ---- exact

module _ (table : Table) (specs : List Spec) (d : List ℕ) (plain : ArePlain specs) (agree : CaseAgrees specs) where
  plain_of : (s : Spec) → Contains specs s → PlainSpec s
  plain_of s c = plain_spec-parts s (plain s c)

  -- plain specs have no glob that takes the rest
  no_rest : (e : Spec) → Contains specs e → takes_rest e d ≡ true → ⊥
  unfolding takes_rest
  no_rest e c h =
      let kept = is_in_prefix_directory e d true in
      let p = all_three (is_empty e.attributes && not (wants_directory e) && has_wildcard e && kept) (has_open_end e.mode e) (glob_matches e.mode e (d ++ slash ∷ [])) h in
      let q = and_parts (is_empty e.attributes && not (wants_directory e) && has_wildcard e) kept p.0 in
      both_ways (has_wildcard e) ((plain_of e c).plain.wild) (and_parts (is_empty e.attributes && not (wants_directory e)) (has_wildcard e) q.0).1

  -- so what may be skipped holds nothing
  skipped_holds_nothing : may_skip specs d ≡ true → holds_nothing specs d ≡ true
  unfolding may_skip
  skipped_holds_nothing h =
      let rest = λ (e : Spec). is_exclude e && takes_rest e d in
      elim (or_cases (holds_nothing specs d) (not (is_empty d) && list_any rest specs) h) [
        | inl t ↦ t
        | inr r ↦ let f = contained_where rest specs (and_parts (not (is_empty d)) (list_any rest specs) r).1 in absurd (no_rest f.0 f.1 (and_parts (is_exclude f.0) (takes_rest f.0 d) f.2).1)
      ]

  module _ (paths : SpecPathsAreBytes specs) (bytes : IsBytes d) where
    -- no exclude takes the directory whole
    abbrev IsFree : Type 0
    IsFree = list_any (λ e. is_exclude e && takes_whole e d) specs ≡ false

    -- so none matches it
    free_unmatched : IsFree → (e : Spec) → Contains specs e → is_exclude e ≡ true → spec_matches table e d true ≡ false
    unfolding takes_whole
    free_unmatched free e c x = false_from_ne_true (spec_matches table e d true) (λ m.
        let p = plain_of e c in
        both_ways (list_any (λ e. is_exclude e && takes_whole e d) specs) free (list_any-contained (λ e. is_exclude e && takes_whole e d) specs e c
        (and_from (is_exclude e) (takes_whole e d) x (and_from (is_empty e.attributes) (fits_plainly e d true) p.no_attributes (plain-plainly e d true p.plain (fits-from_spec_matches table e d true m))))))

    -- an include that fits it is enough
    chosen_itself : IsFree → (i : Spec) → Contains specs i → is_include i ≡ true → fits i d true ≡ true → HoldsChosen table specs d
    chosen_itself free i c n f = (
      d,
      true,
      bytes,
      inl (refl, refl),
      record { not_excluded = free_unmatched free; included = inl (i, c, n, sym (fitted_matches i (plain_of i c).no_attributes table d true) ∙ f) },
    )

    -- no exclude shadows the include
    abbrev IsUnshadowed : Spec → Type 0
    IsUnshadowed i = list_any (λ e. is_exclude e && shadows e i) specs ≡ false

    -- so none matches its path, case aside where the include has none
    unshadowed_unmatched : (i : Spec) (x : List ℕ) → Contains specs i → is_include i ≡ true → always_matches i ≡ false → IsUnshadowed i → fold_case (ignores_case i) x ≡ fold_case (ignores_case i) i.path
        → (e : Spec) → Contains specs e → is_exclude e ≡ true → spec_matches table e x (wants_directory i) ≡ false
    unfolding shadows
    unshadowed_unmatched i x ci n a free same e c y = false_from_ne_true (spec_matches table e x (wants_directory i)) (λ m.
        let p = plain_of e c in
        let k = wants_directory i in
        let with_case = plain_case e i p.plain (agree i e ci c n y) in
        let on_x = plain-plainly e x k p.plain (fits-from_spec_matches table e x k m) in
        let on_path = plainly-within e i.path k x k (within-exclude e i i.path k x k with_case (inl (sym same, λ t. t))) (plain_prefix e i.path k p.plain) on_x in
        let no_always = and_from (is_empty e.attributes) (not (always_matches i)) p.no_attributes (not_from_false (always_matches i) a) in
        let no_glob = and_from (is_empty e.attributes && not (always_matches i)) (not (has_wildcard i)) no_always (not_from_false (has_wildcard i) (plain_of i ci).plain.wild) in
        both_ways (list_any (λ e. is_exclude e && shadows e i) specs) free (list_any-contained (λ e. is_exclude e && shadows e i) specs e c
        (and_from (is_exclude e) (shadows e i) y (and_from (is_empty e.attributes && not (always_matches i) && not (has_wildcard i) && ignores_case_with e i) (fits_plainly e i.path k)
        (and_from (is_empty e.attributes && not (always_matches i) && not (has_wildcard i)) (ignores_case_with e i) no_glob with_case) on_path))))

    -- where its path lies below the directory, that path is chosen
    chosen_below : (i : Spec) → Contains specs i → is_include i ≡ true → always_matches i ≡ false → IsUnshadowed i → IsBelow (fold_case (ignores_case i) i.path) (fold_case (ignores_case i) d) → HoldsChosen table specs d
    chosen_below i c n a free w =
        let rest = rest_after (ignores_case i) d i.path in
        let x = d ++ slash ∷ rest in
        let same = folded-rest_after (ignores_case i) i.path d w in
        let p = plain_of i c in (
          x,
          wants_directory i,
          rest_after-bytes (ignores_case i) d i.path (paths i c) bytes,
          inr (rest, refl),
          record {
            not_excluded = unshadowed_unmatched i x c n a free same;
            included = inl (i, c, n, sym (fitted_matches i p.no_attributes table x (wants_directory i)) ∙ path-fits i x p.plain same);
          },
        )

    -- an include that reaches the directory, and that no exclude shadows, is enough
    chosen_by : IsFree → (i : Spec) → Contains specs i → is_include i ≡ true → IsUnshadowed i → reaches i d (Some true) ≡ true → HoldsChosen table specs d
    chosen_by free i c n u r =
        let p = plain_of i c in
        elim (cases_Bool (always_matches i)) [
          | inl a ↦ chosen_itself free i c n (always-fits i d true p.plain a)
          | inr a ↦ elim (plain-leads_to (fold_case (ignores_case i) i.path) (fold_case (ignores_case i) d) (sym (plain_reaches i d (Some true) p.plain (λ q. cc) a) ∙ r)) [
            | inl at ↦ chosen_itself free i c n (below-fits i d p.plain at)
            | inr under ↦ chosen_below i c n a u under
          ]
        ]

    -- without an include the directory itself is chosen
    chosen_alone : IsFree → list_any is_include specs ≡ false → HoldsChosen table specs d
    chosen_alone free n = (
      d,
      true,
      bytes,
      inl (refl, refl),
      record { not_excluded = free_unmatched free; included = inr (λ s c. not-false (is_exclude s) (false_from_ne_true (not (is_exclude s)) (λ i. both_ways (list_any is_include specs) n (list_any-contained is_include specs s c i)))) },
    )

    -- so something is chosen where a directory isn't said to hold nothing
    held : d ≢ [] → holds_nothing specs d ≡ false → HoldsChosen table specs d
    unfolding holds_nothing
    held filled h =
        let whole = λ (e : Spec). is_exclude e && takes_whole e d in
        let into = λ (i : Spec). is_unshadowed specs i && reaches i d (Some true) in
        let all_shadowed = list_any is_include specs && not (list_any into specs) in
        let one_of_these = not (can_match specs d (Some true)) || list_any whole specs || all_shadowed in
        let none_of_these : one_of_these ≡ false = elim (and_cases (not (is_empty d)) one_of_these h) [
          | inl e ↦ absurd (filled (empty_is_nil d (not-false (is_empty d) e)))
          | inr n ↦ n
        ] in
        let p = or_parts (not (can_match specs d (Some true)) || list_any whole specs) all_shadowed none_of_these in
        let free = (or_parts (not (can_match specs d (Some true))) (list_any whole specs) p.0).1 in
        elim (and_cases (list_any is_include specs) (not (list_any into specs)) p.1) [
          | inl n ↦ chosen_alone free n
          | inr y ↦
              let f = contained_where into specs (not-false (list_any into specs) y) in
              let l = and_parts (is_unshadowed specs f.0) (reaches f.0 d (Some true)) f.2 in
              let m = and_parts (is_include f.0) (not (list_any (λ e. is_exclude e && shadows e f.0) specs)) l.0 in
              chosen_by free f.0 f.1 m.0 (not-true (list_any (λ e. is_exclude e && shadows e f.0) specs) m.1) l.1
        ]

-- what may not be skipped isn't said to hold nothing
unskipped : (specs : List Spec) (d : List ℕ) → may_skip specs d ≡ false → holds_nothing specs d ≡ false
unfolding may_skip
unskipped specs d h = (or_parts (holds_nothing specs d) _ h).0

-- Of plain specs a walk may skip just the directories at and below which nothing is chosen.
pub skip_is_exact : (table : Table) (specs : List Spec) → NoNilPrefix specs → SpecPathsAreBytes specs → SkipIsExact table specs
skip_is_exact table specs no_nil paths plain agree d filled bytes = (
  λ h. held table specs d plain agree paths bytes filled (unskipped specs d h),
  λ t. false_from_ne_true (may_skip specs d) (λ h. nothing_is_chosen table specs no_nil d (skipped_holds_nothing table specs d plain agree h) t.0 t.1 t.3 t.4),
)
