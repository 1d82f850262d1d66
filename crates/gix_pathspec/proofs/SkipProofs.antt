-- Nothing below a directory that a walk may skip is chosen.
use Rattle.std.proofs.Common.{◌≡◌, ℕ, Bool, true, false, not, ◌&&◌, ◌||◌, ◌⊎◌, inl, inr, refl, sym, ◌∙◌, ap, subst, List, [], ◌∷◌, ◌++◌, Some, None, cond, append_assoc}
use Rattle.std.proofs.lemmas.Bool.{and_parts, and_from, or_parts, or_cases, or_left, or_right, cases_Bool, both_ways, not-true, not_from_false, true_from_ne_false}
use Rattle.std.proofs.lemmas.List.{append-nil}
use Rattle.std.proofs.lemmas.Slice.Eq.{bytes_eq-Decides}
use Rattle.std.specs.Prelude.{bytes_eq, is_some, Contains}
use Rattle.std.specs.List.{list_any}
use Rattle.pathspec_pattern.specs.declared.SearchMode.{SearchMode}
use Rattle.pathspec_pattern.specs.declared.SearchMode.TheVariants.{ShellGlob, Literal, PathAwareGlob}
use Rattle.gix_pathspec.specs.declared.search.MatchKind.TheVariants.{Always, Prefix, WildcardMatch, Verbatim}
use Rattle.pathspec_glob.specs.declared.Mode.{Mode}
use Rattle.pathspec_glob.specs.declared.Mode.TheVariants.{Shell, PathAware}
use Rattle.pathspec_glob.specs.declared.Case.{Case}
use Rattle.gix_pathspec.specs.Bytes.{slash, is_empty, fold_case}
use Rattle.gix_pathspec.specs.Paths.{is_below, IsBelow}
use Rattle.gix_pathspec.specs.Specs.{Spec, is_exclude, is_include, ignores_case, wants_directory, always_matches, has_wildcard, prefix_directory}
use Rattle.gix_pathspec.specs.Tokens.{Token, tokens}
use Rattle.gix_pathspec.specs.Tokens.Token.{One, Star}
use Rattle.gix_pathspec.specs.GlobRelation.{Matches, matches, IsPassedOver}
use Rattle.gix_pathspec.specs.GlobRelation.Matches.{none, one, star, deep, over}
use Rattle.gix_pathspec.specs.Attributes.{Table}
use Rattle.gix_pathspec.specs.Matching.{is_in_prefix_directory, case_of, glob_matches, takes_kind, is_glob_match, is_verbatim_match, is_prefix_match, fit, fits, spec_matches, IsChosen}
use Rattle.gix_pathspec.specs.Plain.{has_one_case}
use Rattle.gix_pathspec.specs.Pruning.{reaches, can_match}
use Rattle.gix_pathspec.specs.SelectionLaws.{NoNilPrefix}
use Rattle.pathspec_glob.specs.OpenEnds.{is_any_run, is_open}
use Rattle.gix_pathspec.specs.Skipping.{fits_plainly, takes_whole, has_open_end, takes_rest, ignores_case_with, shadows, is_unshadowed, holds_nothing, may_skip}
use Rattle.gix_pathspec.specs.SkipLaws.{IsInside, SkippedIsNotChosen, NothingIsChosen, SkippedStays, SkipsMore}
use Rattle.gix_pathspec.proofs.BeginsProofs.{one_of_four, which_of_four, is_below-from_IsBelow, IsBelow-from_is_below, folded-append, folded-slash}
use Rattle.gix_pathspec.proofs.ChosenProofs.{list_any-contained, contained_where}
use Rattle.gix_pathspec.proofs.HeadProofs.{fits-ways, first_two}
use Rattle.gix_pathspec.proofs.MatchingProofs.{fitted_matches}
use Rattle.gix_pathspec.proofs.NotChosenProofs.{all_three, pruned_is_not_chosen}
use Rattle.gix_pathspec.proofs.PruningSafeProofs.{reaches-dir}
use Rattle.gix_pathspec.proofs.SelectedProofs.{fits-from_spec_matches, no_include_from_excludes}
use Rattle.gix_pathspec.proofs.SharpPruningProofs.{at_or_below}
use Rattle.pathspec_glob.proofs.GlobProofs.{glob_is_relation}

-- ---- an open end takes whatever follows

-- an open end of tokens is that of the later ones, where the first doesn't take any bytes
later_open : (t : Token) (ts : List Token) → is_any_run t ≡ false → is_open (t ∷ ts) ≡ true → is_open ts ≡ true
later_open t [] n h = absurd (both_ways (is_any_run t) n h)
later_open t (u ∷ us) n h = h

-- a token that is passed over takes one byte
passed_is_byte : (mode : Mode) (t : Token) → IsPassedOver mode t → is_any_run t ≡ false
passed_is_byte Shell t p = absurd p
passed_is_byte PathAware t p = ap is_any_run p

-- what tokens with an open end match, they match with any text behind it
open_more : {mode : Mode} {case : Case} {ts : List Token} {text : List ℕ} (more : List ℕ) → Matches mode case ts text → is_open ts ≡ true → Matches mode case ts (text ++ more)
open_more more none h = cc
open_more more (one {single = s} {ts = ts} p m) h = one p (open_more more m (later_open (One s) ts refl h))
open_more more (star {ts = ts} u v e n m) h = star u (v ++ more) (ap (λ t. t ++ more) e ∙ append_assoc u v more) n (open_more more m (later_open Star ts refl h))
open_more {text = text} more (deep {ts = []} u v e m) h = deep (text ++ more) [] (sym (append-nil (text ++ more))) none
open_more more (deep {ts = t ∷ ts} u v e m) h = deep u (v ++ more) (ap (λ t. t ++ more) e ∙ append_assoc u v more) (open_more more m h)
open_more {mode = mode} more (over {t = t} {ts = ts} p m) h = over p (open_more more m (later_open t ts (passed_is_byte mode t p) h))

-- the same of the test
matches_more : (mode : Mode) (case : Case) (ts : List Token) (text more : List ℕ) → is_open ts ≡ true → matches mode case ts text ≡ true → matches mode case ts (text ++ more) ≡ true
matches_more mode case ts text more o h = (glob_is_relation mode case ts (text ++ more)).1 (open_more more ((glob_is_relation mode case ts text).0 h) o)

-- the same in each search mode
glob_more : (m : SearchMode) (s : Spec) (text more : List ℕ) → has_open_end m s ≡ true → glob_matches m s text ≡ true → glob_matches m s (text ++ more) ≡ true
glob_more ShellGlob s text more o h = matches_more Shell (case_of s) (tokens Shell s.path) text more o h
glob_more Literal s text more o h = h
glob_more PathAwareGlob s text more o h = matches_more PathAware (case_of s) (tokens PathAware s.path) text more o h

-- ---- within

-- y is x or lies below it, case aside where f says so; where it is x, it is a directory (k) if x is one (j)
abbrev pub LiesWithin : Bool → List ℕ → Bool → List ℕ → Bool → Type 0
LiesWithin f y k x j = ((fold_case f y ≡ fold_case f x) × (j ≡ true → k ≡ true)) ⊎ IsBelow (fold_case f y) (fold_case f x)

-- what lies below what lies below e lies below e
below-through : (x d e : List ℕ) → IsBelow x d → IsBelow d e → IsBelow x e
below-through x d e p q = (q.0 ++ slash ∷ p.0, p.1 ∙ (ap (λ t. t ++ slash ∷ p.0) q.1 ∙ append_assoc e (slash ∷ q.0) (slash ∷ p.0)))

-- what lies within x does so case aside too
within-folded : (f : Bool) (y : List ℕ) (k : Bool) (x : List ℕ) (j : Bool) → LiesWithin false y k x j → LiesWithin f y k x j
within-folded f y k x j (inl e) = inl (ap (fold_case f) e.0, e.1)
within-folded f y k x j (inr b) = inr (fold_case f b.0, ap (fold_case f) b.1 ∙ (folded-append f x (slash ∷ b.0) ∙ ap (λ t. fold_case f x ++ t) (folded-slash f b.0)))

-- what is inside a directory lies within it
within-inside : (y : List ℕ) (k : Bool) (d : List ℕ) → IsInside y k d → LiesWithin false y k d true
within-inside y k d (inl e) = inl (e.0, λ t. e.1)
within-inside y k d (inr b) = inr b

-- what lies within x is in the prefix directory where x is
keeps_within : (s : Spec) (y : List ℕ) (k : Bool) (x : List ℕ) (j : Bool) → LiesWithin false y k x j → is_in_prefix_directory s x j ≡ true → is_in_prefix_directory s y k ≡ true
keeps_within s y k x j at h =
    let q = prefix_directory s in
    let to = one_of_four (not (ignores_case s)) (is_empty q) (is_below y q) (bytes_eq y q && k) in
    elim (which_of_four (not (ignores_case s)) (is_empty q) (is_below x q) (bytes_eq x q && j) h) [
      | inl c ↦ to (inl c)
      | inr w ↦ elim w [
        | inl e ↦ to (inr (inl e))
        | inr w ↦ elim w [
          | inl b ↦
              let under = IsBelow-from_is_below x q b in
              to (inr (inr (inl (is_below-from_IsBelow y q (elim at [ inl e ↦ subst (λ t. IsBelow t q) (sym e.0) under | inr c ↦ below-through y x q c under ])))))
          | inr v ↦
              let p = and_parts (bytes_eq x q) j v in
              let same = (bytes_eq-Decides x q).0 p.0 in
              elim at [
                | inl e ↦ to (inr (inr (inr (and_from (bytes_eq y q) k ((bytes_eq-Decides y q).1 (e.0 ∙ same)) (e.1 p.1)))))
                | inr c ↦ to (inr (inr (inl (is_below-from_IsBelow y q (subst (IsBelow y) same c)))))
              ]
        ]
      ]
    ]

-- ---- fitting without a look at the glob

-- one of three tests
one_of_three : (a b c : Bool) → (a ≡ true) ⊎ ((b ≡ true) ⊎ (c ≡ true)) → (a || b || c) ≡ true
one_of_three true b c h = refl
one_of_three false true c h = refl
one_of_three false false true h = refl
one_of_three false false false h = elim h [ inl p ↦ p | inr p ↦ elim p [ inl q ↦ q | inr q ↦ q ] ]

-- or which of them
which_of_three : (a b c : Bool) → (a || b || c) ≡ true → (a ≡ true) ⊎ ((b ≡ true) ⊎ (c ≡ true))
which_of_three true b c h = inl refl
which_of_three false true c h = inr (inl refl)
which_of_three false false c h = inr (inr h)

-- a path fits where the prefix directory is kept and one of the ways holds
some_way : (k a g v p : Bool) → k ≡ true → (a || g || v || p) ≡ true → is_some (cond k (cond a (Some Always) (cond g (Some WildcardMatch) (cond v (Some Verbatim) (cond p (Some Prefix) None)))) None) ≡ true
some_way true true g v p e h = refl
some_way true false true v p e h = refl
some_way true false false true p e h = refl
some_way true false false false true e h = refl
some_way true false false false false e h = h
some_way false a g v p e h = cc

-- so does a spec
fits-from_ways : (s : Spec) (x : List ℕ) (k : Bool) → is_in_prefix_directory s x k ≡ true
    → (always_matches s ≡ true) ⊎ ((is_glob_match s x k ≡ true) ⊎ ((is_verbatim_match s x k ≡ true) ⊎ (is_prefix_match s x ≡ true))) → fits s x k ≡ true
unfolding fit
fits-from_ways s x k e h =
    some_way (is_in_prefix_directory s x k) (always_matches s) (is_glob_match s x k) (is_verbatim_match s x k) (is_prefix_match s x) e (one_of_four (always_matches s) (is_glob_match s x k) (is_verbatim_match s x k) (is_prefix_match s x) h)

-- what fits without a look at the glob keeps the prefix directory, and one of three ways holds
plainly-ways : (s : Spec) (x : List ℕ) (k : Bool) → fits_plainly s x k ≡ true → (is_in_prefix_directory s x k ≡ true) × ((always_matches s ≡ true) ⊎ ((is_verbatim_match s x k ≡ true) ⊎ (is_prefix_match s x ≡ true)))
plainly-ways s x k h =
    let q = and_parts (is_in_prefix_directory s x k) (always_matches s || is_verbatim_match s x k || is_prefix_match s x) h in
    (q.0, which_of_three (always_matches s) (is_verbatim_match s x k) (is_prefix_match s x) q.1)

-- it fits
pub plainly-fits : (s : Spec) (x : List ℕ) (k : Bool) → fits_plainly s x k ≡ true → fits s x k ≡ true
plainly-fits s x k h =
    let q = plainly-ways s x k h in
    fits-from_ways s x k q.0 (elim q.1 [
      | inl a ↦ inl a
      | inr w ↦ inr (inr w)
    ])

-- what counts as a directory where it did
kind_moves : (s : Spec) (j k : Bool) → (j ≡ true → k ≡ true) → takes_kind s j ≡ true → takes_kind s k ≡ true
kind_moves s j k imp h = elim (or_cases (not (wants_directory s)) j h) [
  | inl n ↦ or_left (not (wants_directory s)) k n
  | inr e ↦ or_right (not (wants_directory s)) k (imp e)
]

-- A spec that fits x without a look at its glob fits so what lies within x, case aside where it has none, if the prefix directory is kept.
pub plainly-within : (s : Spec) (y : List ℕ) (k : Bool) (x : List ℕ) (j : Bool) → LiesWithin (ignores_case s) y k x j → is_in_prefix_directory s y k ≡ true → fits_plainly s x j ≡ true → fits_plainly s y k ≡ true
plainly-within s y k x j at e h =
    let f = ignores_case s in
    let to : (always_matches s ≡ true) ⊎ ((is_verbatim_match s y k ≡ true) ⊎ (is_prefix_match s y ≡ true)) → fits_plainly s y k ≡ true
    = λ w. and_from (is_in_prefix_directory s y k) (always_matches s || is_verbatim_match s y k || is_prefix_match s y) e (one_of_three (always_matches s) (is_verbatim_match s y k) (is_prefix_match s y) w) in
    elim (plainly-ways s x j h).1 [
      | inl a ↦ to (inl a)
      | inr w ↦ elim w [
        | inl v ↦
            let p = and_parts (bytes_eq (fold_case f x) (fold_case f s.path)) (takes_kind s j) v in
            let same = (bytes_eq-Decides (fold_case f x) (fold_case f s.path)).0 p.0 in
            elim at [
              | inl i ↦ to (inr (inl (and_from (bytes_eq (fold_case f y) (fold_case f s.path)) (takes_kind s k) ((bytes_eq-Decides (fold_case f y) (fold_case f s.path)).1 (i.0 ∙ same)) (kind_moves s j k i.1 p.1))))
              | inr b ↦ to (inr (inr (is_below-from_IsBelow (fold_case f y) (fold_case f s.path) (subst (IsBelow (fold_case f y)) same b))))
            ]
        | inr b ↦
            let under = IsBelow-from_is_below (fold_case f x) (fold_case f s.path) b in
            to (inr (inr (is_below-from_IsBelow (fold_case f y) (fold_case f s.path) (elim at [
              | inl i ↦ subst (λ t. IsBelow t (fold_case f s.path)) (sym i.0) under
              | inr c ↦ below-through (fold_case f y) (fold_case f x) (fold_case f s.path) c under
            ]))))
      ]
    ]

-- ---- a directory taken whole

-- what takes a directory whole matches all that is inside it
whole-matches : (table : Table) (s : Spec) (d y : List ℕ) (k : Bool) → takes_whole s d ≡ true → IsInside y k d → spec_matches table s y k ≡ true
unfolding takes_whole
whole-matches table s d y k h at =
    let q = and_parts (is_empty s.attributes) (fits_plainly s d true) h in
    let w = within-inside y k d at in
    sym (fitted_matches s q.0 table y k) ∙ plainly-fits s y k (plainly-within s y k d true (within-folded (ignores_case s) y k d true w) (keeps_within s y k d true w (plainly-ways s d true q.1).0) q.1)

-- ---- the rest of a directory

-- what takes the rest of a directory matches all below it
rest-matches : (table : Table) (s : Spec) (d y : List ℕ) (k : Bool) → takes_rest s d ≡ true → IsBelow y d → spec_matches table s y k ≡ true
unfolding takes_rest
rest-matches table s d y k h b =
    let kept = is_in_prefix_directory s d true in
    let globbed = glob_matches s.mode s (d ++ slash ∷ []) in
    let p = all_three (is_empty s.attributes && not (wants_directory s) && has_wildcard s && kept) (has_open_end s.mode s) globbed h in
    let q = and_parts (is_empty s.attributes && not (wants_directory s) && has_wildcard s) kept p.0 in
    let r = all_three (is_empty s.attributes) (not (wants_directory s)) (has_wildcard s) q.0 in
    let in_y : glob_matches s.mode s y ≡ true = subst (λ (t : List ℕ). glob_matches s.mode s t ≡ true) (append_assoc d (slash ∷ []) b.0 ∙ sym b.1) (glob_more s.mode s (d ++ slash ∷ []) b.0 p.1 p.2) in
    let by_glob = and_from (has_wildcard s && glob_matches s.mode s y) (takes_kind s k) (and_from (has_wildcard s) (glob_matches s.mode s y) r.2 in_y) (or_left (not (wants_directory s)) k r.1) in
    sym (fitted_matches s r.0 table y k) ∙ fits-from_ways s y k (keeps_within s y k d true (inr b) q.1) (inr (inl by_glob))

-- ---- a shadowed include

-- where the include ignores case, the exclude has no prefix directory and ignores it too; else case counts for the include
case_ways : (e i : Spec) → ignores_case_with e i ≡ true → (ignores_case i ≡ false) ⊎ ((ignores_case e ≡ ignores_case i) × (is_empty (prefix_directory e) ≡ true))
case_ways e i c =
    let under = ignores_case e && not (is_empty (prefix_directory e)) in
    let p = and_parts (has_one_case e) (not (ignores_case i) || ignores_case e) c in
    elim (cases_Bool (ignores_case i)) [
      | inr n ↦ inl n
      | inl t ↦ elim (or_cases (not (ignores_case i)) (ignores_case e) p.1) [
        | inl n ↦ inl (not-true (ignores_case i) n)
        | inr q ↦ inr (q ∙ sym t, true_from_ne_false (is_empty (prefix_directory e)) (λ n. both_ways under (not-true under p.0) (and_from (ignores_case e) (not (is_empty (prefix_directory e))) q (not_from_false (is_empty (prefix_directory e)) n))))
      ]
    ]

-- what lies within x as the include sees it does so as the exclude sees it
pub within-exclude : (e i : Spec) (y : List ℕ) (k : Bool) (x : List ℕ) (j : Bool) → ignores_case_with e i ≡ true → LiesWithin (ignores_case i) y k x j → LiesWithin (ignores_case e) y k x j
within-exclude e i y k x j c at = elim (case_ways e i c) [
  | inl n ↦ within-folded (ignores_case e) y k x j (subst (λ f. LiesWithin f y k x j) n at)
  | inr q ↦ subst (λ f. LiesWithin f y k x j) (sym q.0) at
]

-- and it is in the exclude's prefix directory where x is
keeps_exclude : (e i : Spec) (y : List ℕ) (k : Bool) (x : List ℕ) (j : Bool) → ignores_case_with e i ≡ true → LiesWithin (ignores_case i) y k x j → is_in_prefix_directory e x j ≡ true → is_in_prefix_directory e y k ≡ true
keeps_exclude e i y k x j c at h = elim (case_ways e i c) [
  | inl n ↦ keeps_within e y k x j (subst (λ f. LiesWithin f y k x j) n at) h
  | inr q ↦ one_of_four (not (ignores_case e)) (is_empty (prefix_directory e)) (is_below y (prefix_directory e)) (bytes_eq y (prefix_directory e) && k) (inr (inl q.1))
]

-- what an include without a wildcard fits lies within its path, taken as what the include wants
within-path : (i : Spec) (x : List ℕ) (k : Bool) → always_matches i ≡ false → has_wildcard i ≡ false → fits i x k ≡ true → LiesWithin (ignores_case i) x k i.path (wants_directory i)
within-path i x k a w h =
    let f = ignores_case i in
    elim (fits-ways i x k h).1 [
      | inl t ↦ absurd (both_ways (always_matches i) a t)
      | inr q ↦ elim q [
        | inl g ↦ absurd (both_ways (has_wildcard i) w (first_two (has_wildcard i) (glob_matches i.mode i x) (takes_kind i k) g).0)
        | inr q ↦ elim q [
          | inl v ↦
              let p = and_parts (bytes_eq (fold_case f x) (fold_case f i.path)) (takes_kind i k) v in
              inl ((bytes_eq-Decides (fold_case f x) (fold_case f i.path)).0 p.0, λ t. elim (or_cases (not (wants_directory i)) k p.1) [ inl n ↦ absurd (both_ways (wants_directory i) (not-true (wants_directory i) n) t) | inr e ↦ e ])
          | inr b ↦ inr (IsBelow-from_is_below (fold_case f x) (fold_case f i.path) b)
        ]
      ]
    ]

-- so an exclude that shadows an include matches all that the include fits
shadowed-matches : (table : Table) (e i : Spec) (x : List ℕ) (k : Bool) → shadows e i ≡ true → fits i x k ≡ true → spec_matches table e x k ≡ true
unfolding shadows
shadowed-matches table e i x k h g =
    let j = wants_directory i in
    let p = all_three (is_empty e.attributes && not (always_matches i) && not (has_wildcard i)) (ignores_case_with e i) (fits_plainly e i.path j) h in
    let q = all_three (is_empty e.attributes) (not (always_matches i)) (not (has_wildcard i)) p.0 in
    let at = within-path i x k (not-true (always_matches i) q.1) (not-true (has_wildcard i) q.2) g in
    sym (fitted_matches e q.0 table x k) ∙ plainly-fits e x k (plainly-within e x k i.path j (within-exclude e i x k i.path j p.1 at) (keeps_exclude e i x k i.path j p.1 at (plainly-ways e i.path j p.2).0) p.2)

-- ---- safe

-- what an exclude matches is not chosen
excluded_not_chosen : (table : Table) (specs : List Spec) (e : Spec) (x : List ℕ) (k : Bool) → Contains specs e → is_exclude e ≡ true → spec_matches table e x k ≡ true → IsChosen table specs x k → ⊥
excluded_not_chosen table specs e x k c is m h = both_ways (spec_matches table e x k) (h.not_excluded e c is) m

-- Nothing at or below a directory that holds nothing is chosen.
pub nothing_is_chosen : (table : Table) (specs : List Spec) → NoNilPrefix specs → NothingIsChosen table specs
unfolding holds_nothing
nothing_is_chosen table specs no_nil d h x k at c =
    let whole = λ (e : Spec). is_exclude e && takes_whole e d in
    let shadowing = λ (i : Spec). λ (e : Spec). is_exclude e && shadows e i in
    let into = λ (i : Spec). is_unshadowed specs i && reaches i d (Some true) in
    let below = at_or_below x d k at in
    let all_shadowed = list_any is_include specs && not (list_any into specs) in
    let held = (and_parts (not (is_empty d)) (not (can_match specs d (Some true)) || list_any whole specs || all_shadowed) h).1 in
    elim (which_of_three (not (can_match specs d (Some true))) (list_any whole specs) all_shadowed held) [
      | inl n ↦ pruned_is_not_chosen table specs no_nil d (Some true) (λ q. cc) (not-true (can_match specs d (Some true)) n) x k below c
      | inr w ↦ elim w [
        | inl e ↦
            let f = contained_where whole specs e in
            let p = and_parts (is_exclude f.0) (takes_whole f.0 d) f.2 in
            excluded_not_chosen table specs f.0 x k f.1 p.0 (whole-matches table f.0 d x k p.1 at) c
        | inr b ↦
            let q = and_parts (list_any is_include specs) (not (list_any into specs)) b in
            elim c.included [
              | inr all ↦ both_ways (list_any is_include specs) (no_include_from_excludes specs all) q.0
              | inl m ↦
                  let g = fits-from_spec_matches table m.0 x k m.3 in
                  let r = reaches-dir m.0 d x k (Some true) (λ q. cc) below g in
                  elim (cases_Bool (list_any (shadowing m.0) specs)) [
                    | inl t ↦
                        let f = contained_where (shadowing m.0) specs t in
                        let p = and_parts (is_exclude f.0) (shadows f.0 m.0) f.2 in
                        excluded_not_chosen table specs f.0 x k f.1 p.0 (shadowed-matches table f.0 m.0 x k p.1 g) c
                    | inr t ↦
                        both_ways (list_any into specs) (not-true (list_any into specs) q.1) (list_any-contained into specs m.0 m.1
                        (and_from (is_unshadowed specs m.0) (reaches m.0 d (Some true)) (and_from (is_include m.0) (not (list_any (shadowing m.0) specs)) m.2 (not_from_false (list_any (shadowing m.0) specs) t)) r))
                  ]
            ]
      ]
    ]

-- Nothing below a directory that may be skipped is chosen.
pub skipped_is_not_chosen : (table : Table) (specs : List Spec) → NoNilPrefix specs → SkippedIsNotChosen table specs
unfolding may_skip
skipped_is_not_chosen table specs no_nil d h x k below c =
    let rest = λ (e : Spec). is_exclude e && takes_rest e d in
    elim (or_cases (holds_nothing specs d) (not (is_empty d) && list_any rest specs) h) [
      | inl n ↦ nothing_is_chosen table specs no_nil d n x k (inr below) c
      | inr r ↦
          let f = contained_where rest specs (and_parts (not (is_empty d)) (list_any rest specs) r).1 in
          let p = and_parts (is_exclude f.0) (takes_rest f.0 d) f.2 in
          excluded_not_chosen table specs f.0 x k f.1 p.0 (rest-matches table f.0 d x k p.1 below) c
    ]

-- Nor is anything at or below what lies below it.
pub skipped_stays : (table : Table) (specs : List Spec) → NoNilPrefix specs → SkippedStays table specs
skipped_stays table specs no_nil d x h under y k at = skipped_is_not_chosen table specs no_nil d h y k (elim at [
  | inl e ↦ subst (λ t. IsBelow t d) (sym e.0) under
  | inr b ↦ below-through y x d b under
])

-- ---- wider

-- pruning says no only to a path that isn't empty
pruned_is_filled : (specs : List Spec) (d : List ℕ) → can_match specs d (Some true) ≡ false → is_empty d ≡ false
unfolding can_match
pruned_is_filled specs d h = (or_parts (is_empty specs) (is_empty d) (or_parts (is_empty specs || is_empty d) _ h).0).1

-- A directory that pruning says no to may be skipped.
pub skips_more : (specs : List Spec) → SkipsMore specs
unfolding holds_nothing may_skip
skips_more specs d h = rw (h, pruned_is_filled specs d h) refl
