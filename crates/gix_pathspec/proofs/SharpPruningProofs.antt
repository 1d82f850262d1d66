-- Of plain includes pruning says yes to just those directories at or below which an include takes a path.
use Rattle.std.proofs.Common.{◌≡◌, ◌≢◌, ℕ, ◌<◌, Bool, true, false, not, ◌&&◌, ◌||◌, ◌⊎◌, inl, inr, refl, sym, ◌∙◌, ap, List, [], ◌∷◌, ◌++◌, length, drop, Option, Some, None, cond, arith, append_assoc}
use Rattle.std.proofs.lemmas.Bool.{and_parts, and_from, or_left, or_right, cases_Bool, both_ways, not-true, not_from_false, true_from_ne_false}
use Rattle.std.proofs.lemmas.List.Elements.{All-append, All-cons, All-drop}
use Rattle.std.proofs.lemmas.Slice.Eq.{bytes_eq-Decides}
use Rattle.std.proofs.Math.Seq.{drop-append_seam}
use Rattle.std.specs.Prelude.{bytes_eq, is_some, IsTrue, Contains}
use Rattle.std.specs.List.{list_any}
use Rattle.gix_pathspec.specs.declared.search.MatchKind.TheVariants.{Always, Prefix, Verbatim}
use Rattle.gix_pathspec.specs.Attributes.{Table}
use Rattle.gix_pathspec.specs.Bytes.{slash, is_empty, fold_case}
use Rattle.gix_pathspec.specs.Matching.{is_in_prefix_directory, takes_kind, is_verbatim_match, is_prefix_match, fit, fits, spec_matches}
use Rattle.gix_pathspec.specs.Paths.{IsBytes, IsBelow, IsAtOrBelow, is_below}
use Rattle.gix_pathspec.specs.Plain.{is_plain, is_plain_but_for_attributes}
use Rattle.gix_pathspec.specs.Prefixes.{stem}
use Rattle.gix_pathspec.specs.Stems.{leads_to}
use Rattle.gix_pathspec.specs.Tables.{stem_reaches}
use Rattle.gix_pathspec.specs.Pruning.{reaches, is_total_exclude, can_match}
use Rattle.gix_pathspec.specs.PruningLaws.{HasOnlyIncludes, CanTake, PruningIsSharp, PruningIsSharpForFits}
use Rattle.gix_pathspec.specs.SelectionLaws.{SpecPathsAreBytes}
use Rattle.gix_pathspec.specs.Specs.{Spec, is_include, ignores_case, wants_directory, always_matches, has_wildcard, prefix_directory}
use Rattle.gix_pathspec.proofs.BeginsProofs.{folded-drop, folded-append, folded-slash, is_below-from_IsBelow, IsBelow-from_is_below, which_of_four}
use Rattle.gix_pathspec.proofs.MatchingProofs.{spec_matches-fits}
use Rattle.gix_pathspec.proofs.HeadProofs.{stem_is_path, not_nil}
use Rattle.gix_pathspec.proofs.PruningSafeProofs.{takes_only_below-else, pruning_is_safe}
use Rattle.gix_pathspec.proofs.PruningNearProofs.{can_match-parts}

-- ---- what a plain include is

-- what is known of a spec that is plain but for attributes
pub record Plain (s : Spec) : Type 0 where
  pub wild : has_wildcard s ≡ false
  pub prefix : (ignores_case s && not (is_empty (prefix_directory s))) ≡ false

-- the test by its parts
plain_parts : (s : Spec) → is_plain_but_for_attributes s ≡ true → Plain s
plain_parts s h =
    let q = and_parts (is_include s && not (has_wildcard s)) (not (ignores_case s && not (is_empty (prefix_directory s)))) h in
    let r = and_parts (is_include s) (not (has_wildcard s)) q.0 in
    record { wild = not-true (has_wildcard s) r.1; prefix = not-true (ignores_case s && not (is_empty (prefix_directory s))) q.1 }

-- it asks for no prefix directory
pub plain_prefix : (s : Spec) (x : List ℕ) (is_dir : Bool) → Plain s → is_in_prefix_directory s x is_dir ≡ true
plain_prefix s x is_dir h = elim (cases_Bool (ignores_case s)) [
  | inr n ↦ rw n refl
  | inl i ↦ elim (cases_Bool (is_empty (prefix_directory s))) [
    | inl e ↦ rw (i, e) refl
    | inr n ↦ absurd (both_ways (ignores_case s && not (is_empty (prefix_directory s))) h.prefix (and_from (ignores_case s) (not (is_empty (prefix_directory s))) i (not_from_false (is_empty (prefix_directory s)) n)))
  ]
]

-- ---- what it fits

-- the tests that are left where there is no wildcard
pub plain_fits : (s : Spec) (x : List ℕ) (is_dir : Bool) → Plain s → fits s x is_dir ≡ (always_matches s || (is_verbatim_match s x is_dir || is_prefix_match s x))
unfolding fit
plain_fits s x is_dir h = rw (plain_prefix s x is_dir h, h.wild) (by_tests (always_matches s) (is_verbatim_match s x is_dir) (is_prefix_match s x))
  where
    by_tests : (a v p : Bool) → is_some (cond a (Some Always) (cond v (Some Verbatim) (cond p (Some Prefix) None))) ≡ (a || (v || p))
    by_tests true v p = refl
    by_tests false true p = refl
    by_tests false false true = refl
    by_tests false false false = refl

-- it fits a directory at or below its path, without case where it has none
pub below-fits : (s : Spec) (x : List ℕ) → Plain s → IsAtOrBelow (fold_case (ignores_case s) x) (fold_case (ignores_case s) s.path) → fits s x true ≡ true
below-fits s x h (inl e) =
    plain_fits s x true h ∙ or_right (always_matches s) (is_verbatim_match s x true || is_prefix_match s x) (or_left (is_verbatim_match s x true) (is_prefix_match s x)
    (and_from (bytes_eq (fold_case (ignores_case s) x) (fold_case (ignores_case s) s.path)) (takes_kind s true) ((bytes_eq-Decides (fold_case (ignores_case s) x) (fold_case (ignores_case s) s.path)).1 e) (or_right (not (wants_directory s)) true refl)))
below-fits s x h (inr b) =
    plain_fits s x true h ∙ or_right (always_matches s) (is_verbatim_match s x true || is_prefix_match s x) (or_right (is_verbatim_match s x true) (is_prefix_match s x) (is_below-from_IsBelow (fold_case (ignores_case s) x) (fold_case (ignores_case s) s.path) b))

-- an include that always matches fits each path
pub always-fits : (s : Spec) (x : List ℕ) (is_dir : Bool) → Plain s → always_matches s ≡ true → fits s x is_dir ≡ true
always-fits s x is_dir h a = plain_fits s x is_dir h ∙ or_left (always_matches s) (is_verbatim_match s x is_dir || is_prefix_match s x) a

-- ---- what it reaches

-- a stem without a wildcard leads only to what lies at or below it, and to what it lies below
pub plain-leads_to : (stem d : List ℕ) → leads_to stem false d ≡ true → IsAtOrBelow d stem ⊎ IsBelow stem d
plain-leads_to stem d h = elim (which_of_four (is_below stem d) (bytes_eq d stem) (is_below d stem) false h) [
  | inl b ↦ inr (IsBelow-from_is_below stem d b)
  | inr w ↦ elim w [
    | inl e ↦ inl (inl ((bytes_eq-Decides d stem).0 e))
    | inr w ↦ elim w [
      | inl b ↦ inl (inr (IsBelow-from_is_below d stem b))
      | inr f ↦ absurd (both_ways false refl f)
    ]
  ]
]

-- so it reaches what always matches, or what its path leads to
pub plain_reaches : (s : Spec) (d : List ℕ) (asked : Option Bool) → Plain s → asked ≢ Some false → always_matches s ≡ false → reaches s d asked ≡ leads_to (fold_case (ignores_case s) s.path) false (fold_case (ignores_case s) d)
unfolding reaches stem_reaches
plain_reaches s d asked h n m = rw (m, takes_only_below-else s asked n, stem_is_path s (not_nil s m) h.wild, h.wild) refl

-- ---- below a path, without case

-- what stands in x after the folded d and its slash
abbrev pub rest_after : Bool → List ℕ → List ℕ → List ℕ
rest_after f d x = drop (length (fold_case f d ++ slash ∷ [])) x

-- what stands after a front of the folded text, folded
folded-drop_front : (f : Bool) (u v x : List ℕ) → fold_case f x ≡ u ++ v → fold_case f (drop (length u) x) ≡ v
folded-drop_front f u v x e = folded-drop f (length u) x ∙ (ap (drop (length u)) e ∙ drop-append_seam u v)

-- a path that lies below d without case is one below d, without case
pub folded-rest_after : (f : Bool) (x d : List ℕ) → IsBelow (fold_case f x) (fold_case f d) → fold_case f (d ++ slash ∷ rest_after f d x) ≡ fold_case f x
folded-rest_after f x d h =
    folded-append f d (slash ∷ rest_after f d x)
    ∙ (ap (λ t. fold_case f d ++ t) (folded-slash f (rest_after f d x))
    ∙ (ap (λ t. fold_case f d ++ slash ∷ t) (folded-drop_front f (fold_case f d ++ slash ∷ []) h.0 x (h.1 ∙ sym (append_assoc (fold_case f d) (slash ∷ []) h.0))) ∙ sym h.1))

-- which is made of bytes where both paths are
pub rest_after-bytes : (f : Bool) (d x : List ℕ) → IsBytes x → IsBytes d → IsBytes (d ++ slash ∷ rest_after f d x)
rest_after-bytes f d x b c = All-append (λ b. b < 256) d (slash ∷ rest_after f d x) c (All-cons (λ b. b < 256) slash (rest_after f d x) (omega arith) (All-drop (λ b. b < 256) (length (fold_case f d ++ slash ∷ [])) x b))

-- ---- from reaching to taking

-- a path at d or below it, made of bytes, that the spec takes
abbrev TakesSome : (List ℕ → Bool → Bool) → List ℕ → Type 0
TakesSome takes d = (path : List ℕ) × (is_dir : Bool) × IsBytes path × ((path ≡ d) × IsTrue is_dir ⊎ IsBelow path d) × IsTrue (takes path is_dir)

-- where its path lies below d, a path of bytes below d is its path, case aside
taken_below : (s : Spec) (d : List ℕ) → Plain s → IsBytes s.path → IsBytes d → IsBelow (fold_case (ignores_case s) s.path) (fold_case (ignores_case s) d) → TakesSome (fits s) d
taken_below s d h b c w =
    let rest = rest_after (ignores_case s) d s.path in (
      d ++ slash ∷ rest,
      true,
      rest_after-bytes (ignores_case s) d s.path b c,
      inr (rest, refl),
      below-fits s (d ++ slash ∷ rest) h (inl (folded-rest_after (ignores_case s) s.path d w)),
    )

-- what it reaches, it takes at or below
reached_taken : (s : Spec) (d : List ℕ) (asked : Option Bool) → Plain s → IsBytes s.path → IsBytes d → asked ≢ Some false → reaches s d asked ≡ true → TakesSome (fits s) d
reached_taken s d asked h b c n r = elim (cases_Bool (always_matches s)) [
  | inl a ↦ (d, true, c, inl (refl, refl), always-fits s d true h a)
  | inr m ↦ elim (plain-leads_to (fold_case (ignores_case s) s.path) (fold_case (ignores_case s) d) (sym (plain_reaches s d asked h n m) ∙ r)) [
    | inl w ↦ (d, true, c, inl (refl, refl), below-fits s d h w)
    | inr w ↦ taken_below s d h b c w
  ]
]

-- ---- sharp

-- the includes are plain but for attributes, the paths are bytes, and of the includes the test says what fits
record AsFits (takes : Spec → List ℕ → Bool → Bool) (specs : List Spec) : Type 0 where
  pub plain : (s : Spec) → Contains specs s → is_include s ≡ true → Plain s
  pub bytes : SpecPathsAreBytes specs
  pub same : (s : Spec) → Contains specs s → is_include s ≡ true → (x : List ℕ) (is_dir : Bool) → takes s x is_dir ≡ fits s x is_dir

-- from yes to a path that is taken
can_match-takes : (takes : Spec → List ℕ → Bool → Bool) (specs : List Spec) → AsFits takes specs → (d : List ℕ) (asked : Option Bool) → d ≢ [] → IsBytes d → asked ≢ Some false
    → IsTrue (can_match specs d asked) → CanTake takes specs d
can_match-takes takes specs w d asked n b k h =
    let q = can_match-parts specs d asked n h in (
      both_ways (list_any is_total_exclude specs) q.0,
      elim q.1 [
        | inl e ↦ inl (both_ways (list_any is_include specs) e)
        | inr r ↦
            let t = reached_taken r.0 d asked (w.plain r.0 r.1 r.2) (w.bytes r.0 r.1) b k r.3 in
            inr (r.0, r.1, r.2, t.0, t.1, t.2, t.3, w.same r.0 r.1 r.2 t.0 t.1 ∙ t.4)
      ],
    )

-- a path that is taken lies at d or below it
pub at_or_below : (x d : List ℕ) (is_dir : Bool) → (x ≡ d) × IsTrue is_dir ⊎ IsBelow x d → IsAtOrBelow x d
at_or_below x d is_dir (inl e) = inl e.0
at_or_below x d is_dir (inr b) = inr b

-- from a path that is taken to yes, since pruning is safe
takes-can_match : (takes : Spec → List ℕ → Bool → Bool) (specs : List Spec) → AsFits takes specs → (d : List ℕ) (asked : Option Bool) → asked ≢ Some false → CanTake takes specs d → IsTrue (can_match specs d asked)
takes-can_match takes specs w d asked k c = true_from_ne_false (can_match specs d asked) (λ no. elim (pruning_is_safe specs d asked k no) [
  | inl x ↦ c.0 x
  | inr u ↦ elim c.1 [
    | inl e ↦ e (u d true (inl refl)).0
    | inr t ↦ both_ways (fits t.0 t.3 t.4) ((u t.3 t.4 (at_or_below t.3 d t.4 t.6)).1 t.0 t.1 t.2) (sym (w.same t.0 t.1 t.2 t.3 t.4) ∙ t.7)
  ]
])

-- for `fits` itself
as_fits : (specs : List Spec) → SpecPathsAreBytes specs → HasOnlyIncludes is_plain_but_for_attributes specs → AsFits fits specs
as_fits specs bytes h = record { plain = λ s c i. plain_parts s (h s c i); bytes = bytes; same = λ s c i x is_dir. refl }

-- Pruning is sharp, with fits, for includes that are plain but for attributes, where paths are bytes.
pub pruning_is_sharp_for_fits : (specs : List Spec) → SpecPathsAreBytes specs → PruningIsSharpForFits specs
pruning_is_sharp_for_fits specs bytes h d asked n b k = (can_match-takes fits specs (as_fits specs bytes h) d asked n b k, takes-can_match fits specs (as_fits specs bytes h) d asked k)

-- for `spec_matches`, where there are no attributes
as_matches : (table : Table) (specs : List Spec) → SpecPathsAreBytes specs → HasOnlyIncludes is_plain specs → AsFits (spec_matches table) specs
as_matches table specs bytes h = record {
  plain = λ s c i. plain_parts s (and_parts (is_plain_but_for_attributes s) (is_empty s.attributes) (h s c i)).0;
  bytes = bytes;
  same = λ s c i x is_dir. sym (spec_matches-fits s x is_dir (fit s x is_dir) (and_parts (is_plain_but_for_attributes s) (is_empty s.attributes) (h s c i)).1 refl table);
}

-- Pruning is sharp for plain includes, where paths are bytes.
pub pruning_is_sharp : (table : Table) (specs : List Spec) → SpecPathsAreBytes specs → PruningIsSharp table specs
pruning_is_sharp table specs bytes h d asked n b k = (can_match-takes (spec_matches table) specs (as_matches table specs bytes h) d asked n b k, takes-can_match (spec_matches table) specs (as_matches table specs bytes h) d asked k)
