-- What a reason tells of its spec.
use Rattle.std.proofs.Common.{◌≡◌, ℕ, Bool, true, false, not, ◌&&◌, ◌||◌, cond, refl, sym, ◌∙◌, ap, subst, List, [], ◌∷◌, ◌++◌, slice_get, inl, inr, Option, Some, None, IsTrue, IsFalse}
use Rattle.std.proofs.lemmas.Bool.{and_parts, both_ways, false_from_ne_true}
use Rattle.std.proofs.Math.Bool.{and-false}
use Rattle.std.specs.Prelude.{bytes_eq, IfSome, MatchOption}
use Rattle.gix_pathspec.specs.declared.search.MatchKind.{MatchKind}
use Rattle.gix_pathspec.specs.declared.search.MatchKind.TheVariants.{Always, Prefix, WildcardMatch, Verbatim}
use Rattle.gix_pathspec.specs.Bytes.{slash, is_empty, fold_case}
use Rattle.gix_pathspec.specs.Paths.{is_below}
use Rattle.gix_pathspec.specs.Attributes.{Table, Assignment}
use Rattle.gix_pathspec.specs.Specs.{Spec, ignores_case, wants_directory, always_matches, has_wildcard, is_glob, is_literal, prefix_directory}
use Rattle.gix_pathspec.specs.Matching.{fit, fits, is_in_prefix_directory, glob_matches, is_glob_match, is_verbatim_match, is_prefix_match, question, has_attributes, spec_matches}
use Rattle.gix_pathspec.specs.Prefixes.{stem}
use Rattle.gix_pathspec.proofs.BeginsProofs.{one_of_four}
use Rattle.gix_pathspec.proofs.MatchingProofs.{fit-lost}
use Rattle.pathspec_explain.specs.Parting.{PartsAt}
use Rattle.pathspec_explain.specs.Reasons.{IsReason, DifferAt, without_case, front_asked, is_match}
use Rattle.pathspec_explain.specs.declared.reason.Reason.{Reason}
use Rattle.pathspec_explain.specs.declared.reason.Reason.TheVariants.{Matches, OtherState, NoStates, OnlyDirectory, OutsidePrefix, WithoutCase, Parts, GlobFails}
use Rattle.pathspec_explain.proofs.StateProofs.{have_states-differ}

-- ---- whether the spec matches

-- one that fits in some way and has its attributes
matches-by : (table : Table) (s : Spec) (path : List ℕ) (is_dir : Bool) (kind : MatchKind) → fit s path is_dir ≡ Some kind → has_attributes table s path is_dir ≡ true → true ≡ spec_matches table s path is_dir
unfolding spec_matches
matches-by table s path is_dir kind f h = rw (f, h) refl

-- one that doesn't fit
unfitted : (table : Table) (s : Spec) (path : List ℕ) (is_dir : Bool) → fit s path is_dir ≡ None → false ≡ spec_matches table s path is_dir
unfolding spec_matches
unfitted table s path is_dir f = rw f refl

-- one that lacks an attribute
lacking : (table : Table) (s : Spec) (path : List ℕ) (is_dir : Bool) → has_attributes table s path is_dir ≡ false → false ≡ spec_matches table s path is_dir
unfolding spec_matches
lacking table s path is_dir h = rw h (sym (and-false (fits s path is_dir)))

-- where the reply has another state than is listed
other-lacks : (table : Table) (s : Spec) (path : List ℕ) (is_dir : Bool) (place : ℕ) → DifferAt (table (question s path is_dir)).states s.attributes place → has_attributes table s path is_dir ≡ false
unfolding has_attributes
other-lacks table s path is_dir place d = at s.attributes refl
  where
    at : (listed : List Assignment) → s.attributes ≡ listed → has_attributes table s path is_dir ≡ false
    at [] e = let no : None ≡ Some d.wanted = ap (λ (xs : List Assignment). slice_get xs place) (sym e) ∙ d.is_listed in cc
    at (a ∷ listed) e = let some : is_empty s.attributes ≡ false = ap (λ (xs : List Assignment). is_empty xs) e in rw (some, have_states-differ (table (question s path is_dir)).states s.attributes place d) (and-false (table (question s path is_dir)).found)

-- where there is no reply
unanswered-lacks : (table : Table) (s : Spec) (path : List ℕ) (is_dir : Bool) → is_empty s.attributes ≡ false → (table (question s path is_dir)).found ≡ false → has_attributes table s path is_dir ≡ false
unfolding has_attributes
unanswered-lacks table s path is_dir some none = rw (some, none) refl

pub reason-tells : (table : Table) (s : Spec) (path : List ℕ) (is_dir : Bool) (reason : Reason) → IsReason table s path is_dir reason → is_match reason ≡ spec_matches table s path is_dir
reason-tells table s path is_dir (Matches kind) h = matches-by table s path is_dir kind h.0 h.1
reason-tells table s path is_dir (OtherState place) h = lacking table s path is_dir (other-lacks table s path is_dir place h.2)
reason-tells table s path is_dir NoStates h = lacking table s path is_dir (unanswered-lacks table s path is_dir h.1 h.2)
reason-tells table s path is_dir (OnlyDirectory kind) h = unfitted table s path is_dir (subst (λ (d : Bool). fit s path d ≡ None) (sym h.0) h.1)
reason-tells table s path is_dir (OutsidePrefix at) h = unfitted table s path is_dir (sym (fit-lost s path is_dir h.0))
reason-tells table s path is_dir (WithoutCase kind) h = unfitted table s path is_dir h.1
reason-tells table s path is_dir (Parts at) h = unfitted table s path is_dir h.0
reason-tells table s path is_dir GlobFails h = unfitted table s path is_dir h.1

-- ---- a spec that fits a path neither as a file nor as a directory

-- none of the ways holds
no_way : (a g v p : Bool) → cond a (Some Always) (cond g (Some WildcardMatch) (cond v (Some Verbatim) (cond p (Some Prefix) None))) ≡ None → (g ≡ false) × (p ≡ false)
no_way true g v p h = cc
no_way false true v p h = cc
no_way false false true p h = cc
no_way false false false true h = cc
no_way false false false false h = (refl, refl)

module _ (s : Spec) (path : List ℕ) (unfit : fit s path true ≡ None) (inside : is_in_prefix_directory s path true ≡ true) where
  none_holds : (is_glob_match s path true ≡ false) × (is_prefix_match s path ≡ false)
  unfolding fit
  none_holds = no_way (always_matches s) (is_glob_match s path true) (is_verbatim_match s path true) (is_prefix_match s path) (rw inside at unfit)

  -- its glob doesn't match
  pub glob-fails : is_glob s ≡ true → glob_matches s.mode s path ≡ false
  glob-fails g = false_from_ne_true (glob_matches s.mode s path) (λ m.
      let w = (and_parts (has_wildcard s) (not (is_literal s.mode)) g).0 in
      let all : is_glob_match s path true ≡ true = rw (w, m) (takes_directory (wants_directory s)) in
      both_ways (is_glob_match s path true) none_holds.0 all)
    where
      takes_directory : (b : Bool) → (not b || true) ≡ true
      takes_directory true = refl
      takes_directory false = refl

  -- the path isn't below its path
  pub not_below : is_below (fold_case (ignores_case s) path) (fold_case (ignores_case s) s.path) ≡ true → ⊥
  not_below b = both_ways (is_prefix_match s path) none_holds.1 b

-- ---- the steps of an explanation

-- a way in which a spec for which case counts would fit without case
pub cased : (s t : Spec) (path : List ℕ) (is_dir : Bool) (r : Option MatchKind) → t ≡ without_case s → ignores_case s ≡ false → r ≡ fit t path is_dir → IfSome r (λ kind. IsFalse (ignores_case s) × (fit (without_case s) path is_dir ≡ Some kind))
cased s t path is_dir None same i e = tt
cased s t path is_dir (Some kind) same i e = (i, ap (λ x. fit x path is_dir) (sym same) ∙ sym e)

-- where a path parts from the prefix directory
pub outside : (s : Spec) (path : List ℕ) (is_dir : Bool) (r : Option ℕ) → is_in_prefix_directory s path is_dir ≡ false → MatchOption r (IsTrue (is_below path (prefix_directory s))) (PartsAt (prefix_directory s ++ slash ∷ []) path)
    → MatchOption r (is_in_prefix_directory s path is_dir ≡ true) (λ at. IsFalse (is_in_prefix_directory s path is_dir) × PartsAt (prefix_directory s ++ slash ∷ []) path at)
outside s path is_dir None lost h = one_of_four (not (ignores_case s)) (is_empty (prefix_directory s)) (is_below path (prefix_directory s)) (bytes_eq path (prefix_directory s) && is_dir) (inr (inr (inl h)))
outside s path is_dir (Some at) lost h = (lost, h)

pub outside-told : (s : Spec) (path : List ℕ) (is_dir : Bool) (r : Option ℕ) (dir p : List ℕ) → dir ≡ prefix_directory s → p ≡ path → is_in_prefix_directory s path is_dir ≡ false → MatchOption r (IsTrue (is_below p dir)) (PartsAt (dir ++ slash ∷ []) p)
    → MatchOption r (is_in_prefix_directory s path is_dir ≡ true) (λ at. IsFalse (is_in_prefix_directory s path is_dir) × PartsAt (prefix_directory s ++ slash ∷ []) path at)
outside-told s path is_dir r dir p e w lost h =
    outside s path is_dir r lost
    (subst (λ x. MatchOption r (IsTrue (is_below path x)) (PartsAt (x ++ slash ∷ []) path)) e (subst (λ x. MatchOption r (IsTrue (is_below x dir)) (PartsAt (dir ++ slash ∷ []) x)) w h))

-- what a glob's path has to begin with, and another spec's
pub parts-glob : (s : Spec) (path : List ℕ) (at : ℕ) (f : Bool) (front p : List ℕ) → f ≡ ignores_case s → is_glob s ≡ true → front ≡ stem s → p ≡ path → PartsAt (fold_case f front) (fold_case f p) at
    → PartsAt (fold_case (ignores_case s) (front_asked s)) (fold_case (ignores_case s) path) at
parts-glob s path at f front p e g h q parts =
    let asked : front_asked s ≡ stem s = rw g refl in
    subst (λ x. PartsAt (fold_case (ignores_case s) x) (fold_case (ignores_case s) path) at) (h ∙ sym asked)
    (subst (λ x. PartsAt (fold_case (ignores_case s) front) (fold_case (ignores_case s) x) at) q (subst (λ (b : Bool). PartsAt (fold_case b front) (fold_case b p) at) e parts))

pub parts-text : (s : Spec) (path : List ℕ) (at : ℕ) (f : Bool) (own p : List ℕ) → f ≡ ignores_case s → is_glob s ≡ false → own ≡ s.path → p ≡ path → PartsAt (fold_case f (own ++ slash ∷ [])) (fold_case f p) at
    → PartsAt (fold_case (ignores_case s) (front_asked s)) (fold_case (ignores_case s) path) at
parts-text s path at f own p e g h q parts =
    let asked : front_asked s ≡ s.path ++ slash ∷ [] = rw g refl in
    subst (λ x. PartsAt (fold_case (ignores_case s) x) (fold_case (ignores_case s) path) at) (ap (λ x. x ++ slash ∷ []) h ∙ sym asked)
    (subst (λ x. PartsAt (fold_case (ignores_case s) (own ++ slash ∷ [])) (fold_case (ignores_case s) x) at) q (subst (λ (b : Bool). PartsAt (fold_case b (own ++ slash ∷ [])) (fold_case b p) at) e parts))

-- a path that is below the path of such a spec
pub never-below : (s : Spec) (path : List ℕ) (f : Bool) (own p : List ℕ) → fit s path true ≡ None → is_in_prefix_directory s path true ≡ true → f ≡ ignores_case s → own ≡ s.path → p ≡ path → is_below (fold_case f p) (fold_case f own) ≡ true → ⊥
never-below s path f own p unfit inside e h q below =
    not_below s path unfit inside
    (subst (λ x. is_below (fold_case (ignores_case s) path) (fold_case (ignores_case s) x) ≡ true) h
    (subst (λ x. is_below (fold_case (ignores_case s) x) (fold_case (ignores_case s) own) ≡ true) q (subst (λ (b : Bool). is_below (fold_case b p) (fold_case b own) ≡ true) e below)))
