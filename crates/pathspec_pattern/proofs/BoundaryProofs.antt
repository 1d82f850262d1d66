-- The prefix length of a normal form is a boundary of its path, and the test of boundaries is the relation.
use Rattle.std.proofs.Common.{◌≡◌, ℕ, zero, suc, Bool, true, false, ◌||◌, cond, refl, sym, ◌∙◌, ap, subst, List, [], ◌∷◌, ◌++◌, length, take, drop, append_assoc, ◌==◌, inl, inr, Option, Some, None, Ok}
use Rattle.std.proofs.lemmas.Bool.{cases_Bool, eqb-true, eq-eqb, or_right, or_cases}
use Rattle.std.proofs.lemmas.List.{take-append-drop}
use Rattle.std.proofs.lemmas.Slice.Eq.{bytes_eq-Decides}
use Rattle.std.proofs.Math.Seq.{drop-append_seam}
use Rattle.pathspec_parts.specs.Bytes.{slash, first_is}
use Rattle.pathspec_parts.specs.Paths.{join_names, is_slash, IsAtOrBelow}
use Rattle.pathspec_pattern.specs.Specs.{Spec, IsBoundary, is_boundary, has_boundary, BoundaryIsExact}
use Rattle.pathspec_pattern.specs.NormalForm.{Base, base, own_components, is_inside, keeps_directory, directory_count, survivors, components_to_resolve, resolved, resolve, normal_form, stays_empty, NormalFormHasBoundary}
use Rattle.pathspec_pattern.specs.NormalForm.Base.{Root, Prefix, Top}

-- ---- the test

slash_first : (text : List ℕ) → first_is is_slash text ≡ true → (rest : List ℕ) × (text ≡ slash ∷ rest)
slash_first [] h = cc
slash_first (b ∷ rest) h = (rest, ap (λ x. x ∷ rest) (eqb-true b slash h))

-- a place that holds something lies in the text
take-length_at : (path : List ℕ) (n : ℕ) (b : ℕ) (rest : List ℕ) → drop n path ≡ b ∷ rest → length (take n path) ≡ n
take-length_at path zero b rest h = refl
take-length_at [] (suc n) b rest h = cc
take-length_at (x ∷ path) (suc n) b rest h = ap suc (take-length_at path n b rest h)

told : (path : List ℕ) (n : ℕ) → is_boundary path n ≡ true → IsBoundary path n
told path n h = elim (or_cases (n == 0 || n == length path) (first_is is_slash (drop n path)) h) [
  | inl l ↦ elim (or_cases (n == 0) (n == length path) l) [
    | inl z ↦ inl (eqb-true n 0 z)
    | inr e ↦ inr (path, sym (eqb-true n (length path) e), inl refl)
  ]
  | inr r ↦
      let s = slash_first (drop n path) r in
      inr (take n path, take-length_at path n slash s.0 s.1, inr (s.0, sym (take-append-drop n path) ∙ ap (λ t. take n path ++ t) s.1))
]

whole_path : (path : List ℕ) → is_boundary path (length path) ≡ true
whole_path path = rw (eq-eqb (length path) (length path) refl) (by_zero (length path == 0))
  where
    by_zero : (b : Bool) → ((b || true) || first_is is_slash (drop (length path) path)) ≡ true
    by_zero true = refl
    by_zero false = refl

at_slash : (front rest : List ℕ) → is_boundary (front ++ slash ∷ rest) (length front) ≡ true
at_slash front rest = rw (drop-append_seam front (slash ∷ rest)) (or_right (length front == 0 || length front == length (front ++ slash ∷ rest)) true refl)

tells : (path : List ℕ) (n : ℕ) → IsBoundary path n → is_boundary path n ≡ true
tells path n (inl z) = rw z refl
tells path n (inr (front, e, inl same)) = subst (λ k. is_boundary path k ≡ true) (ap length same ∙ e) (whole_path path)
tells path n (inr (front, e, inr (rest, below))) = rw below (subst (λ k. is_boundary (front ++ slash ∷ rest) k ≡ true) e (at_slash front rest))

-- The test is the relation.
pub boundary_is_exact : BoundaryIsExact
boundary_is_exact path n = (told path n, tells path n)

-- ---- normal forms

-- names lie at or below the first of them
joined-take : (k : ℕ) (x : List ℕ) (more : List (List ℕ)) → IsAtOrBelow (join_names (x ∷ more)) (join_names (x ∷ take k more))
joined-take zero x [] = inl refl
joined-take zero x (y ∷ more) = inr (join_names (y ∷ more), refl)
joined-take (suc k) x [] = inl refl
joined-take (suc k) x (y ∷ more) = elim (joined-take k y more) [
  | inl e ↦ inl (ap (λ t. x ++ slash ∷ t) e)
  | inr r ↦ inr (r.0, ap (λ t. x ++ slash ∷ t) r.1 ∙ sym (append_assoc x (slash ∷ join_names (y ∷ take k more)) (slash ∷ r.0)))
]

-- so the length of the first joined names is a boundary of all
names_boundary : (m : ℕ) (x : List ℕ) (more : List (List ℕ)) → is_boundary (join_names (x ∷ more)) (length (join_names (take m (x ∷ more)))) ≡ true
names_boundary zero x more = refl
names_boundary (suc m) x more = tells (join_names (x ∷ more)) (length (join_names (x ∷ take m more))) (inr (join_names (x ∷ take m more), refl, joined-take m x more))

-- a prefix directory stays only where the path does
kept_boundary : (b : Base) (s : Spec) (left : List (List ℕ)) → has_boundary s ≡ true → keeps_directory b s left ≡ true → is_boundary (join_names left) s.prefix_length ≡ true
kept_boundary Root s left h k = cc
kept_boundary (Prefix front) s left h k = cc
kept_boundary Top s left h k = subst (λ path. is_boundary path s.prefix_length ≡ true) ((bytes_eq-Decides s.path (join_names left)).0 k) h

-- one of three lengths
chosen_boundary : (path : List ℕ) (nil keeps : Bool) (old new : ℕ) → (keeps ≡ true → is_boundary path old ≡ true) → is_boundary path new ≡ true → is_boundary path (cond nil 0 (cond keeps old new)) ≡ true
chosen_boundary path true keeps old new h k = refl
chosen_boundary path false true old new h k = h refl
chosen_boundary path false false old new h k = k

-- what is resolved has a boundary
resolved_boundary : (b : Base) (s : Spec) (own left : List (List ℕ)) → has_boundary s ≡ true → has_boundary (resolved b s own left) ≡ true
resolved_boundary b s own [] h = elim (cases_Bool (stays_empty b s own)) [
  | inl y ↦ rw y refl
  | inr n ↦ rw n refl
]
resolved_boundary b s own (x ∷ more) h =
    chosen_boundary (join_names (x ∷ more)) s.nil (keeps_directory b s (x ∷ more)) s.prefix_length (length (join_names (take (directory_count b s own (x ∷ more)) (x ∷ more)))) (kept_boundary b s (x ∷ more) h) (names_boundary (directory_count b s own (x ∷ more)) x more)

-- the same where it does not climb out
resolve_boundary : (b : Base) (s n : Spec) (found : Option (List (List ℕ))) → has_boundary s ≡ true → resolve b s found ≡ Ok n → has_boundary n ≡ true
resolve_boundary b s n None h e = cc
resolve_boundary b s n (Some own) h e = elim (cases_Bool (is_inside b own)) [
  | inl y ↦
      let same : resolved b s own (survivors (components_to_resolve b own)) ≡ n = (let k = rw y at e in cc) in
      subst (λ t. has_boundary t ≡ true) same (resolved_boundary b s own (survivors (components_to_resolve b own)) h)
  | inr up ↦ let k = rw up at e in cc
]

-- The prefix length of a normal form is a boundary of its path.
pub normal_form_has_boundary : NormalFormHasBoundary
unfolding normal_form
normal_form_has_boundary prefix root s n h e = resolve_boundary (base prefix s) s n (own_components (base prefix s) root s.path) h e
