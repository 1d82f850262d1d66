-- A second normalising without a prefix leaves the spec: the components of joined names are those names, and names by themselves all survive.
use Rattle.std.proofs.Common.{◌≡◌, ℕ, zero, suc, ◌-◌, Bool, true, false, not, ◌&&◌, ◌||◌, cond, refl, sym, ◌∙◌, ap, subst, List, [], ◌∷◌, ◌++◌, length, drop, arith, ◌==◌, inl, inr, Option, Some, None, Ok}
use Rattle.std.proofs.lemmas.Bool.{cases_Bool, and_parts, or_parts, or_from, not-true, and_left, ne_eqb, eqb-false}
use Rattle.std.proofs.lemmas.List.{append-nil}
use Rattle.std.proofs.lemmas.Slice.Eq.{bytes_eq-Decides}
use Rattle.std.proofs.lemmas.List.Splits.{slice_split_none, slice_split_at, join_with_byte-slice_split}
use Rattle.std.proofs.lemmas.List.Elements.{All-from_recursion}
use Rattle.std.specs.Prelude.{codes, filter}
use Rattle.std.specs.List.{list_any, list_all, onto_first, AllByRecursion}
use Rattle.pathspec_parts.specs.Bytes.{slash, is_empty}
use Rattle.pathspec_parts.specs.Paths.{pieces, is_component, is_name, is_parent_dir, is_clean_prefix, components, join_names, is_absolute, strip_names}
use Rattle.pathspec_pattern.specs.Specs.{Spec, top, has, is_boundary, has_boundary}
use Rattle.pathspec_pattern.specs.Resolving.{is_resolved}
use Rattle.pathspec_pattern.specs.NormalForm.{Base, base, base_names, own_components, is_inside, new_prefix_length, climb, survivors, components_to_resolve, resolved, resolve, normal_form, stays_empty, NormalFormIsNormal}
use Rattle.pathspec_pattern.specs.NormalForm.Base.{Root, Prefix, Top}
use Rattle.pathspec_pattern.proofs.NormalFormProofs.{climb-name}

-- no byte of the text is a slash
abbrev pub IsUncut : List ℕ → Type 0
IsUncut c = list_any (λ b. b == slash) c ≡ false

-- a component without a slash
abbrev pub IsPart : List ℕ → Type 0
IsPart c = (is_component c ≡ true) × IsUncut c

-- a name without a slash
abbrev pub IsWholeName : List ℕ → Type 0
IsWholeName c = (is_parent_dir c ≡ false) × IsPart c

-- ---- lists whose elements all pass

-- two lists one after the other
AllByRecursion-append : {X : Type 0} (P : X → Type 0) (xs ys : List X) → AllByRecursion P xs → AllByRecursion P ys → AllByRecursion P (xs ++ ys)
AllByRecursion-append P [] ys a b = b
AllByRecursion-append P (x ∷ xs) ys a b = (a.0, AllByRecursion-append P xs ys a.1 b)

-- a list without its front
AllByRecursion-drop : {X : Type 0} (P : X → Type 0) (n : ℕ) (xs : List X) → AllByRecursion P xs → AllByRecursion P (drop n xs)
AllByRecursion-drop P zero xs a = a
AllByRecursion-drop P (suc n) [] a = tt
AllByRecursion-drop P (suc n) (x ∷ xs) a = AllByRecursion-drop P n xs a.1

-- what a filter keeps passes its test too
AllByRecursion-filter : {X : Type 0} (P : X → Type 0) (p : X → Bool) (xs : List X) → AllByRecursion P xs → AllByRecursion (λ x. (p x ≡ true) × P x) (filter p xs)
AllByRecursion-filter P p [] a = tt
AllByRecursion-filter P p (x ∷ xs) a = elim (cases_Bool (p x)) [
  | inl y ↦ rw y ((y, a.0), AllByRecursion-filter P p xs a.1)
  | inr n ↦ rw n (AllByRecursion-filter P p xs a.1)
]

-- ---- components have no slash

-- one more byte on the first piece
onto_first-uncut : (b : ℕ) (parts : List (List ℕ)) → (b == slash) ≡ false → AllByRecursion IsUncut parts → AllByRecursion IsUncut (onto_first b parts)
onto_first-uncut b [] n a = (or_from (b == slash) false n refl, tt)
onto_first-uncut b (part ∷ parts) n a = (or_from (b == slash) (list_any (λ b. b == slash) part) n a.0, a.1)

-- what stands between slashes has none
pieces-uncut : (path : List ℕ) → AllByRecursion IsUncut (pieces path)
pieces-uncut [] = (refl, tt)
pieces-uncut (b ∷ bs) = elim (cases_Bool (b == slash)) [
  | inl y ↦ rw y (refl, pieces-uncut bs)
  | inr n ↦ rw n (onto_first-uncut b (pieces bs) n (pieces-uncut bs))
]

-- The components of a path are neither empty nor `.`, and have no slash.
pub components-parts : (path : List ℕ) → AllByRecursion IsPart (components path)
components-parts path = AllByRecursion-filter IsUncut is_component (pieces path) (pieces-uncut path)

-- the components, where there are any, are all parts
abbrev AllParts : Option (List (List ℕ)) → Type 0
AllParts None = Unit {0}
AllParts (Some cs) = AllByRecursion IsPart cs

-- one of two lists
AllParts-cond : (b : Bool) (x y : Option (List (List ℕ))) → AllParts x → AllParts y → AllParts (cond b x y)
AllParts-cond true x y p q = p
AllParts-cond false x y p q = q

-- the names that a path stands on are components
base-parts : (prefix : List ℕ) (s : Spec) → AllByRecursion IsPart (base_names (base prefix s))
base-parts prefix s = elim (cases_Bool (is_absolute s.path)) [
  | inl a ↦ rw a tt
  | inr r ↦ elim (cases_Bool (is_empty prefix || has top s.signature)) [
    | inl t ↦ rw (r, t) tt
    | inr j ↦ rw (r, j) (components-parts prefix)
  ]
]

-- so are its own
own-parts : (b : Base) (root path : List ℕ) → AllParts (own_components b root path)
own-parts Root root path =
    AllParts-cond (is_absolute root && is_absolute path) (strip_names (components root) (components path)) None (AllParts-cond _ (Some (drop (length (components root)) (components path))) None (AllByRecursion-drop IsPart (length (components root)) (components path) (components-parts path)) tt) tt
own-parts (Prefix name_count) root path = components-parts path
own-parts Top root path = components-parts path

-- ---- survivors are names

-- a survivor is a component and no `..`
survivors-whole : (cs : List (List ℕ)) → AllByRecursion IsPart cs → AllByRecursion IsWholeName (survivors cs)
survivors-whole [] a = tt
survivors-whole (c ∷ cs) a = elim (cases_Bool (not (is_parent_dir c) && climb cs == 0)) [
  | inl y ↦ rw y ((not-true (is_parent_dir c) (and_parts (not (is_parent_dir c)) (climb cs == 0) y).0, a.0), survivors-whole cs a.1)
  | inr n ↦ rw n (survivors-whole cs a.1)
]

-- names do not climb
climb-name_count : (name_count : List (List ℕ)) → AllByRecursion IsWholeName name_count → climb name_count ≡ 0
unfolding climb
climb-name_count [] a = refl
climb-name_count (c ∷ cs) a = climb-name c cs a.0.0 ∙ ap (λ k. k - 1) (climb-name_count cs a.1)

-- names by themselves all survive
survivors-name_count : (name_count : List (List ℕ)) → AllByRecursion IsWholeName name_count → survivors name_count ≡ name_count
survivors-name_count [] a = refl
survivors-name_count (c ∷ cs) a = rw (a.0.0, climb-name_count cs a.1) (ap (λ k. c ∷ k) (survivors-name_count cs a.1))

-- ---- joined names

-- the same of each byte
uncut-all : (c : List ℕ) → IsUncut c → AllByRecursion (λ b. (b == slash) ≡ false) c
uncut-all [] h = tt
uncut-all (b ∷ bs) h = let p = or_parts (b == slash) (list_any (λ b. b == slash) bs) h in (p.0, uncut-all bs p.1)

-- The components of joined names are those names.
pub components-join_names : (name_count : List (List ℕ)) → AllByRecursion IsWholeName name_count → components (join_names name_count) ≡ name_count
components-join_names [] a = refl
components-join_names (x ∷ []) a = rw (slice_split_none (λ b. b == slash) x (All-from_recursion (λ b. (b == slash) ≡ false) x (uncut-all x a.0.1.1)), a.0.1.0) refl
components-join_names (x ∷ y ∷ more) a = rw (slice_split_at (λ b. b == slash) x slash (join_names (y ∷ more)) (All-from_recursion (λ b. (b == slash) ≡ false) x (uncut-all x a.0.1.1)) refl, a.0.1.0) (ap (λ k. x ∷ k) (components-join_names (y ∷ more) a.1))

-- ---- what a normal form's path is, and that it stays

-- what normal forms are
pub data IsSettled (n : Spec) : Type 0 where
  empty : n.path ≡ [] → n.prefix_length ≡ 0 → IsSettled n
  here : n.path ≡ codes "." → n.nil ≡ true → n.prefix_length ≡ 0 → IsSettled n
  named : (name : List ℕ) (more : List (List ℕ)) → AllByRecursion IsWholeName (name ∷ more) → n.path ≡ join_names (name ∷ more) → (n.nil ≡ true → n.prefix_length ≡ 0) → IsSettled n

-- a name does not begin with a slash
relative_front : (x rest : List ℕ) → IsWholeName x → is_absolute (x ++ rest) ≡ false
relative_front [] rest a = let no : false ≡ true = a.1.0 in cc
relative_front (b ∷ x) rest a = let p = or_parts (b == slash) (list_any (λ b. b == slash) x) a.1.1 in and_left (slash == b) true (ne_eqb slash b (λ e. eqb-false b slash p.0 (sym e)))

-- nor do joined names
is_absolute-join_names : (name : List ℕ) (more : List (List ℕ)) → IsWholeName name → is_absolute (join_names (name ∷ more)) ≡ false
is_absolute-join_names name [] a = subst (λ t. is_absolute t ≡ false) (append-nil name) (relative_front name [] a)
is_absolute-join_names name (x ∷ more) a = relative_front name (slash ∷ join_names (x ∷ more)) a

-- so a normal form is relative
settled-relative : (n : Spec) → IsSettled n → is_absolute n.path ≡ false
settled-relative n (empty e z) = ap is_absolute e
settled-relative n (here e nil z) = ap is_absolute e
settled-relative n (named name more a e z) = ap is_absolute e ∙ is_absolute-join_names name more a.0

-- a relative path on the top is resolved by its own components
normal_form-relative : (prefix root : List ℕ) (n : Spec) (cs : List (List ℕ)) → (is_empty prefix || has top n.signature) ≡ true → is_absolute n.path ≡ false → components n.path ≡ cs → climb cs ≡ 0 → normal_form prefix root n ≡ Ok (resolved Top n cs (survivors cs))
unfolding normal_form
normal_form-relative prefix root n cs t r e c = rw (r, t, e, c) refl

-- a spec that gets its own path and nil
with_path : (n : Spec) (path : List ℕ) (nil : Bool) (len : ℕ) → path ≡ n.path → nil ≡ n.nil → len ≡ n.prefix_length → record n { path = path; nil = nil; prefix_length = len } ≡ n
with_path n path nil len e f g = rw (e, f, g) refl

-- the prefix directory stays where the path does
same_length : (n : Spec) (own left : List (List ℕ)) → n.path ≡ join_names left → (n.nil ≡ true → n.prefix_length ≡ 0) → new_prefix_length Top n own left ≡ n.prefix_length
same_length n own left e z = elim (cases_Bool n.nil) [
  | inl y ↦ rw y (sym (z y))
  | inr x ↦ let same = (bytes_eq-Decides n.path (join_names left)).1 e in rw (x, same) refl
]

-- an empty path stays empty
resolved-empty : (n : Spec) → n.path ≡ [] → n.prefix_length ≡ 0 → resolved Top n [] [] ≡ n
resolved-empty n e z = rw (e, z) refl

-- nil stays nil
resolved-here : (n : Spec) → n.path ≡ codes "." → n.nil ≡ true → n.prefix_length ≡ 0 → resolved Top n [] [] ≡ n
resolved-here n e nil z = rw (e, nil, z) refl

-- names stay
resolved-name_count : (n : Spec) (name : List ℕ) (more : List (List ℕ)) → n.path ≡ join_names (name ∷ more) → (n.nil ≡ true → n.prefix_length ≡ 0) → resolved Top n (name ∷ more) (name ∷ more) ≡ n
resolved-name_count n name more e z = with_path n (join_names (name ∷ more)) n.nil (new_prefix_length Top n (name ∷ more) (name ∷ more)) (sym e) refl (same_length n (name ∷ more) (name ∷ more) e z)

-- what stands in normal form stays, on the top
again : (prefix root : List ℕ) (n : Spec) → (is_empty prefix || has top n.signature) ≡ true → IsSettled n → normal_form prefix root n ≡ Ok n
unfolding climb
again prefix root n t (empty e z) = normal_form-relative prefix root n [] t (ap is_absolute e) (ap components e) refl ∙ ap Ok (resolved-empty n e z)
again prefix root n t (here e nil z) = normal_form-relative prefix root n [] t (ap is_absolute e) (ap components e) refl ∙ ap Ok (resolved-here n e nil z)
again prefix root n t (named name more a e z) =
    let name_count = name ∷ more in
    let r = settled-relative n (named name more a e z) in
    normal_form-relative prefix root n name_count t r (ap components e ∙ components-join_names name_count a) (climb-name_count name_count a)
    ∙ ap Ok (ap (λ left. resolved Top n name_count left) (survivors-name_count name_count a) ∙ resolved-name_count n name more e z)

-- what is resolved stands in normal form
resolved-settled : (b : Base) (s : Spec) (own left : List (List ℕ)) → AllByRecursion IsWholeName left → IsSettled (resolved b s own left)
resolved-settled b s own [] a = elim (cases_Bool (stays_empty b s own)) [
  | inl y ↦ rw y (empty refl refl)
  | inr n ↦ rw n (here refl refl refl)
]
resolved-settled b s own (name ∷ more) a = named name more a refl (λ y. rw y refl)

-- the same where it does not climb out
resolve-settled : (b : Base) (s n : Spec) (found : Option (List (List ℕ))) → AllByRecursion IsPart (base_names b) → AllParts found → resolve b s found ≡ Ok n → IsSettled n
resolve-settled b s n None f a h = cc
resolve-settled b s n (Some own) f a h = elim (cases_Bool (is_inside b own)) [
  | inl y ↦
      let e : resolved b s own (survivors (components_to_resolve b own)) ≡ n = (let k = rw y at h in cc) in
      let whole = survivors-whole (components_to_resolve b own) (AllByRecursion-append IsPart (base_names b) own f a) in
      subst IsSettled e (resolved-settled b s own (survivors (components_to_resolve b own)) whole)
  | inr up ↦ let k = rw up at h in cc
]

-- the same of the whole call
pub normal_form-settled : (prefix root : List ℕ) (s n : Spec) → normal_form prefix root s ≡ Ok n → IsSettled n
unfolding normal_form
normal_form-settled prefix root s n h = resolve-settled (base prefix s) s n (own_components (base prefix s) root s.path) (base-parts prefix s) (own-parts (base prefix s) root s.path) h

-- A second normalising without a prefix, with whatever root, leaves the spec.
pub normal_form_again : NormalFormIsNormal
normal_form_again prefix root s n h other = again [] other n refl (normal_form-settled prefix root s n h)

-- ---- a resolved spec stays

-- names without a slash are whole
all-whole : (parts : List (List ℕ)) → AllByRecursion IsUncut parts → list_all is_name parts ≡ true → AllByRecursion IsWholeName parts
all-whole [] a h = tt
all-whole (part ∷ parts) a h =
    let p = and_parts (is_name part) (list_all is_name parts) h in
    let q = and_parts (is_component part) (not (is_parent_dir part)) p.0 in
    ((not-true (is_parent_dir part) q.1, (q.0, a.0)), all-whole parts a.1 p.1)

-- an empty path has the boundary 0 alone
boundary-empty : (n : ℕ) → is_boundary [] n ≡ true → n ≡ 0
boundary-empty zero h = refl
boundary-empty (suc n) h = let later : (suc n == 0) ≡ false = ne_eqb (suc n) 0 (λ e. omega (arith, e)) in let clash = rw later at h in cc

-- a path of these names is settled
whole-settled : (s : Spec) (names : List (List ℕ)) → has_boundary s ≡ true → (s.nil ≡ true → s.prefix_length ≡ 0) → s.path ≡ join_names names → AllByRecursion IsWholeName names → IsSettled s
whole-settled s [] b z e a = empty e (boundary-empty s.prefix_length (subst (λ path. is_boundary path s.prefix_length ≡ true) e b))
whole-settled s (name ∷ more) b z e a = named name more a e z

-- so is a clean one
clean-settled : (s : Spec) → has_boundary s ≡ true → (s.nil ≡ true → s.prefix_length ≡ 0) → is_clean_prefix s.path ≡ true → IsSettled s
clean-settled s b z clean = by_path s.path refl clean
  where
    by_path : (path : List ℕ) → s.path ≡ path → is_clean_prefix path ≡ true → IsSettled s
    by_path [] e c = whole-settled s [] b z e tt
    by_path (x ∷ xs) e c = whole-settled s (pieces (x ∷ xs)) b z (e ∙ sym (join_with_byte-slice_split slash (x ∷ xs))) (all-whole (pieces (x ∷ xs)) (pieces-uncut (x ∷ xs)) c)

-- A spec that is resolved as it stands is its own normal form.
pub resolved_stays : (prefix root : List ℕ) (s : Spec) → has_boundary s ≡ true → (s.nil ≡ true → s.prefix_length ≡ 0) → is_resolved (base prefix s) s ≡ true → normal_form prefix root s ≡ Ok s
resolved_stays prefix root s b z h = elim (cases_Bool (is_absolute s.path)) [
  | inl a ↦ let k = rw a at h in cc
  | inr r ↦ elim (cases_Bool (is_empty prefix || has top s.signature)) [
    | inl t ↦ again prefix root s t (clean-settled s b z (rw (r, t) at h))
    | inr j ↦ let k = rw (r, j) at h in cc
  ]
]
