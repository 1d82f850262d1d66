-- The specs of a search: a nil one has no prefix directory, and they stand in search order.
use Rattle.std.proofs.Common.{◌≡◌, ℕ, ◌+◌, ◌||◌, Bool, true, false, not, inl, inr, refl, sym, ◌∙◌, ap, List, [], ◌∷◌, ◌++◌, subst, Result, Ok, Err, arith}
use Rattle.std.proofs.lemmas.Bool.{cases_Bool, true≢false}
use Rattle.std.specs.List.{list_any}
use Rattle.std.proofs.lemmas.List.{map-append, append-nil}
use Rattle.std.proofs.lemmas.List.Elements.{filter-append, Contains-push, Contains-append_left, Contains-append_right, Contains-append_cases}
use Rattle.std.specs.Prelude.{Contains, IsTrue, filter}
use Rattle.gix_pathspec.specs.Faults.{Fault}
use Rattle.gix_pathspec.specs.Specs.{Spec, is_exclude, is_include}
use Rattle.gix_pathspec.specs.NormalForm.{normal_form}
use Rattle.gix_pathspec.specs.Search.{Numbered, specs_of, at_number, numbered_from, in_search_order, default_to_prefix, search_of}
use Rattle.gix_pathspec.specs.SelectionLaws.{NoNilPrefix}
use Rattle.pathspec_pattern.proofs.NormalTextProofs.{nil_has_no_directory}
use Rattle.pathspec_pattern.proofs.ResultProofs.{bind_ok}
use Rattle.gix_pathspec.proofs.SelectedProofs.{Contains-cases}

-- ---- the specs of a search

pub ok_of_number : {A : Type 0} (n : ℕ) (r : Result A Fault) (a : A) → at_number n r ≡ Ok a → r ≡ Ok a
ok_of_number n (Ok x) a h = cc
ok_of_number n (Err e) a h = cc

-- P of each spec
abbrev pub OfEach : (Spec → Type 0) → List Spec → Type 0
OfEach P specs = (s : Spec) → Contains specs s → P s

-- a nil one has no prefix directory
abbrev LacksNilPrefix : Spec → Type 0
LacksNilPrefix s = IsTrue s.nil → s.prefix_length ≡ 0

pub of_none : (P : Spec → Type 0) → OfEach P []
of_none P s c = let no : ⊥ = omega (arith, c.1) in absurd no

pub one_more : (P : Spec → Type 0) (x : Spec) (specs : List Spec) → P x → OfEach P specs → OfEach P (x ∷ specs)
one_more P x specs p q s c = elim (Contains-cases x specs s c) [
  | inl e ↦ subst P e p
  | inr d ↦ q s d
]

numbered_from-nil : (n : ℕ) (prefix root : List ℕ) (specs : List Spec) (ns : List Numbered) → numbered_from n prefix root specs ≡ Ok ns → NoNilPrefix (specs_of ns)
numbered_from-nil n prefix root [] ns e = let same : [] ≡ ns = cc in subst (λ xs. NoNilPrefix (specs_of xs)) same (of_none LacksNilPrefix)
numbered_from-nil n prefix root (s ∷ specs) ns e =
    let first = bind_ok (at_number n (normal_form prefix root s)) _ ns e in
    let others = bind_ok (numbered_from (n + 1) prefix root specs) _ ns first.2 in
    let m : Numbered = record { number = n; spec = first.0 } in
    let made : Ok (m ∷ others.0) ≡ Ok ns = others.2 in
    let same : m ∷ others.0 ≡ ns = cc in
    subst (λ xs. NoNilPrefix (specs_of xs)) same
    (one_more LacksNilPrefix first.0 (specs_of others.0) (nil_has_no_directory prefix root s first.0 (ok_of_number n (normal_form prefix root s) first.0 first.1)) (numbered_from-nil (n + 1) prefix root specs others.0 others.1))

-- and of all, where one more stands at the end
pub of_push : (P : Spec → Type 0) (ns more : List Numbered) (n : Numbered) → OfEach P (specs_of ns) → P n.spec → more ≡ ns ++ n ∷ [] → OfEach P (specs_of more)
of_push P ns more n h p e s c =
    let d : Contains (specs_of ns ++ n.spec ∷ []) s = subst (λ xs. Contains xs s) (ap specs_of e ∙ map-append (λ (m : Numbered). m.spec) ns (n ∷ [])) c in
    elim (Contains-append_cases (specs_of ns) (n.spec ∷ []) s d) [
      | inl x ↦ h s x
      | inr x ↦ one_more P n.spec [] p (of_none P) s x
    ]

of_filtered : (P : Spec → Type 0) (q : Numbered → Bool) (ns : List Numbered) → OfEach P (specs_of ns) → OfEach P (specs_of (filter q ns))
of_filtered P q [] h = h
of_filtered P q (n ∷ ns) h =
    let ih = of_filtered P q ns (λ s c. h s (Contains-append_right (n.spec ∷ []) (specs_of ns) s c)) in
    elim (cases_Bool (q n)) [
      | inl e ↦ rw e (one_more P n.spec (specs_of (filter q ns)) (h n.spec (Contains-append_left (n.spec ∷ []) (specs_of ns) n.spec (Contains-push [] n.spec))) ih)
      | inr e ↦ rw e ih
    ]

pub of_ordered : (P : Spec → Type 0) (ns : List Numbered) → OfEach P (specs_of ns) → OfEach P (specs_of (in_search_order ns))
of_ordered P ns h s c =
    let excludes = filter (λ n. is_exclude n.spec) ns in
    let includes = filter (λ n. is_include n.spec) ns in
    let d : Contains (specs_of excludes ++ specs_of includes) s = subst (λ xs. Contains xs s) (map-append (λ (n : Numbered). n.spec) excludes includes) c in
    elim (Contains-append_cases (specs_of excludes) (specs_of includes) s d) [
      | inl x ↦ of_filtered P (λ n. is_exclude n.spec) ns h s x
      | inr x ↦ of_filtered P (λ n. is_include n.spec) ns h s x
    ]

-- a search is a list of numbered specs, put into search order
pub search_of-numbered : (prefix root : List ℕ) (specs : List Spec) (search : List Numbered) → search_of prefix root specs ≡ Ok search → (ns : List Numbered) × (in_search_order ns ≡ search) × (numbered_from 0 prefix root (default_to_prefix prefix specs) ≡ Ok ns)
unfolding search_of
search_of-numbered prefix root specs search e =
    let r = bind_ok (numbered_from 0 prefix root (default_to_prefix prefix specs)) _ search e in
    let same : in_search_order r.0 ≡ search = cc in
    (r.0, same, r.1)

pub search_has_no_nil_prefix : (prefix root : List ℕ) (specs : List Spec) (search : List Numbered) → search_of prefix root specs ≡ Ok search → NoNilPrefix (specs_of search)
search_has_no_nil_prefix prefix root specs search e =
    let r = search_of-numbered prefix root specs search e in
    subst (λ xs. NoNilPrefix (specs_of xs)) r.1 (of_ordered LacksNilPrefix r.0 (numbered_from-nil 0 prefix root (default_to_prefix prefix specs) r.0 r.2))

-- ---- the search order

-- filtered twice
filter-filter : {X : Type 0} (p : X → Bool) (xs : List X) → filter p (filter p xs) ≡ filter p xs
filter-filter p [] = refl
filter-filter p (x ∷ xs) = elim (cases_Bool (p x)) [
  | inl e ↦ rw (e, e) (ap (λ t. x ∷ t) (filter-filter p xs))
  | inr e ↦ rw e (filter-filter p xs)
]

-- filtered for the opposite, nothing is left
filter-opposite : {X : Type 0} (p q : X → Bool) → ((x : X) → q x ≡ not (p x)) → (xs : List X) → filter q (filter p xs) ≡ []
filter-opposite p q h [] = refl
filter-opposite p q h (x ∷ xs) = elim (cases_Bool (p x)) [
  | inl e ↦ let n : q x ≡ false = h x ∙ ap not e in rw (e, n) (filter-opposite p q h xs)
  | inr e ↦ rw e (filter-opposite p q h xs)
]

not-not : (b : Bool) → b ≡ not (not b)
not-not true = refl
not-not false = refl

-- What is in search order stays as it is.
pub in_search_order-twice : (ns : List Numbered) → in_search_order (in_search_order ns) ≡ in_search_order ns
in_search_order-twice ns =
    let ex : Numbered → Bool = λ n. is_exclude n.spec in
    let inc : Numbered → Bool = λ n. is_include n.spec in
    let a : filter ex (in_search_order ns) ≡ filter ex ns =
    filter-append ex (filter ex ns) (filter inc ns) ∙ rw (filter-filter ex ns, filter-opposite inc ex (λ n. not-not (ex n)) ns) (append-nil (filter ex ns)) in
    let b : filter inc (in_search_order ns) ≡ filter inc ns =
    filter-append inc (filter ex ns) (filter inc ns) ∙ rw (filter-opposite ex inc (λ n. refl) ns, filter-filter inc ns) refl in
    ap (λ t. t ++ filter inc (in_search_order ns)) a ∙ ap (λ t. filter ex ns ++ t) b

-- where none passes, a filter keeps none, and the opposite one all
filter-none : {X : Type 0} (p : X → Bool) (xs : List X) → list_any p xs ≡ false → (filter p xs ≡ []) × (filter (λ x. not (p x)) xs ≡ xs)
filter-none p [] h = (refl, refl)
filter-none p (x ∷ xs) h = elim (cases_Bool (p x)) [
  | inl e ↦ absurd (true≢false (sym (ap (λ b. b || list_any p xs) e) ∙ h))
  | inr e ↦
      let ih = filter-none p xs (sym (ap (λ b. b || list_any p xs) e) ∙ h) in
      (rw e ih.0, rw e (ap (λ t. x ∷ t) ih.1))
]

-- Without an exclude, specs stand in search order as they are.
pub in_search_order-includes : (ns : List Numbered) → list_any (λ n. is_exclude n.spec) ns ≡ false → in_search_order ns ≡ ns
in_search_order-includes ns h =
    let kept = filter-none (λ (n : Numbered). is_exclude n.spec) ns h in
    ap (λ t. t ++ filter (λ n. is_include n.spec) ns) kept.0 ∙ kept.1

-- So what `search_of` gives stands in search order.
pub search_of-ordered : (prefix root : List ℕ) (specs : List Spec) (search : List Numbered) → search_of prefix root specs ≡ Ok search → in_search_order search ≡ search
search_of-ordered prefix root specs search e =
    let r = search_of-numbered prefix root specs search e in
    ap in_search_order (sym r.1) ∙ (in_search_order-twice r.0 ∙ r.1)
