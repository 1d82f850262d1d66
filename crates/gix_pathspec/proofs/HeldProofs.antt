-- The specs of a search are just the normal forms of those that it is made from.
use Rattle.std.proofs.Common.{◌≡◌, ℕ, ◌+◌, Bool, true, not, inl, inr, ◌⊎◌, refl, sym, ◌∙◌, ap, List, [], ◌∷◌, subst, Result, Ok, arith}
use Rattle.std.proofs.lemmas.Bool.{cases_Bool}
use Rattle.std.proofs.lemmas.List.{map-append}
use Rattle.std.proofs.lemmas.List.Elements.{Contains-push, Contains-append_left, Contains-append_right}
use Rattle.std.specs.Prelude.{Contains, filter}
use Rattle.gix_pathspec.specs.Faults.{Fault}
use Rattle.gix_pathspec.specs.Specs.{Spec, is_exclude, is_include}
use Rattle.gix_pathspec.specs.NormalForm.{normal_form}
use Rattle.gix_pathspec.specs.Search.{Numbered, specs_of, at_number, numbered_from, in_search_order, default_to_prefix, IsNormalFormOfOne, HoldsNormalForms}
use Rattle.pathspec_pattern.proofs.ResultProofs.{bind_ok}
use Rattle.gix_pathspec.proofs.SelectedProofs.{Contains-cases}
use Rattle.gix_pathspec.proofs.SearchProofs.{OfEach, of_none, one_more, of_ordered, ok_of_number, search_of-numbered}

-- the first of a list, and those after it
first_of : (x : Spec) (xs : List Spec) → Contains (x ∷ xs) x
first_of x xs = Contains-append_left (x ∷ []) xs x (Contains-push [] x)

later_of : (x : Spec) (xs : List Spec) (s : Spec) → Contains xs s → Contains (x ∷ xs) s
later_of x xs s c = Contains-append_right (x ∷ []) xs s c

-- ---- each is such a form

form_of_more : (prefix root : List ℕ) (x : Spec) (specs : List Spec) (n : Spec) → IsNormalFormOfOne prefix root specs n → IsNormalFormOfOne prefix root (x ∷ specs) n
form_of_more prefix root x specs n (s, c, e) = (s, later_of x specs s c, e)

numbered_from-forms : (n : ℕ) (prefix root : List ℕ) (specs : List Spec) (ns : List Numbered) → numbered_from n prefix root specs ≡ Ok ns → OfEach (IsNormalFormOfOne prefix root specs) (specs_of ns)
numbered_from-forms n prefix root [] ns e = let same : [] ≡ ns = cc in subst (λ xs. OfEach (IsNormalFormOfOne prefix root []) (specs_of xs)) same (of_none (IsNormalFormOfOne prefix root []))
numbered_from-forms n prefix root (s ∷ specs) ns e =
    let first = bind_ok (at_number n (normal_form prefix root s)) _ ns e in
    let others = bind_ok (numbered_from (n + 1) prefix root specs) _ ns first.2 in
    let m : Numbered = record { number = n; spec = first.0 } in
    let made : Ok (m ∷ others.0) ≡ Ok ns = others.2 in
    let same : m ∷ others.0 ≡ ns = cc in
    let here : IsNormalFormOfOne prefix root (s ∷ specs) first.0 = (s, first_of s specs, ok_of_number n (normal_form prefix root s) first.0 first.1) in
    subst (λ xs. OfEach (IsNormalFormOfOne prefix root (s ∷ specs)) (specs_of xs)) same
    (one_more (IsNormalFormOfOne prefix root (s ∷ specs)) first.0 (specs_of others.0) here
    (λ t c. form_of_more prefix root s specs t (numbered_from-forms (n + 1) prefix root specs others.0 others.1 t c)))

-- ---- each such form is there

same_form : (r : Result Spec Fault) (x y : Spec) → r ≡ Ok x → r ≡ Ok y → x ≡ y
same_form r x y e f = cc

numbered_from-has : (k : ℕ) (prefix root : List ℕ) (specs : List Spec) (ns : List Numbered) (n : Spec) → numbered_from k prefix root specs ≡ Ok ns → IsNormalFormOfOne prefix root specs n → Contains (specs_of ns) n
numbered_from-has k prefix root [] ns n e (s, c, f) = let clash : ⊥ = omega (arith, c.1) in absurd clash
numbered_from-has k prefix root (x ∷ specs) ns n e (s, c, f) =
    let first = bind_ok (at_number k (normal_form prefix root x)) _ ns e in
    let others = bind_ok (numbered_from (k + 1) prefix root specs) _ ns first.2 in
    let m : Numbered = record { number = k; spec = first.0 } in
    let made : Ok (m ∷ others.0) ≡ Ok ns = others.2 in
    let same : m ∷ others.0 ≡ ns = cc in
    subst (λ xs. Contains (specs_of xs) n) same (elim (Contains-cases x specs s c) [
      | inl h ↦
          let form : normal_form prefix root x ≡ Ok n = ap (normal_form prefix root) h ∙ f in
          let is : first.0 ≡ n = same_form (normal_form prefix root x) first.0 n (ok_of_number k (normal_form prefix root x) first.0 first.1) form in
          subst (λ t. Contains (first.0 ∷ specs_of others.0) t) is (first_of first.0 (specs_of others.0))
      | inr d ↦ later_of first.0 (specs_of others.0) n (numbered_from-has (k + 1) prefix root specs others.0 n others.1 (s, d, f))
    ])

-- what is filtered stays where one more comes in front
filtered_more : (p : Numbered → Bool) (m : Numbered) (ns : List Numbered) (s : Spec) → Contains (specs_of (filter p ns)) s → Contains (specs_of (filter p (m ∷ ns))) s
filtered_more p m ns s c = elim (cases_Bool (p m)) [
  | inl e ↦ rw e (later_of m.spec (specs_of (filter p ns)) s c)
  | inr e ↦ rw e c
]

filtered_first : (p : Numbered → Bool) (m : Numbered) (ns : List Numbered) → p m ≡ true → Contains (specs_of (filter p (m ∷ ns))) m.spec
filtered_first p m ns e = rw e (first_of m.spec (specs_of (filter p ns)))

-- a spec passes the test or its opposite
in_one_of_both : (p q : Numbered → Bool) → ((m : Numbered) → q m ≡ not (p m)) → (ns : List Numbered) (s : Spec) → Contains (specs_of ns) s → Contains (specs_of (filter p ns)) s ⊎ Contains (specs_of (filter q ns)) s
in_one_of_both p q h [] s c = let clash : ⊥ = omega (arith, c.1) in absurd clash
in_one_of_both p q h (m ∷ ns) s c = elim (Contains-cases m.spec (specs_of ns) s c) [
  | inl e ↦ elim (cases_Bool (p m)) [
    | inl y ↦ inl (subst (λ t. Contains (specs_of (filter p (m ∷ ns))) t) e (filtered_first p m ns y))
    | inr n ↦ inr (subst (λ t. Contains (specs_of (filter q (m ∷ ns))) t) e (filtered_first q m ns (h m ∙ ap not n)))
  ]
  | inr d ↦ elim (in_one_of_both p q h ns s d) [
    | inl x ↦ inl (filtered_more p m ns s x)
    | inr x ↦ inr (filtered_more q m ns s x)
  ]
]

-- so the search order has each spec
in_search_order-has : (ns : List Numbered) (s : Spec) → Contains (specs_of ns) s → Contains (specs_of (in_search_order ns)) s
in_search_order-has ns s c =
    let excludes = filter (λ n. is_exclude n.spec) ns in
    let includes = filter (λ n. is_include n.spec) ns in
    subst (λ xs. Contains xs s) (sym (map-append (λ (n : Numbered). n.spec) excludes includes))
    (elim (in_one_of_both (λ n. is_exclude n.spec) (λ n. is_include n.spec) (λ n. refl) ns s c) [
      | inl x ↦ Contains-append_left (specs_of excludes) (specs_of includes) s x
      | inr x ↦ Contains-append_right (specs_of excludes) (specs_of includes) s x
    ])

-- The specs of a search are just the normal forms of those that it is made from.
pub holds_normal_forms : HoldsNormalForms
holds_normal_forms prefix root specs search n e =
    let r = search_of-numbered prefix root specs search e in
    let given = default_to_prefix prefix specs in (
      λ c. subst (λ xs. OfEach (IsNormalFormOfOne prefix root given) (specs_of xs)) r.1 (of_ordered (IsNormalFormOfOne prefix root given) r.0 (numbered_from-forms 0 prefix root given r.0 r.2)) n c,
      λ f. subst (λ xs. Contains (specs_of xs) n) r.1 (in_search_order-has r.0 n (numbered_from-has 0 prefix root given r.0 n r.2 f)),
    )
