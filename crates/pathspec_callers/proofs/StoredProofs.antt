-- The search that is made again from what is stored of a search chooses what it chooses.
use Rattle.std.proofs.Common.{◌≡◌, ℕ, Bool, true, false, not, ◌&&◌, cond, refl, sym, ◌∙◌, ap, subst, List, [], ◌∷◌, map, Result, Ok, inl, inr, arith}
use Rattle.std.proofs.lemmas.List.Elements.{Contains-push, Contains-append_left, Contains-append_right, Contains-push_cases}
use Rattle.std.specs.Prelude.{Contains, codes}
use Rattle.gix_pathspec.specs.Bytes.{is_empty}
use Rattle.gix_pathspec.specs.Faults.{Fault}
use Rattle.gix_pathspec.specs.Specs.{Spec, must_be_dir}
use Rattle.gix_pathspec.specs.Reading.{reading, cut_of, magic_of, spec_of, is_unimplemented, literal_spec, no_defaults}
use Rattle.gix_pathspec.specs.AttributeLists.{assignments_of, assignment_of}
use Rattle.gix_pathspec.specs.NormalForm.{normal_form, NormalFormIsNormal}
use Rattle.gix_pathspec.specs.SelectionLaws.{NoNilPrefix}
use Rattle.gix_pathspec.specs.Search.{Numbered, specs_of, default_to_prefix, HoldsNormalForms}
use Rattle.pathspec_callers.specs.Stores.{stored_spec, IsNormalFormOfText, StoreEach, IsSearchOfTexts, ChooseAlike}
use Rattle.pathspec_callers.proofs.ElementProofs.{first_or_later}
use Rattle.pathspec_callers.proofs.StoreProofs.{stores-back, map_ok-injective}
use Rattle.pathspec_callers.proofs.AlikeProofs.{stored-normal, stored-choose, IsStoredOfOne}

-- ---- what is stored of a list

stored_of : (specs : List Spec) (m : Spec) → Contains (map stored_spec specs) m → IsStoredOfOne specs m
stored_of [] m c = let clash : ⊥ = omega (arith, c.1) in absurd clash
stored_of (n ∷ specs) m c = elim (first_or_later (stored_spec n) (map stored_spec specs) m c) [
  | inl e ↦ (n, Contains-append_left (n ∷ []) specs n (Contains-push [] n), sym e)
  | inr later ↦ let r = stored_of specs m later in (r.0, Contains-append_right (n ∷ []) specs r.0 r.1, r.2)
]

has_stored : (specs : List Spec) (n : Spec) → Contains specs n → Contains (map stored_spec specs) (stored_spec n)
has_stored [] n c = let clash : ⊥ = omega (arith, c.1) in absurd clash
has_stored (x ∷ specs) n c = elim (first_or_later x specs n c) [
  | inl e ↦ subst (λ s. Contains (map stored_spec (x ∷ specs)) (stored_spec s)) e (Contains-append_left (stored_spec x ∷ []) (map stored_spec specs) (stored_spec x) (Contains-push [] (stored_spec x)))
  | inr later ↦ Contains-append_right (stored_spec x ∷ []) (map stored_spec specs) (stored_spec n) (has_stored specs n later)
]

-- ---- the first search

-- some text says the spec
abbrev IsSaid : Spec → Type 0
IsSaid s = (text : List ℕ) × (reading no_defaults text ≡ Ok s)

said_of : (texts : List (List ℕ)) (specs : List Spec) (s : Spec) → map (reading no_defaults) texts ≡ map Ok specs → Contains specs s → IsSaid s
said_of texts [] s e c = let clash : ⊥ = omega (arith, c.1) in absurd clash
said_of [] (x ∷ specs) s e c = cc
said_of (text ∷ texts) (x ∷ specs) s e c =
    let first : reading no_defaults text ≡ Ok x = cc in
    let rest : map (reading no_defaults) texts ≡ map Ok specs = cc in
    elim (first_or_later x specs s c) [
      | inl h ↦ (text, first ∙ ap Ok h)
      | inr later ↦ said_of texts specs s rest later
    ]

-- the prefix alone is said too: by `:(literal)/`
prefix_said : reading no_defaults (codes ":(literal)/") ≡ Ok (literal_spec must_be_dir [])
unfolding reading cut_of magic_of spec_of is_unimplemented assignments_of assignment_of
prefix_said = refl

given_said : (alone : Bool) (texts : List (List ℕ)) (specs : List Spec) (s : Spec) → map (reading no_defaults) texts ≡ map Ok specs → Contains (cond alone (literal_spec must_be_dir [] ∷ []) specs) s → IsSaid s
given_said true texts specs s e c = elim (Contains-push_cases [] (literal_spec must_be_dir []) s c) [
  | inl none ↦ let clash : ⊥ = omega (arith, none.1) in absurd clash
  | inr same ↦ (codes ":(literal)/", prefix_said ∙ ap Ok same)
]
given_said false texts specs s e c = said_of texts specs s e c

-- so each of its specs is the normal form of what a text says
form_of_text : (texts : List (List ℕ)) (prefix root : List ℕ) (search : List Numbered) → HoldsNormalForms → IsSearchOfTexts prefix root texts search → (n : Spec) → Contains (specs_of search) n → IsNormalFormOfText n
form_of_text texts prefix root search holds made n c =
    let form = (holds prefix root made.0 search n made.2).0 c in
    let said = given_said (is_empty made.0 && not (is_empty prefix)) texts made.0 form.0 made.1 form.1 in
    record { text = said.0; prefix = prefix; root = root; spec = form.0; says = said.1; form = form.2 }

-- ---- the search that is made again

no_prefix : (specs : List Spec) → default_to_prefix [] specs ≡ specs
no_prefix [] = refl
no_prefix (s ∷ specs) = refl

same_form : (r : Result Spec Fault) (x y : Spec) → r ≡ Ok x → r ≡ Ok y → x ≡ y
same_form r x y e f = cc

-- A search that is made again from what is stored chooses what the search chooses.
pub stored-alike : (texts stored : List (List ℕ)) (prefix root : List ℕ) (search again : List Numbered) → HoldsNormalForms → NormalFormIsNormal → NoNilPrefix (specs_of search)
    → IsSearchOfTexts prefix root texts search → StoreEach (specs_of search) stored → IsSearchOfTexts [] root stored again → ChooseAlike (specs_of search) (specs_of again)
stored-alike texts stored prefix root search again holds normal none made stores remade = stored-choose (specs_of search) (specs_of again) none (λ m. (λ c. back m c, λ o. there m o))
  where
    forms : (n : Spec) → Contains (specs_of search) n → IsNormalFormOfText n
    forms = form_of_text texts prefix root search holds made

    same : remade.0 ≡ map stored_spec (specs_of search)
    same = map_ok-injective remade.0 (map stored_spec (specs_of search)) (sym remade.1 ∙ stores-back (specs_of search) stored stores forms)

    settled : (n : Spec) → Contains (specs_of search) n → normal_form [] root (stored_spec n) ≡ Ok (stored_spec n)
    settled n c = let of_text = forms n c in stored-normal n (normal of_text.prefix of_text.root of_text.spec n of_text.form) root

    back : (m : Spec) → Contains (specs_of again) m → IsStoredOfOne (specs_of search) m
    back m c =
        let form = (holds [] root remade.0 again m remade.2).0 c in
        let from = stored_of (specs_of search) form.0 (subst (λ xs. Contains xs form.0) (no_prefix remade.0 ∙ same) form.1) in
        (from.0, from.1, same_form (normal_form [] root form.0) m (stored_spec from.0) form.2 (ap (normal_form [] root) from.2 ∙ settled from.0 from.1))

    there : (m : Spec) → IsStoredOfOne (specs_of search) m → Contains (specs_of again) m
    there m o =
        (holds [] root remade.0 again m remade.2).1
        (stored_spec o.0, subst (λ xs. Contains xs (stored_spec o.0)) (sym (no_prefix remade.0 ∙ same)) (has_stored (specs_of search) o.0 o.1), settled o.0 o.1 ∙ ap Ok (sym o.2))
