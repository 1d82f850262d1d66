-- What is stored of a search reads back, and chooses the same.
use Rattle.std.proofs.Common.{◌≡◌, ℕ, ◌<◌, true, false, refl, sym, ◌∙◌, ap, subst, List, [], ◌∷◌, ◌++◌, map, append_assoc, Result, Ok, inr, arith}
use Rattle.std.proofs.lemmas.Bool.{both_ways, cond-true, cond-false}
use Rattle.std.proofs.lemmas.List.Elements.{Contains-push, Contains-append_left, Contains-append_right}
use Rattle.std.specs.List.{list_all}
use Rattle.std.specs.Prelude.{Contains}
use Rattle.pathspec_pattern.specs.declared.SearchMode.TheVariants.{Literal}
use Rattle.gix_pathspec.specs.Faults.{Fault}
use Rattle.gix_pathspec.specs.Specs.{Spec}
use Rattle.gix_pathspec.specs.Attributes.{Assignment}
use Rattle.gix_pathspec.specs.Reading.{reading, literal_spec, no_defaults}
use Rattle.gix_pathspec.specs.NormalForm.{NormalFormKeepsMagic}
use Rattle.gix_pathspec.specs.LongText.{long_text}
use Rattle.gix_pathspec.specs.RoundTrips.{is_expressible_assignment, IsExpressible, RoundTripIsExact, ParsedIsExpressible, NormalFormIsExpressible}
use Rattle.pathspec_callers.specs.Stores.{stored_spec, IsNormalFormOfText, Stores, StoreEach}

-- ---- texts that are stored

-- the spec of the empty path with the magic of another
abbrev pub always_spec : Spec → Spec
always_spec n = record n { path = []; mode = Literal; nil = false; prefix_length = 0 }

module _ (back : RoundTripIsExact) (parsed : ParsedIsExpressible) where
  -- the long text of a spec that is not nil stores it
  pub stores-named : NormalFormIsExpressible → (n : Spec) (text : List ℕ) → n.nil ≡ false → text ≡ long_text n → Stores n text
  stores-named normal n text present e of_text =
      let said = parsed no_defaults of_text.text of_text.spec refl (omega arith) of_text.says in
      let is = normal of_text.prefix of_text.root of_text.spec n said.parts.bits said.parts.assignments said.prefix of_text.form present in
      ap (reading no_defaults) e ∙ ((back n).1 is ∙ ap Ok (sym (cond-false n.nil (always_spec n) n present)))

  -- the long text of the spec of the empty path with its magic stores a nil one
  pub stores-nil : NormalFormKeepsMagic → (n : Spec) (text : List ℕ) → n.nil ≡ true → text ≡ long_text (always_spec n) → Stores n text
  stores-nil keeps n text nil e of_text =
      let said = parsed no_defaults of_text.text of_text.spec refl (omega arith) of_text.says in
      let same = keeps of_text.prefix of_text.root of_text.spec n of_text.form in
      let is : IsExpressible (always_spec n) = record {
        parts = record {
          bits = subst (λ k. k < 16) (sym same.signature) said.parts.bits;
          assignments = ap (list_all is_expressible_assignment) same.attributes ∙ said.parts.assignments;
          path = inr refl;
          nil = λ y. absurd (both_ways false refl y);
        };
        prefix = refl;
      } in
      ap (reading no_defaults) e ∙ ((back (always_spec n)).1 is ∙ ap Ok (sym (cond-true n.nil (always_spec n) n nil)))

-- one more is stored
pub stores-more : (specs : List Spec) (texts : List (List ℕ)) (n : Spec) (text : List ℕ) → StoreEach specs texts → Stores n text → StoreEach (specs ++ n ∷ []) (texts ++ text ∷ [])
stores-more [] [] n text h k = (k, tt)
stores-more [] (t ∷ texts) n text h k = absurd h
stores-more (s ∷ specs) [] n text h k = absurd h
stores-more (s ∷ specs) (t ∷ texts) n text h k = (h.0, stores-more specs texts n text h.1 k)

-- the spec of the empty path gets the attributes
pub always-is : (a n : Spec) (list : List Assignment) → a ≡ literal_spec n.signature [] → list ≡ n.attributes → record a { attributes = list } ≡ always_spec n
always-is a n list e f = rw (e, f) refl

-- the first of the specs that are left is stored
pub stores-next : (specs front rest next : List Spec) (n : Spec) (texts more : List (List ℕ)) (text : List ℕ) → front ++ rest ≡ specs → rest ≡ n ∷ next → StoreEach front texts → Stores n text → more ≡ texts ++ text ∷ []
    → (front : List Spec) × (front ++ next ≡ specs) × StoreEach front more
stores-next specs front rest next n texts more text e f h k w =
    (front ++ n ∷ [], append_assoc front (n ∷ []) next ∙ (ap (λ r. front ++ r) (sym f) ∙ e), subst (StoreEach (front ++ n ∷ [])) (sym w) (stores-more front texts n text h k))

-- So texts that store normal forms of what texts say, say what is stored.
pub stores-back : (specs : List Spec) (texts : List (List ℕ)) → StoreEach specs texts → ((n : Spec) → Contains specs n → IsNormalFormOfText n) → map (reading no_defaults) texts ≡ map Ok (map stored_spec specs)
stores-back [] [] h forms = refl
stores-back [] (text ∷ texts) h forms = absurd h
stores-back (n ∷ specs) [] h forms = absurd h
stores-back (n ∷ specs) (text ∷ texts) h forms =
    let first = h.0 (forms n (Contains-append_left (n ∷ []) specs n (Contains-push [] n))) in
    let others = stores-back specs texts h.1 (λ m c. forms m (Contains-append_right (n ∷ []) specs m c)) in
    cc

-- a spec that is there
abbrev pub found : Spec → Result Spec Fault
found s = Ok s

-- specs that are all there are the same
pub map_ok-injective : (xs ys : List Spec) → map found xs ≡ map found ys → xs ≡ ys
map_ok-injective [] [] e = refl
map_ok-injective [] (y ∷ ys) e = cc
map_ok-injective (x ∷ xs) [] e = cc
map_ok-injective (x ∷ xs) (y ∷ ys) e =
    let first : x ≡ y = cc in
    let rest : map found xs ≡ map found ys = cc in
    let others = map_ok-injective xs ys rest in cc
