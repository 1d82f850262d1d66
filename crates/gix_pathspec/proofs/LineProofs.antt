-- Texts that are read one after the other, and the first fault.
use Rattle.std.proofs.Common.{◌≡◌, ℕ, ◌+◌, arith, refl, sym, ◌∙◌, ap, subst, List, [], ◌∷◌, ◌++◌, length, map, Option, None, Ok, Err, Result, length-append}
use Rattle.std.proofs.lemmas.List.{map-append, append-nil}
use Rattle.pathspec_pattern.specs.declared.defaults.Defaults.{Defaults}
use Rattle.gix_pathspec.specs.declared.search.init.BuildError.{BuildError}
use Rattle.gix_pathspec.specs.Results.{◌>>=◌}
use Rattle.gix_pathspec.specs.Faults.{Fault}
use Rattle.gix_pathspec.specs.Specs.{Spec}
use Rattle.gix_pathspec.specs.Reading.{reading}
use Rattle.gix_pathspec.specs.Search.{Numbered, at_number, numbered_from}
use Rattle.gix_pathspec.specs.Building.{AreMade, AddsNext, search_of_numbered}
use Rattle.gix_pathspec.specs.Lines.{spec_lines, readings_from, search_of_lines, numbered_of_lines}
use Rattle.gix_pathspec.proofs.BuildingProofs.{onto, onto-snoc, numbered_with-next, search_of-numbered_first}

module _ (defaults : Defaults) (n : ℕ) (ys : List Spec) (all : Result (List Spec) (ℕ × Fault)) (texts : List (List ℕ)) (so_far : all ≡ onto ys (readings_from n defaults texts)) where
  -- the next text says a spec
  pub readings-more : (text : List ℕ) (rest : List (List ℕ)) (y : Spec) (zs : List Spec) → texts ≡ text ∷ rest → at_number n (reading defaults text) ≡ Ok y → ys ++ y ∷ [] ≡ zs → all ≡ onto zs (readings_from (n + 1) defaults rest)
  readings-more text rest y zs t s z =
      (rw t at so_far) ∙ (rw s (onto-snoc ys y (readings_from (n + 1) defaults rest) ∙ ap (λ front. onto front (readings_from (n + 1) defaults rest)) z))

  -- the next text is at fault
  pub readings-fail : (text : List ℕ) (rest : List (List ℕ)) (fault : ℕ × Fault) → texts ≡ text ∷ rest → at_number n (reading defaults text) ≡ Err fault → all ≡ Err fault
  readings-fail text rest fault t s = (rw t at so_far) ∙ (rw s refl)

-- one more value is pushed
pub pushed : {X B : Type 0} (view : X → B) (items more : List X) (x : X) → more ≡ items ++ x ∷ [] → map view items ++ view x ∷ [] ≡ map view more
pushed view items more x e = rw (e, map-append) refl

-- n of the texts were read and the rest remain: there are the normal forms of what was read, or the first fault.
pub record AreRead (defaults : Defaults) (prefix root : List ℕ) (texts : List (List ℕ)) (n : ℕ) (rest : List (List ℕ)) (ns : List Numbered) (fault : Option BuildError) : Type 0 where
  pub specs : List Spec
  pub count : n ≡ length specs
  pub read : readings_from 0 defaults texts ≡ onto specs (readings_from n defaults rest)
  pub normal : AreMade ns fault (numbered_from 0 prefix root specs)

-- nothing is before them
onto-none : {B E : Type 0} (r : Result (List B) E) → r ≡ onto [] r
onto-none (Ok xs) = refl
onto-none (Err e) = refl

module _ (defaults : Defaults) (prefix root : List ℕ) (texts : List (List ℕ)) where
  -- nothing is read
  pub read-none : (n : ℕ) (rest : List (List ℕ)) (ns : List Numbered) → n ≡ 0 → rest ≡ texts → ns ≡ [] → AreRead defaults prefix root texts n rest ns None
  read-none n rest ns e t v = record {
    specs = [];
    count = e;
    read = rw (e, t) (onto-none (readings_from 0 defaults texts));
    normal = ap Ok (sym v);
  }

  module _ (n : ℕ) (rest : List (List ℕ)) (ns : List Numbered) (fault : Option BuildError) (so_far : AreRead defaults prefix root texts n rest ns fault) where
    -- the next text says a spec
    pub read-more : (k m : ℕ) (text : List ℕ) (others : List (List ℕ)) (s : Spec) (more : List Numbered) (next : Option BuildError) → k ≡ n → m ≡ n + 1 → rest ≡ text ∷ others → at_number k (reading defaults text) ≡ Ok s → AddsNext prefix root s ns fault more next
        → AreRead defaults prefix root texts m others more next
    read-more k m text others s more next same e t r adds =
        let said : at_number n (reading defaults text) ≡ Ok s = subst (λ (j : ℕ). at_number j (reading defaults text) ≡ Ok s) same r in
        record {
          specs = so_far.specs ++ s ∷ [];
          count = omega (arith, so_far.count, length-append so_far.specs (s ∷ []));
          read = rw e (readings-more defaults n so_far.specs (readings_from 0 defaults texts) rest so_far.read text others s (so_far.specs ++ s ∷ []) t said refl);
          normal = subst (λ c. AreMade more next c) (sym (numbered_with-next prefix root so_far.specs s)) (adds (numbered_from 0 prefix root so_far.specs) so_far.normal);
        }

    -- the next text is at fault
    pub read-fails : (k : ℕ) (text : List ℕ) (others : List (List ℕ)) (f : ℕ × Fault) → k ≡ n → rest ≡ text ∷ others → at_number k (reading defaults text) ≡ Err f → (readings_from 0 defaults texts >>= numbered_from 0 prefix root) ≡ Err f
    read-fails k text others f same t r =
        let said : at_number n (reading defaults text) ≡ Err f = subst (λ (j : ℕ). at_number j (reading defaults text) ≡ Err f) same r in
        ap (λ r. r >>= numbered_from 0 prefix root) (readings-fail defaults n so_far.specs (readings_from 0 defaults texts) rest so_far.read text others f t said)

    -- all are read
    pub read-all : rest ≡ [] → AreMade ns fault (readings_from 0 defaults texts >>= numbered_from 0 prefix root)
    read-all t =
        let all : readings_from 0 defaults texts ≡ Ok so_far.specs = so_far.read ∙ (rw t (ap Ok (append-nil so_far.specs))) in
        subst (λ c. AreMade ns fault c) (sym (ap (λ r. r >>= numbered_from 0 prefix root) all)) so_far.normal

-- steps in the other order
search-bind : (prefix root : List ℕ) (r : Result (List Spec) (ℕ × Fault)) (f : List Spec → Result (List Numbered) (ℕ × Fault)) → ((specs : List Spec) → f specs ≡ (numbered_from 0 prefix root specs >>= search_of_numbered prefix root))
    → (r >>= f) ≡ ((r >>= numbered_from 0 prefix root) >>= search_of_numbered prefix root)
search-bind prefix root (Ok specs) f h = h specs
search-bind prefix root (Err fault) f h = refl

module _ (defaults : Defaults) (prefix root text : List ℕ) where
  -- the search of lines is that of their normal forms
  numbered_first : search_of_lines defaults prefix root text ≡ (numbered_of_lines defaults prefix root text >>= search_of_numbered prefix root)
  numbered_first = search-bind prefix root (readings_from 0 defaults (spec_lines text)) _ (search_of-numbered_first prefix root)

  pub lines-search : (ns : List Numbered) → numbered_of_lines defaults prefix root text ≡ Ok ns → search_of_lines defaults prefix root text ≡ search_of_numbered prefix root ns
  lines-search ns h = numbered_first ∙ ap (λ r. r >>= search_of_numbered prefix root) h

  -- a line is at fault, or its spec
  pub lines-fail : (fault : ℕ × Fault) → numbered_of_lines defaults prefix root text ≡ Err fault → search_of_lines defaults prefix root text ≡ Err fault
  lines-fail fault h = numbered_first ∙ ap (λ r. r >>= search_of_numbered prefix root) h
