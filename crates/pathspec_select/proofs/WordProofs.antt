-- Words read one after the other, and the first fault.
use Rattle.std.proofs.Common.{◌≡◌, ℕ, ◌+◌, ◌<◌, refl, ◌∙◌, ap, List, [], ◌∷◌, ◌++◌, length, drop, map, get_or, Some, None, Option, Ok, Err, Result, IfSome, MatchOption}
use Rattle.std.proofs.Math.Seq.{drop-cons}
use Rattle.std.proofs.Math.Numerals.{add-one}
use Rattle.pathspec_pattern.specs.declared.error.Error.{Error}
use Rattle.pathspec_pattern.specs.declared.defaults.Defaults.{Defaults}
use Rattle.gix_pathspec.specs.Faults.{Fault}
use Rattle.gix_pathspec.specs.Errors.{fault_of}
use Rattle.gix_pathspec.specs.Specs.{Spec}
use Rattle.gix_pathspec.specs.Reading.{reading}
use Rattle.gix_pathspec.specs.Search.{at_number}
use Rattle.gix_pathspec.specs.Lines.{readings_from}
use Rattle.gix_pathspec.proofs.BuildingProofs.{onto}
use Rattle.gix_pathspec.proofs.LineProofs.{readings-more, readings-fail}
use Rattle.pathspec_select.specs.declared.refusal.Refusal.{Refusal}
use Rattle.pathspec_select.specs.declared.refusal.Refusal.TheVariants as refusal
use Rattle.pathspec_select.specs.RequestFaults.{RequestFault}
use Rattle.pathspec_select.specs.Requests.{spec_result}
use Rattle.pathspec_select.specs.Refusals.{TellsRequestFault}

-- ---- one spec

-- the refusal for an error tells the error's fault
pub tells-refused : {A : Type 0} (number : ℕ) (e : Error) (r : Refusal) (x step : Result A Fault) → step ≡ x → IfSome (fault_of e) (λ fault. x ≡ Err fault)
    → MatchOption (fault_of e) (r ≡ refusal.Memory) (λ fault. r ≡ refusal.Spec number e) → TellsRequestFault r (λ fault. spec_result (at_number number step) ≡ Err fault)
tells-refused number e r x step s h m = by_fault (fault_of e) refl h m
  where
    by_fault : (o : Option Fault) → fault_of e ≡ o → IfSome o (λ fault. x ≡ Err fault) → MatchOption o (r ≡ refusal.Memory) (λ fault. r ≡ refusal.Spec number e) → TellsRequestFault r (λ fault. spec_result (at_number number step) ≡ Err fault)
    by_fault None q h m = rw m tt
    by_fault (Some fault) q h m = rw m (fault, q, rw (s, h) refl)

-- what a word is read as
pub reading-is : (defaults : Defaults) (word text : List ℕ) → text ≡ word → reading defaults word ≡ reading defaults text
reading-is defaults word text t = rw (← t) refl

-- the value of a result whose fault got the number of its spec
pub spec_ok : {A : Type 0} (r : Result A (ℕ × Fault)) (x : A) → spec_result r ≡ Ok x → r ≡ Ok x
spec_ok (Ok y) x e = let same : y ≡ x = cc in ap Ok same
spec_ok (Err fault) x e = cc

-- ---- one after the other

module _ {S : Type 0} (view : S → List ℕ) (defaults : Defaults) (xs : List S) (n : ℕ) (ys : List Spec) (all : Result (List Spec) (ℕ × Fault)) (so_far : all ≡ onto ys (readings_from n defaults (map view (drop n xs)))) where
  here : (x : S) → n < length xs → x ≡ get_or xs n x → map view (drop n xs) ≡ view x ∷ map view (drop (n + 1) xs)
  here x l e =
      let cut : drop n xs ≡ x ∷ drop (n + 1) xs = drop-cons xs n x l ∙ (rw (← e, add-one) refl) in
      ap (map view) cut

  -- the next word gives a spec
  pub words-more : (x : S) (y : Spec) (zs : List Spec) → n < length xs → x ≡ get_or xs n x → spec_result (at_number n (reading defaults (view x))) ≡ Ok y → ys ++ y ∷ [] ≡ zs → all ≡ onto zs (readings_from (n + 1) defaults (map view (drop (n + 1) xs)))
  words-more x y zs l e s z = readings-more defaults n ys all (map view (drop n xs)) so_far (view x) (map view (drop (n + 1) xs)) y zs (here x l e) (spec_ok (at_number n (reading defaults (view x))) y s) z

  -- the next word is at fault
  pub words-fail : (x : S) (fault : RequestFault) → n < length xs → x ≡ get_or xs n x → spec_result (at_number n (reading defaults (view x))) ≡ Err fault → spec_result all ≡ Err fault
  words-fail x fault l e s = by_result (at_number n (reading defaults (view x))) refl s
    where
      by_result : (r : Result Spec (ℕ × Fault)) → at_number n (reading defaults (view x)) ≡ r → spec_result r ≡ Err fault → spec_result all ≡ Err fault
      by_result (Ok y) h s = cc
      by_result (Err g) h s =
          let same : RequestFault.BadSpec g.0 g.1 ≡ fault = cc in
          ap spec_result (readings-fail defaults n ys all (map view (drop n xs)) so_far (view x) (map view (drop (n + 1) xs)) g (here x l e) h) ∙ ap Err same

-- a refusal that tells one fault tells another where the one is the other
pub tells-on : (r : Refusal) (P Q : RequestFault → Type 0) → ((fault : RequestFault) → P fault → Q fault) → TellsRequestFault r P → TellsRequestFault r Q
tells-on refusal.Usage P Q f h = f RequestFault.Usage h
tells-on (refusal.Environment e) P Q f h = (h.0, h.1, f (RequestFault.BadEnvironment h.0) h.2)
tells-on (refusal.Spec number e) P Q f h = (h.0, h.1, f (RequestFault.BadSpec number h.0) h.2)
tells-on refusal.Read P Q f h = h
tells-on refusal.Specs P Q f h = h
tells-on (refusal.Line number) P Q f h = h
tells-on refusal.Write P Q f h = h
tells-on refusal.Memory P Q f h = h
