-- What is asked of the specs of a search, without their numbers.
use Rattle.std.proofs.Common.{◌≡◌, Bool, true, false, not, ◌&&◌, ◌||◌, cond, refl, ap, List, [], ◌∷◌, filter, find, Option, Some, None}
use Rattle.std.specs.List.{list_any, list_all}
use Rattle.std.specs.Option.{option_map}
use Rattle.gix_pathspec.specs.Specs.{Spec}
use Rattle.gix_pathspec.specs.Search.{Numbered, specs_of}

-- some spec passes a test
pub list_any-specs : (test : Spec → Bool) (ns : List Numbered) → list_any (λ n. test n.spec) ns ≡ list_any test (specs_of ns)
list_any-specs test [] = refl
list_any-specs test (n ∷ ns) = ap (λ b. test n.spec || b) (list_any-specs test ns)

-- all specs pass a test
pub list_all-specs : (test : Spec → Bool) (ns : List Numbered) → list_all (λ n. test n.spec) ns ≡ list_all test (specs_of ns)
list_all-specs test [] = refl
list_all-specs test (n ∷ ns) = ap (λ b. test n.spec && b) (list_all-specs test ns)

-- what the test of a spec's number and spec gives
found-one : (test : Spec → Bool) (n : Numbered) (b : Bool) (later : Option Numbered) (specs : Option Spec) → option_map (λ m. m.spec) later ≡ specs → option_map (λ m. m.spec) (cond b (Some n) later) ≡ cond b (Some n.spec) specs
found-one test n true later specs e = refl
found-one test n false later specs e = e

-- the first spec that passes a test
pub find-specs : (test : Spec → Bool) (ns : List Numbered) → option_map (λ n. n.spec) (find (λ n. test n.spec) ns) ≡ find test (specs_of ns)
find-specs test [] = refl
find-specs test (n ∷ ns) = found-one test n (test n.spec) (find (λ m. test m.spec) ns) (find test (specs_of ns)) (find-specs test ns)

-- a test of the includes alone is one of all specs, where an exclude passes
kept-one : (keeps test : Bool) (s : Spec) (p : Spec → Bool) (ss : List Spec) (b : Bool) → p s ≡ test → list_all p ss ≡ b → list_all p (cond keeps (s ∷ ss) ss) ≡ ((not keeps || test) && b)
kept-one true test s p ss b e h = rw (e, h) refl
kept-one false test s p ss b e h = h

pub list_all-filter : (keeps p : Spec → Bool) (ss : List Spec) → list_all p (filter keeps ss) ≡ list_all (λ s. not (keeps s) || p s) ss
list_all-filter keeps p [] = refl
list_all-filter keeps p (s ∷ ss) = kept-one (keeps s) (p s) s p (filter keeps ss) _ refl (list_all-filter keeps p ss)

-- one step after the other
pub option_map-twice : {X Y Z : Type 0} (f : X → Y) (g : Y → Z) (o : Option X) → option_map (λ x. g (f x)) o ≡ option_map g (option_map f o)
option_map-twice f g None = refl
option_map-twice f g (Some x) = refl
