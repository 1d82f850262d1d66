-- The common prefix is the longest text that begins every head.
use Rattle.std.proofs.Common.{ℕ, refl, sym, ap, List, [], ◌∷◌, ◌++◌, drop, inl, inr}
use Rattle.std.proofs.lemmas.Bool.{cases_Bool, eqb-true, eq-eqb}
use Rattle.std.proofs.lemmas.List.{take-append-drop}
use Rattle.std.proofs.lemmas.List.Elements.{All-from_recursion, recursion_from_All}
use Rattle.std.proofs.Math.Numerals.{one-add}
use Rattle.std.specs.Prelude.{nat_eq, unwrap_or}
use Rattle.std.specs.List.{common_prefix_len, fold, reduce, AllByRecursion}
use Rattle.gix_pathspec.specs.Specs.{Spec}
use Rattle.gix_pathspec.specs.Prefixes.{IsFrontOf, IsLongestFront, IsCommonPrefix, common_front, heads, common_prefix}
use Rattle.gix_pathspec.proofs.BeginsProofs.{front-itself, front-through, length-front}

-- what two texts have in common begins both
common_front-left : (x y : List ℕ) → IsFrontOf (common_front x y) x
common_front-left x y = let n = common_prefix_len nat_eq x y in (drop n x, sym (take-append-drop n x))

common_front-right : (x y : List ℕ) → IsFrontOf (common_front x y) y
common_front-right [] y = (y, refl)
common_front-right (a ∷ x) [] = ([], refl)
common_front-right (a ∷ x) (b ∷ y) = elim (cases_Bool (nat_eq a b)) [
  | inl e ↦ let r = common_front-right x y in rw (e, one-add) (r.0, rw (eqb-true a b e) (ap (λ t. b ∷ t) r.1))
  | inr n ↦ rw n (b ∷ y, refl)
]

-- and each text that begins both begins it
common_front-longest : (z x y : List ℕ) → IsFrontOf z x → IsFrontOf z y → IsFrontOf z (common_front x y)
common_front-longest [] x y p q = (common_front x y, refl)
common_front-longest (c ∷ z) x y p q = rw (p.1, q.1, eq-eqb c c refl, one-add) (let r = common_front-longest z (z ++ p.0) (z ++ q.0) (p.0, refl) (q.0, refl) in (r.0, ap (λ t. c ∷ t) r.1))

-- the same of a text and a list of others
fold-front : (a : List ℕ) (xs : List (List ℕ)) → IsFrontOf (fold common_front a xs) a × AllByRecursion (IsFrontOf (fold common_front a xs)) xs
fold-front a [] = (front-itself a, tt)
fold-front a (x ∷ xs) =
    let r = fold-front (common_front a x) xs in
    (front-through _ (common_front a x) a r.0 (common_front-left a x), (front-through _ (common_front a x) x r.0 (common_front-right a x), r.1))

fold-longest : (z a : List ℕ) (xs : List (List ℕ)) → IsFrontOf z a → AllByRecursion (IsFrontOf z) xs → IsFrontOf z (fold common_front a xs)
fold-longest z a [] p q = p
fold-longest z a (x ∷ xs) p q = fold-longest z (common_front a x) xs (common_front-longest z a x p q.0) q.1

-- the same of a list
reduce-longest : (texts : List (List ℕ)) → IsLongestFront texts (unwrap_or (reduce common_front texts) [])
reduce-longest [] = record { front = All-from_recursion (IsFrontOf []) [] tt; longest = λ y n a. absurd (n refl); none = λ e. refl }
reduce-longest (x ∷ xs) =
    let r = fold-front x xs in
    record {
      front = All-from_recursion (IsFrontOf (fold common_front x xs)) (x ∷ xs) r;
      longest = λ y n a. let q = recursion_from_All (IsFrontOf y) (x ∷ xs) a in length-front y (fold common_front x xs) (fold-longest y x xs q.0 q.1);
      none = λ e. let no : ⊥ = cc in absurd no;
    }

pub common_prefix_is_longest : (specs : List Spec) → IsCommonPrefix specs (common_prefix specs)
unfolding common_prefix
common_prefix_is_longest specs = reduce-longest (heads specs)
