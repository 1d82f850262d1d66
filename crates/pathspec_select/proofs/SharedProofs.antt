-- What two lists of names have after the names that both begin with.
use Rattle.std.proofs.Common.{◌≡◌, ℕ, ◌+◌, suc, true, cond, refl, sym, ◌∙◌, ap, inl, inr, List, [], ◌∷◌, ◌++◌, ◌-◌, length, take, drop, arith}
use Rattle.std.proofs.lemmas.Bool.{cases_Bool}
use Rattle.std.proofs.lemmas.List.{take_rest}
use Rattle.std.proofs.lemmas.Slice.Eq.{bytes_eq-Decides}
use Rattle.std.specs.Prelude.{bytes_eq}
use Rattle.pathspec_parts.specs.Records.{shared_depth, implied_names, directory_names}
use Rattle.pathspec_select.specs.ListingAnswers.{SharesNames}

-- as a pair, by one name after the other
abbrev pub unshared : List (List ℕ) → List (List ℕ) → List (List ℕ) × List (List ℕ)
unshared [] ys = ([], ys)
unshared (x ∷ xs) [] = (x ∷ xs, [])
unshared (x ∷ xs) (y ∷ ys) = cond (bytes_eq x y) (unshared xs ys) (x ∷ xs, y ∷ ys)

pub unshared-is : (names wanted : List (List ℕ)) → unshared names wanted ≡ (drop (shared_depth names wanted) names, implied_names names wanted)
unshared-is [] [] = refl
unshared-is [] (y ∷ ys) = refl
unshared-is (x ∷ xs) [] = refl
unshared-is (x ∷ xs) (y ∷ ys) = elim (cases_Bool (bytes_eq x y)) [
  | inl t ↦ let e : 1 + shared_depth xs ys ≡ suc (shared_depth xs ys) = omega arith in rw (t, e) (unshared-is xs ys)
  | inr f ↦ rw f refl
]

unshared-append : (front xs ys : List (List ℕ)) → unshared (front ++ xs) (front ++ ys) ≡ unshared xs ys
unshared-append [] xs ys = refl
unshared-append (name ∷ front) xs ys = let t : bytes_eq name name ≡ true = (bytes_eq-Decides name name).1 refl in rw t (unshared-append front xs ys)

-- names that both paths begin with count for nothing
pub unshared-after : (directory wanted : List ℕ) (n : ℕ) → SharesNames directory wanted n
    → unshared (directory_names (take (length directory - n) (drop n directory))) (directory_names (take (length wanted - n) (drop n wanted))) ≡ unshared (directory_names directory) (directory_names wanted)
unshared-after directory wanted n h =
    let xs = directory_names (drop n directory) in
    let ys = directory_names (drop n wanted) in
    let front = directory_names (take n directory) in
    let theirs : directory_names wanted ≡ front ++ ys = h.in_wanted ∙ ap (λ t. directory_names t ++ ys) (sym h.front.same) in
    ap (λ t. unshared (directory_names t) (directory_names (take (length wanted - n) (drop n wanted)))) (take_rest directory n)
    ∙ (ap (λ t. unshared xs (directory_names t)) (take_rest wanted n)
    ∙ sym (ap (λ (t : List (List ℕ)). unshared t (directory_names wanted)) h.in_directory ∙ (ap (unshared (front ++ xs)) theirs ∙ unshared-append front xs ys)))
