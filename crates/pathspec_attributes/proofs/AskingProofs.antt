-- What files say, rule after rule and directory after directory.
use Rattle.std.proofs.Common.{◌≡◌, ℕ, ◌+◌, ◌-◌, ◌<◌, ◌≤◌, true, false, ◌&&◌, refl, sym, ◌∙◌, ap, List, [], ◌∷◌, ◌++◌, length, take, reverse, get_or, arith}
use Rattle.std.proofs.lemmas.Bool.{and_from, and_parts, eq-eqb, false_from_ne_true, lt-ltb, ltb-true, ne_eqb}
use Rattle.std.proofs.lemmas.List.{reverse-append, take_more}
use Rattle.std.proofs.Math.Numerals.{add-one}
use Rattle.std.specs.List.{flat_map}
use Rattle.std.specs.Prelude.{nat_lt}
use Rattle.pathspec_parts.specs.Paths.{is_slash}
use Rattle.pathspec_attributes.specs.Files.{directories_to}

-- the last of the first rules, before the others
pub said-at : {X A : Type 0} (say : X → List A) (rules : List X) (k : ℕ) (rule : X) → k < length rules → rule ≡ get_or rules k rule
    → flat_map say (reverse (take (k + 1) rules)) ≡ say rule ++ flat_map say (reverse (take k rules))
said-at say rules k rule below is =
    let more : take (k + 1) rules ≡ take k rules ++ get_or rules k rule ∷ [] = take_more rules k rule below in
    let turned : reverse (take (k + 1) rules) ≡ get_or rules k rule ∷ reverse (take k rules) = ap reverse more ∙ reverse-append (take k rules) (get_or rules k rule ∷ []) in
    ap (flat_map say) turned ∙ ap (λ r. say r ++ flat_map say (reverse (take k rules))) (sym is)

-- the directory that ends before a slash, before those above it
pub directory-at : (path : List ℕ) (k : ℕ) → (is_slash (get_or path k 0) && nat_lt 0 k) ≡ true → directories_to (k + 1) path ≡ take k path ∷ directories_to k path
directory-at path k h = rw add-one (rw h refl)

pub no-directory-at : (path : List ℕ) (k : ℕ) → (is_slash (get_or path k 0) && nat_lt 0 k) ≡ false → directories_to (k + 1) path ≡ directories_to k path
no-directory-at path k h = rw add-one (rw h refl)

-- ---- as the code asks

-- the rules of a file from the last to the first: one that says something, before the rest
module _ {X A : Type 0} (say : X → List A) (rules : List X) (left : ℕ) (rule : X) (some : 0 < left) (within : left ≤ length rules) (is : rule ≡ get_or rules (left - 1) rule) where
  pub rule-says : flat_map say (reverse (take left rules)) ≡ say rule ++ flat_map say (reverse (take (left - 1) rules))
  rule-says =
      let next : left ≡ left - 1 + 1 = omega arith in
      ap (λ k. flat_map say (reverse (take k rules))) next ∙ said-at say rules (left - 1) rule (omega arith) is

-- the directories of a path from its own to the top
module _ {A : Type 0} (say : List ℕ → List A) (path : List ℕ) (end : ℕ) (some : 0 < end) where
  next : end ≡ end - 1 + 1
  next = omega arith

  pub directory-says : (is_slash (get_or path (end - 1) 0) && nat_lt 0 (end - 1)) ≡ true → flat_map say (directories_to end path) ≡ say (take (end - 1) path) ++ flat_map say (directories_to (end - 1) path)
  directory-says h = ap (λ k. flat_map say (directories_to k path)) next ∙ ap (flat_map say) (directory-at path (end - 1) h)

  pub directory-passes : (is_slash (get_or path (end - 1) 0) && nat_lt 0 (end - 1)) ≡ false → flat_map say (directories_to end path) ≡ flat_map say (directories_to (end - 1) path)
  directory-passes h = ap (λ k. flat_map say (directories_to k path)) next ∙ ap (flat_map say) (no-directory-at path (end - 1) h)

-- where a directory of a path ends
module _ (path : List ℕ) (k : ℕ) where
  pub at-slash : get_or path k 0 ≡ 47 → 0 < k → (is_slash (get_or path k 0) && nat_lt 0 k) ≡ true
  at-slash e some = and_from (is_slash (get_or path k 0)) (nat_lt 0 k) (eq-eqb (get_or path k 0) 47 e) (lt-ltb 0 k some)

  pub not-slash : (get_or path k 0 ≡ 47 → ⊥) → (is_slash (get_or path k 0) && nat_lt 0 k) ≡ false
  not-slash other = ap (λ b. b && nat_lt 0 k) (ne_eqb (get_or path k 0) 47 other)

  pub at-front : k ≤ 0 → (is_slash (get_or path k 0) && nat_lt 0 k) ≡ false
  at-front none = false_from_ne_true _ (λ h. let some : 0 < k = ltb-true 0 k (and_parts (is_slash (get_or path k 0)) (nat_lt 0 k) h).1 in omega (arith, some, none))

-- at the end the top is asked
pub top-says : {A : Type 0} (say : List ℕ → List A) (path : List ℕ) (end : ℕ) → end ≤ 0 → flat_map say (directories_to end path) ≡ say [] ++ []
top-says say path end none =
    let zero_is : end ≡ 0 = omega (arith, none) in
    ap (λ k. flat_map say (directories_to k path)) zero_is
