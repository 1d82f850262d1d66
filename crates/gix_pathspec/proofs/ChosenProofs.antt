-- The test of a chosen path is the statement about the set of specs, and the order of the specs doesn't matter to it.
use Rattle.std.proofs.Common.{◌≡◌, ℕ, Bool, true, false, not, ◌&&◌, ◌||◌, inl, inr, refl, ◌∙◌, List, IsTrue}
use Rattle.std.proofs.lemmas.Bool.{and_parts, and_from, or_cases, or_left, or_right, not-true, not-false, not_from_false, false_from_ne_true}
use Rattle.std.proofs.lemmas.List.Folds.{Any-from_list_any, list_any-from_Any}
use Rattle.std.proofs.lemmas.List.Sorted.{list_any-IsPermutation}
use Rattle.std.specs.Prelude.{Contains}
use Rattle.std.specs.List.{list_any}
use Rattle.gix_pathspec.specs.Attributes.{Table}
use Rattle.gix_pathspec.specs.Specs.{Spec, is_exclude, is_include}
use Rattle.gix_pathspec.specs.Matching.{spec_matches, is_chosen, IsChosen}
use Rattle.gix_pathspec.specs.SelectionLaws.{ChosenIsTest, OrderIsFree}

-- an element that passes is found
pub list_any-contained : {X : Type 0} (p : X → Bool) (xs : List X) (x : X) → Contains xs x → p x ≡ true → list_any p xs ≡ true
list_any-contained p xs x c h = list_any-from_Any p xs (c.0, x, c.1, c.2, h)

-- what is found is an element that passes
pub contained_where : {X : Type 0} (p : X → Bool) (xs : List X) → list_any p xs ≡ true → (x : X) × Contains xs x × (p x ≡ true)
contained_where p xs h = let a = Any-from_list_any p xs h in (a.1, (a.0, a.2, a.3), a.4)

module _ (table : Table) (specs : List Spec) (path : List ℕ) (is_dir : Bool) where
  -- an exclude that matches the path
  abbrev excludes_path : Spec → Bool
  excludes_path s = is_exclude s && spec_matches table s path is_dir

  -- an include that matches it
  abbrev includes_path : Spec → Bool
  includes_path s = is_include s && spec_matches table s path is_dir

  only_excludes : not (list_any is_include specs) ≡ true → (s : Spec) → Contains specs s → IsTrue (is_exclude s)
  only_excludes h s c =
      not-false (is_exclude s) (false_from_ne_true (is_include s) (λ i. let q = list_any-contained is_include specs s c i in let n = not-true (list_any is_include specs) h in let no : ⊥ = cc in no))

  IsChosen-from_test : is_chosen table specs path is_dir ≡ true → IsChosen table specs path is_dir
  unfolding is_chosen
  IsChosen-from_test h =
      let p = and_parts (not (list_any excludes_path specs)) (list_any includes_path specs || not (list_any is_include specs)) h in
      let unmatched = not-true (list_any excludes_path specs) p.0 in
      record {
        not_excluded = λ s c e.
            false_from_ne_true (spec_matches table s path is_dir) (λ m. let q = list_any-contained excludes_path specs s c (and_from (is_exclude s) (spec_matches table s path is_dir) e m) in let no : ⊥ = cc in no);
        included = elim (or_cases (list_any includes_path specs) (not (list_any is_include specs)) p.1) [
          | inl i ↦ let f = contained_where includes_path specs i in let q = and_parts (is_include f.0) (spec_matches table f.0 path is_dir) f.2 in inl (f.0, f.1, q.0, q.1)
          | inr n ↦ inr (only_excludes n)
        ];
      }

  no_include : ((s : Spec) → Contains specs s → IsTrue (is_exclude s)) → list_any is_include specs ≡ false
  no_include h =
      false_from_ne_true (list_any is_include specs) (λ i. let f = contained_where is_include specs i in let e = h f.0 f.1 in let n = not-true (is_exclude f.0) f.2 in let no : ⊥ = cc in no)

  no_exclude_matches : ((s : Spec) → Contains specs s → IsTrue (is_exclude s) → spec_matches table s path is_dir ≡ false) → list_any excludes_path specs ≡ false
  no_exclude_matches h =
      false_from_ne_true (list_any excludes_path specs) (λ o.
      let f = contained_where excludes_path specs o in
      let q = and_parts (is_exclude f.0) (spec_matches table f.0 path is_dir) f.2 in
      let n = h f.0 f.1 q.0 in let no : ⊥ = cc in no)

  is_chosen-from_IsChosen : IsChosen table specs path is_dir → is_chosen table specs path is_dir ≡ true
  unfolding is_chosen
  is_chosen-from_IsChosen h =
      and_from (not (list_any excludes_path specs)) (list_any includes_path specs || not (list_any is_include specs))
      (not_from_false (list_any excludes_path specs) (no_exclude_matches h.not_excluded))
      (elim h.included [
        | inl i ↦ or_left (list_any includes_path specs) (not (list_any is_include specs)) (list_any-contained includes_path specs i.0 i.1 (and_from (is_include i.0) (spec_matches table i.0 path is_dir) i.2 i.3))
        | inr n ↦ or_right (list_any includes_path specs) (not (list_any is_include specs)) (not_from_false (list_any is_include specs) (no_include n))
      ])

pub chosen_is_test : ChosenIsTest
chosen_is_test table specs path is_dir = (IsChosen-from_test table specs path is_dir, is_chosen-from_IsChosen table specs path is_dir)

pub order_is_free : OrderIsFree
unfolding is_chosen
order_is_free table specs others path is_dir moved h =
    let same : is_chosen table others path is_dir ≡ is_chosen table specs path is_dir =
    rw (list_any-IsPermutation (λ s. is_exclude s && spec_matches table s path is_dir) specs others moved, list_any-IsPermutation (λ s. is_include s && spec_matches table s path is_dir) specs others moved, list_any-IsPermutation is_include specs others moved) refl in
    IsChosen-from_test table others path is_dir (same ∙ is_chosen-from_IsChosen table specs path is_dir h)
