-- Texts with their places, as they are numbered and as they are sorted.
use Rattle.std.proofs.Common.{◌≡◌, ℕ, suc, zero, ◌+◌, ◌<◌, false, refl, sym, ◌∙◌, ap, subst, List, [], ◌∷◌, ◌++◌, length, get_or, arith, map, take}
use Rattle.std.specs.Ordering.{nat_cmp, is_lt}
use Rattle.std.specs.Cmp.{IsTotalOrder}
use Rattle.std.specs.Cmp.Lexicographic.{slice_cmp}
use Rattle.std.specs.List.Sorted.{IsPermutation, IsSortedBy}
use Rattle.std.proofs.lemmas.Cmp.{nat_cmp_total, nat_list_cmp_total, then_total}
use Rattle.std.proofs.lemmas.List.{get_or-map, length-map, map-append, take_more, get_or_default}
use Rattle.std.proofs.Math.Seq.{take-length}
use Rattle.std.proofs.lemmas.List.Sorted.{IsPermutation-map, IsPermutation-sym, Contains-permutation, length_permutation, ranks_by, sorted_far}
use Rattle.pathspec_heads.specs.Heads.{head_at}
use Rattle.pathspec_heads.specs.Groups.{Placed, entry_at, placed_cmp, IsSortedPlaces}

-- the texts with their places from n on
abbrev pub placed_from : ℕ → List (List ℕ) → List Placed
placed_from n [] = []
placed_from n (t ∷ ts) = (t, n) ∷ placed_from (n + 1) ts

length-placed : (n : ℕ) (ts : List (List ℕ)) → length (placed_from n ts) ≡ length ts
length-placed n [] = refl
length-placed n (t ∷ ts) = ap suc (length-placed (n + 1) ts)

placed-at : (n : ℕ) (ts : List (List ℕ)) (j : ℕ) → j < length ts → entry_at (placed_from n ts) j ≡ (head_at ts j, n + j)
placed-at n [] j h = absurd (omega (arith, h))
placed-at n (t ∷ ts) zero h = ap (λ m. (t, m)) (omega arith)
placed-at n (t ∷ ts) (suc j) h = placed-at (n + 1) ts j (omega (arith, h)) ∙ ap (λ m. (head_at ts j, m)) (omega arith)

pub placed-next : {X Y : Type 0} (view : X → Placed) (text_of : Y → List ℕ) (done : List X) (x : X) (ys : List Y) (n : ℕ) (d : Y) → map view done ≡ take n (placed_from 0 (map text_of ys)) → n < length ys → view x ≡ (text_of (get_or ys n d), n)
    → map view (done ++ x ∷ []) ≡ take (n + 1) (placed_from 0 (map text_of ys))
placed-next view text_of done x ys n d so_far inside is =
    let texts = map text_of ys in
    let within : n < length texts = omega (arith, inside, length-map ys text_of) in
    let at : entry_at (placed_from 0 texts) n ≡ (text_of (get_or ys n d), n) = placed-at 0 texts n within ∙ (ap (λ m. (head_at texts n, m)) (omega arith) ∙ ap (λ t. (t, n)) (get_or-map text_of ys n d [] inside)) in
    map-append view done (x ∷ [])
    ∙ (ap (λ ps. ps ++ view x ∷ []) so_far
    ∙ (ap (λ p. take n (placed_from 0 texts) ++ p ∷ []) (is ∙ sym at) ∙ sym (take_more (placed_from 0 texts) n ([], 0) (omega (arith, within, length-placed 0 texts)))))

pub placed-all : (texts : List (List ℕ)) (n : ℕ) → n ≡ length texts → take n (placed_from 0 texts) ≡ placed_from 0 texts
placed-all texts n e = ap (λ m. take m (placed_from 0 texts)) (e ∙ sym (length-placed 0 texts)) ∙ take-length (placed_from 0 texts)

by_head : IsTotalOrder (λ (x y : Placed). slice_cmp nat_cmp x.0 y.0)
by_head = record { antisymm = λ x y. nat_list_cmp_total.antisymm x.0 y.0; trans = λ x y z. nat_list_cmp_total.trans x.0 y.0 z.0; congr = λ x y z. nat_list_cmp_total.congr x.0 y.0 z.0 }

by_place : IsTotalOrder (λ (x y : Placed). nat_cmp x.1 y.1)
by_place = record { antisymm = λ x y. nat_cmp_total.antisymm x.1 y.1; trans = λ x y z. nat_cmp_total.trans x.1 y.1 z.1; congr = λ x y z. nat_cmp_total.congr x.1 y.1 z.1 }

pub placed_total : IsTotalOrder placed_cmp
placed_total = then_total by_head by_place

sorted-map : {X : Type 0} (view : X → Placed) (xs : List X) → IsSortedBy (λ a b. is_lt (placed_cmp (view a) (view b))) xs → IsSortedBy (λ a b. is_lt (placed_cmp a b)) (map view xs)
sorted-map view [] h = λ k d a b. absurd (omega (arith, b))
sorted-map view (x ∷ xs) h = λ k d a b.
    let inside : k + 1 < length (x ∷ xs) = omega (arith, b, length-map (x ∷ xs) view) in
    let here : get_or (map view (x ∷ xs)) k d ≡ view (get_or (x ∷ xs) k x) = get_or-map view (x ∷ xs) k x d (omega (arith, inside)) in
    let there : get_or (map view (x ∷ xs)) (k + 1) d ≡ view (get_or (x ∷ xs) (k + 1) x) = get_or-map view (x ∷ xs) (k + 1) x d inside in
    subst (λ (a : Placed). is_lt (placed_cmp (get_or (map view (x ∷ xs)) (k + 1) d) a) ≡ false) (sym here)
    (subst (λ (a : Placed). is_lt (placed_cmp a (view (get_or (x ∷ xs) k x))) ≡ false) (sym there) (h k x a inside))

-- what a sort of the numbered texts gives
pub sorted_places : {X : Type 0} (view : X → Placed) (texts : List (List ℕ)) (xs ys : List X) → map view xs ≡ placed_from 0 texts → IsPermutation xs ys → IsSortedBy (λ a b. is_lt (placed_cmp (view a) (view b))) ys
    → IsSortedPlaces texts (map view ys)
sorted_places view texts xs ys numbered moved sorted =
    let zs : List Placed = map view ys in
    let perm : IsPermutation (placed_from 0 texts) zs = subst (λ ps. IsPermutation ps zs) numbered (IsPermutation-map view xs ys moved) in
    record {
      count = length_permutation (placed_from 0 texts) zs perm ∙ length-placed 0 texts;
      ascending = λ i j l b. sorted_far (λ a c. is_lt (placed_cmp a c)) (ranks_by placed_total (λ x. x)) zs (sorted-map view ys sorted) i j ([], 0) l b;
      listed = λ p l.
          let x : Placed = (head_at texts p, p) in
          let inside : p < length (placed_from 0 texts) = omega (arith, l, length-placed 0 texts) in
          let is : get_or (placed_from 0 texts) p x ≡ x = get_or_default (placed_from 0 texts) p x ([], 0) inside ∙ (placed-at 0 texts p l ∙ ap (λ m. (head_at texts p, m)) (omega arith)) in
          let found = Contains-permutation (placed_from 0 texts) zs x perm (p, inside, is) in
          (found.0, found.1, get_or_default zs found.0 ([], 0) x found.1 ∙ found.2);
      meant = λ j l.
          let x : Placed = entry_at zs j in
          let found = Contains-permutation zs (placed_from 0 texts) x (IsPermutation-sym (placed_from 0 texts) zs perm) (j, l, get_or_default zs j x ([], 0) l) in
          let inside : found.0 < length texts = omega (arith, found.1, length-placed 0 texts) in
          let is : (head_at texts found.0, 0 + found.0) ≡ x = sym (placed-at 0 texts found.0 inside) ∙ (get_or_default (placed_from 0 texts) found.0 ([], 0) x found.1 ∙ found.2) in
          let place : found.0 ≡ x.1 = omega (arith, ap (λ (y : Placed). y.1) is) in
          (subst (λ m. m < length texts) place inside, sym (ap (λ (y : Placed). y.0) is) ∙ ap (head_at texts) place);
    }
