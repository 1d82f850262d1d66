-- One more byte of a text that begins a path.
use Rattle.std.proofs.Common.{◌≡◌, ℕ, ◌+◌, ◌<◌, ◌≤◌, Bool, true, false, ◌&&◌, ◌==◌, refl, sym, ◌∙◌, subst, List, [], ◌∷◌, ◌++◌, length, take, get_or, arith, zero, suc, add-one, length-append}
use Rattle.std.proofs.lemmas.Bool.{and_parts}
use Rattle.std.proofs.lemmas.List.{length-map, get_or-map, map-append, take-append-le, take_all}
use Rattle.std.proofs.Math.Seq.{take-append_seam}
use Rattle.std.proofs.Math.Bool.{and-true, and-false}
use Rattle.std.specs.Char.{to_ascii_lowercase}
use Rattle.gix_pathspec.specs.Bytes.{slash, begins_with, fold_case}
use Rattle.gix_pathspec.specs.Paths.{is_below}
use Rattle.pathspec_explain.specs.Parting.{PartsAt, is_same}

-- ---- with case

-- the front of a pair of texts that begin alike
begins-cons : (b c : ℕ) (x d : List ℕ) → begins_with (b ∷ x) (c ∷ d) ≡ ((c == b) && begins_with x d)
begins-cons b c x d = refl

-- one more byte, where the path goes on
more : (x d : List ℕ) (i : ℕ) → i < length d → i < length x → begins_with x (take i d) ≡ true → begins_with x (take (suc i) d) ≡ (get_or d i 0 == get_or x i 0)
more [] d i l k h = absurd (omega (arith, k))
more (b ∷ x) [] i l k h = absurd (omega (arith, l))
more (b ∷ x) (c ∷ d) zero l k h = and-true (c == b)
more (b ∷ x) (c ∷ d) (suc i) l k h =
    let p = and_parts (c == b) (begins_with x (take i d)) h in
    begins-cons b c x (take (suc i) d) ∙ rw p.0 (more x d i (omega arith) (omega arith) p.1)

-- where it has ended
ended : (x d : List ℕ) (i : ℕ) → i < length d → length x ≤ i → begins_with x (take (suc i) d) ≡ false
ended [] [] i l k = absurd (omega (arith, l))
ended [] (c ∷ d) i l k = refl
ended (b ∷ x) [] i l k = absurd (omega (arith, l))
ended (b ∷ x) (c ∷ d) zero l k = absurd (omega (arith, k))
ended (b ∷ x) (c ∷ d) (suc i) l k = begins-cons b c x (take (suc i) d) ∙ (rw (ended x d i (omega arith) (omega arith)) (and-false (c == b)))

-- ---- up to case

pub more-folded : (f : Bool) (x d : List ℕ) (i : ℕ) → i < length d → i < length x → begins_with (fold_case f x) (take i (fold_case f d)) ≡ true
    → begins_with (fold_case f x) (take (i + 1) (fold_case f d)) ≡ is_same f (get_or d i 0) (get_or x i 0)
more-folded false x d i l k h = rw add-one (more x d i l k h)
more-folded true x d i l k h =
    let here = more (fold_case true x) (fold_case true d) i (rw (length-map d to_ascii_lowercase) l) (rw (length-map x to_ascii_lowercase) k) h in
    rw (add-one, here, get_or-map to_ascii_lowercase d i 0 0 l, get_or-map to_ascii_lowercase x i 0 0 k) refl

pub ended-folded : (f : Bool) (x d : List ℕ) (i : ℕ) → i < length d → length x ≤ i → begins_with (fold_case f x) (take (i + 1) (fold_case f d)) ≡ false
ended-folded false x d i l k = rw add-one (ended x d i l k)
ended-folded true x d i l k = rw add-one (ended (fold_case true x) (fold_case true d) i (rw (length-map d to_ascii_lowercase) l) (rw (length-map x to_ascii_lowercase) k))

pub length-folded : (f : Bool) (x : List ℕ) → length (fold_case f x) ≡ length x
length-folded true x = length-map x to_ascii_lowercase
length-folded false x = refl

-- ---- a text that goes on

-- where a path parts from a text, it parts from a longer one
pub parts-longer : (d e path : List ℕ) (at : ℕ) → PartsAt d path at → PartsAt (d ++ e) path at
parts-longer d e path at p =
    let within : at < length d = p.within in
    record {
      within = omega (arith, length-append d e);
      before = rw (take-append-le at d e (omega arith)) p.before;
      there = rw (take-append-le (at + 1) d e (omega arith)) p.there;
    }

-- a path that begins with a text and doesn't lie below it
pub parts-behind : (d path : List ℕ) → begins_with path d ≡ true → is_below path d ≡ false → PartsAt (d ++ slash ∷ []) path (length d)
parts-behind d path begins below =
    record {
      within = omega (arith, length-append d (slash ∷ []));
      before = rw (take-append_seam d (slash ∷ [])) begins;
      there = rw (take_all (length d + 1) (d ++ slash ∷ []) (omega (arith, length-append d (slash ∷ [])))) below;
    }

pub folded-behind : (f : Bool) (d : List ℕ) → fold_case f (d ++ slash ∷ []) ≡ fold_case f d ++ slash ∷ []
folded-behind true d = map-append to_ascii_lowercase d (slash ∷ [])
folded-behind false d = refl

pub parts-longer_folded : (f : Bool) (d path : List ℕ) (at : ℕ) → PartsAt (fold_case f d) (fold_case f path) at → PartsAt (fold_case f (d ++ slash ∷ [])) (fold_case f path) at
parts-longer_folded f d path at p = subst (λ t. PartsAt t (fold_case f path) at) (sym (folded-behind f d)) (parts-longer (fold_case f d) (slash ∷ []) (fold_case f path) at p)

pub parts-behind_folded : (f : Bool) (d path : List ℕ) (n : ℕ) → n ≡ length d → begins_with (fold_case f path) (fold_case f d) ≡ true → is_below (fold_case f path) (fold_case f d) ≡ false → PartsAt (fold_case f (d ++ slash ∷ [])) (fold_case f path) n
parts-behind_folded f d path n e begins below =
    subst (λ t. PartsAt t (fold_case f path) n) (sym (folded-behind f d))
    (subst (λ (m : ℕ). PartsAt (fold_case f d ++ slash ∷ []) (fold_case f path) m) (length-folded f d ∙ sym e) (parts-behind (fold_case f d) (fold_case f path) begins below))

-- the same of equal texts
pub parts-same : (text other path way : List ℕ) (at : ℕ) → text ≡ other → path ≡ way → PartsAt text path at → PartsAt other way at
parts-same text other path way at e w p = subst (λ t. PartsAt t way at) e (subst (λ x. PartsAt text x at) w p)
