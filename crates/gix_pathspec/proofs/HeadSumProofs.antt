-- Sums over the sets of different heads are no more than over all sources.
use Rattle.std.proofs.Common.{◌≡◌, ℕ, suc, ◌+◌, ◌<◌, ◌≤◌, Bool, true, false, cond, refl, sym, ◌∙◌, arith, List, [], ◌∷◌, length}
use Rattle.std.specs.Prelude.{bytes_eq}
use Rattle.std.specs.List.{sum_by}
use Rattle.std.proofs.lemmas.List.Sums.{sum_by-cons}
use Rattle.std.proofs.lemmas.Slice.Eq.{bytes_eq-Decides}
use Rattle.pathspec_heads.specs.Heads.{head_at}
use Rattle.gix_pathspec.specs.HeadSets.{AreApart}
use Rattle.gix_pathspec.specs.SetSources.{is_behind, sources_behind, SetSource}

-- a head adds what it has where it is the one
abbrev share : List ℕ → ℕ → List ℕ → ℕ
share g v h = cond (bytes_eq g h) v 0

apart-rest : (h : List ℕ) (hs : List (List ℕ)) → AreApart (h ∷ hs) → AreApart hs
apart-rest h hs apart j k less l = apart (suc j) (suc k) (omega (arith, less)) (omega (arith, l))

-- none of the others is the one
share-none : (g : List ℕ) (v : ℕ) (hs : List (List ℕ)) → ((k : ℕ) → k < length hs → g ≡ head_at hs k → ⊥) → sum_by (share g v) hs ≡ 0
share-none g v [] other = refl
share-none g v (h ∷ hs) other = sum_by-cons (share g v) h hs ∙ at (bytes_eq g h) refl (share-none g v hs (λ k l. other (suc k) (omega (arith, l))))
  where
    at : (b : Bool) → bytes_eq g h ≡ b → sum_by (share g v) hs ≡ 0 → cond b v 0 + sum_by (share g v) hs ≡ 0
    at true e rest = absurd (other 0 (omega arith) ((bytes_eq-Decides g h).0 e))
    at false e rest = omega (arith, rest)

share-once : (g : List ℕ) (v : ℕ) (hs : List (List ℕ)) → AreApart hs → sum_by (share g v) hs ≤ v
share-once g v [] apart = omega arith
share-once g v (h ∷ hs) apart = omega (arith, sum_by-cons (share g v) h hs, at (bytes_eq g h) refl (share-once g v hs (apart-rest h hs apart)))
  where
    at : (b : Bool) → bytes_eq g h ≡ b → sum_by (share g v) hs ≤ v → cond b v 0 + sum_by (share g v) hs ≤ v
    at true e rest =
        let is : g ≡ h = (bytes_eq-Decides g h).0 e in
        omega (arith, share-none g v hs (λ k l same. apart 0 (suc k) (omega arith) (omega (arith, l)) (sym is ∙ same)))
    at false e rest = omega (arith, rest)

module _ (weight : SetSource → ℕ) where
  abbrev of_head : List SetSource → List ℕ → ℕ
  of_head sources h = sum_by weight (sources_behind h sources)

  none-behind : (hs : List (List ℕ)) → sum_by (of_head []) hs ≡ 0
  none-behind [] = refl
  none-behind (h ∷ hs) =
      let none : of_head [] h ≡ 0 = refl in
      omega (arith, sum_by-cons (of_head []) h hs, none, none-behind hs)

  one-more : (x : SetSource) (xs : List SetSource) (hs : List (List ℕ)) → sum_by (of_head (x ∷ xs)) hs ≡ sum_by (share x.head (weight x)) hs + sum_by (of_head xs) hs
  one-more x xs [] = refl
  one-more x xs (h ∷ hs) =
      let one : of_head (x ∷ xs) h ≡ share x.head (weight x) h + of_head xs h = at (is_behind h x) in
      omega (arith, sum_by-cons (of_head (x ∷ xs)) h hs, sum_by-cons (share x.head (weight x)) h hs, sum_by-cons (of_head xs) h hs, one, one-more x xs hs)
    where
      at : (b : Bool) → sum_by weight (cond b (x ∷ sources_behind h xs) (sources_behind h xs)) ≡ cond b (weight x) 0 + of_head xs h
      at true = sum_by-cons weight x (sources_behind h xs)
      at false = omega arith

  -- what all heads have together is no more than what all sources have
  pub heads-sum : (sources : List SetSource) (hs : List (List ℕ)) → AreApart hs → sum_by (of_head sources) hs ≤ sum_by weight sources
  heads-sum [] hs apart = omega (arith, none-behind hs)
  heads-sum (x ∷ xs) hs apart = omega (arith, sum_by-cons weight x xs, one-more x xs hs, share-once x.head (weight x) hs apart, heads-sum xs hs apart)
