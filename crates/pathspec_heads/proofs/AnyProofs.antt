-- Tests of lists.
use Rattle.std.proofs.Common.{◌≡◌, ℕ, suc, zero, ◌<◌, Bool, true, false, ◌&&◌, ◌||◌, refl, sym, ◌∙◌, ap, List, [], ◌∷◌, length, arith, map, filter, cond}
use Rattle.std.specs.List.{list_any}
use Rattle.std.proofs.lemmas.Bool.{or_right}
use Rattle.pathspec_heads.specs.Heads.{head_at}
use Rattle.pathspec_heads.specs.Stems.{HasSameTexts}
use Rattle.pathspec_heads.proofs.AgreementProofs.{both}

pub any-some : (p : List ℕ → Bool) (xs : List (List ℕ)) (k : ℕ) → k < length xs → p (head_at xs k) ≡ true → list_any p xs ≡ true
any-some p [] k l h = absurd (omega (arith, l))
any-some p (x ∷ xs) zero l h = rw h refl
any-some p (x ∷ xs) (suc k) l h = or_right (p x) (list_any p xs) (any-some p xs k (omega (arith, l)) h)

pub any-none : (p : List ℕ → Bool) (xs : List (List ℕ)) → ((k : ℕ) → k < length xs → p (head_at xs k) ≡ false) → list_any p xs ≡ false
any-none p [] h = refl
any-none p (x ∷ xs) h = let here : p x ≡ false = h 0 (omega arith) in rw here (any-none p xs (λ k l. h (suc k) (omega (arith, l))))

pub any-ext : {X : Type 0} (p q : X → Bool) → ((x : X) → p x ≡ q x) → (xs : List X) → list_any p xs ≡ list_any q xs
any-ext p q e [] = refl
any-ext p q e (x ∷ xs) = rw (e x, any-ext p q e xs) refl

pub any-at : (p : List ℕ → Bool) (xs : List (List ℕ)) → list_any p xs ≡ true → (k : ℕ) × (k < length xs) × (p (head_at xs k) ≡ true)
any-at p [] h = cc
any-at p (x ∷ xs) h = here (p x) refl (any-at p xs)
  where
    here : (b : Bool) → p x ≡ b → (list_any p xs ≡ true → (k : ℕ) × (k < length xs) × (p (head_at xs k) ≡ true)) → (k : ℕ) × (k < length (x ∷ xs)) × (p (head_at (x ∷ xs) k) ≡ true)
    here true e later = (zero, omega arith, e)
    here false e later = let r = later (sym (ap (λ b. b || list_any p xs) e) ∙ h) in (suc r.0, omega (arith, r.1), r.2)

-- lists of the same texts answer the same
pub any-same : (p : List ℕ → Bool) (texts others : List (List ℕ)) → HasSameTexts texts others → list_any p others ≡ list_any p texts
any-same p texts others same = both (list_any p others) (list_any p texts)
    (λ h. let r = any-at p others h in let s = same.back r.0 r.1 in any-some p texts s.0 s.1 (sym (ap p s.2) ∙ r.2))
    (λ h. let r = any-at p texts h in let s = same.there r.0 r.1 in any-some p others s.0 s.1 (ap p s.2 ∙ r.2))

or-apart : (a b c d : Bool) → ((a || b) || (c || d)) ≡ ((a || c) || (b || d))
or-apart true b c d = refl
or-apart false true true d = refl
or-apart false true false d = refl
or-apart false false c d = refl

pub any-or : {X : Type 0} (p q : X → Bool) (xs : List X) → list_any (λ x. p x || q x) xs ≡ (list_any p xs || list_any q xs)
any-or p q [] = refl
any-or p q (x ∷ xs) = ap (λ b. (p x || q x) || b) (any-or p q xs) ∙ or-apart (p x) (q x) (list_any p xs) (list_any q xs)

-- a test of what is made of the elements that another test keeps
pub any-kept : {X Y : Type 0} (p : Y → Bool) (make : X → Y) (keep q : X → Bool) → ((x : X) → keep x ≡ true → p (make x) ≡ q x) → (xs : List X) → list_any p (map make (filter keep xs)) ≡ list_any (λ x. keep x && q x) xs
any-kept p make keep q e [] = refl
any-kept p make keep q e (x ∷ xs) = here (keep x) refl (any-kept p make keep q e xs)
  where
    here : (b : Bool) → keep x ≡ b → list_any p (map make (filter keep xs)) ≡ list_any (λ y. keep y && q y) xs
        → list_any p (map make (cond (keep x) (x ∷ filter keep xs) (filter keep xs))) ≡ ((keep x && q x) || list_any (λ y. keep y && q y) xs)
    here true h later = rw (h, e x h, later) refl
    here false h later = rw (h, later) refl
