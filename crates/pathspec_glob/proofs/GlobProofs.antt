-- The glob as a function is the relation.
use Rattle.std.proofs.Common.{◌≡◌, ℕ, Bool, true, false, not, ◌&&◌, inl, inr, refl, sym, ap, subst, List, [], ◌∷◌, ◌++◌, ◌==◌}
use Rattle.std.proofs.lemmas.Bool.{and_parts, and_from, or_cases, or_left, or_right, not-true, not_from_false, eqb-true, or_from, or_parts}
use Rattle.std.proofs.lemmas.List.{append-nil}
use Rattle.std.specs.List.{list_any, list_all}
use Rattle.pathspec_glob.proofs.Words.{Mode, Shell, PathAware, Case, slash, Token, Byte, Quoted, Any, Bracket, Dead, One, Star, Deep, Matches, matches, some_suffix, takes, passes_over, IsPassedOver, GlobIsRelation}
use Rattle.pathspec_glob.specs.GlobRelation.Matches.{none, one, star, deep, over}

-- where some end passes, what may be skipped stands before it
found : (skip : ℕ → Bool) (test : List ℕ → Bool) (text : List ℕ) → some_suffix skip test text ≡ true
    → (u : List ℕ) × (v : List ℕ) × (text ≡ u ++ v) × (list_all skip u ≡ true) × (test v ≡ true)
found skip test [] h = ([], [], refl, refl, h)
found skip test (b ∷ bs) h = elim (or_cases (test (b ∷ bs)) _ h) [
  | inl t ↦ ([], b ∷ bs, refl, refl, t)
  | inr s ↦
      let p = and_parts (skip b) (some_suffix skip test bs) s in
      let r = found skip test bs p.1 in
      (b ∷ r.0, r.1, ap (λ t. b ∷ t) r.2, and_from (skip b) (list_all skip r.0) p.0 r.3, r.4)
]

finds : (skip : ℕ → Bool) (test : List ℕ → Bool) (u v : List ℕ) → list_all skip u ≡ true → test v ≡ true → some_suffix skip test (u ++ v) ≡ true
finds skip test [] [] a t = t
finds skip test [] (b ∷ bs) a t = or_left (test (b ∷ bs)) _ t
finds skip test (x ∷ u) v a t =
    let p = and_parts (skip x) (list_all skip u) a in
    or_right (test (x ∷ (u ++ v))) (skip x && some_suffix skip test (u ++ v)) (and_from (skip x) (some_suffix skip test (u ++ v)) p.0 (finds skip test u v p.1 t))

no_slash : (u : List ℕ) → list_all (λ b. not (b == slash)) u ≡ true → list_any (λ b. b == slash) u ≡ false
no_slash [] h = refl
no_slash (b ∷ u) h = let p = and_parts (not (b == slash)) (list_all (λ b. not (b == slash)) u) h in or_from (b == slash) _ (not-true (b == slash) p.0) (no_slash u p.1)

all_skip : (u : List ℕ) → list_any (λ b. b == slash) u ≡ false → list_all (λ b. not (b == slash)) u ≡ true
all_skip [] h = refl
all_skip (b ∷ u) h = let p = or_parts (b == slash) (list_any (λ b. b == slash) u) h in and_from (not (b == slash)) _ (not_from_false (b == slash) p.0) (all_skip u p.1)

any_skip : (u : List ℕ) → list_all (λ b. true) u ≡ true
any_skip [] = refl
any_skip (b ∷ u) = any_skip u

pub passed : (mode : Mode) (t : Token) → passes_over mode t ≡ true → IsPassedOver mode t
passed PathAware (One (Byte b)) h = ap (λ x. One (Byte x)) (eqb-true b slash h)
passed PathAware (One (Quoted b)) h = cc
passed PathAware (One Any) h = cc
passed PathAware (One (Bracket n is)) h = cc
passed PathAware (One Dead) h = cc
passed PathAware Star h = cc
passed PathAware Deep h = cc
passed Shell t h = cc

passes : (mode : Mode) (t : Token) → IsPassedOver mode t → passes_over mode t ≡ true
passes Shell t h = absurd h
passes PathAware t h = ap (passes_over PathAware) h

module _ (mode : Mode) (case : Case) where
  holds : (ts : List Token) (text : List ℕ) → matches mode case ts text ≡ true → Matches mode case ts text
  unfolding matches
  holds [] [] h = none
  holds [] (b ∷ bs) h = cc
  holds (One single ∷ ts) [] h = cc
  holds (One single ∷ ts) (b ∷ bs) h = let p = and_parts (takes mode case single b) (matches mode case ts bs) h in one p.0 (holds ts bs p.1)
  holds (Star ∷ ts) text h =
      let r = found (λ b. not (b == slash)) (matches mode case ts) text h in
      star r.0 r.1 r.2 (no_slash r.0 r.3) (holds ts r.1 r.4)
  holds (Deep ∷ []) text h = deep text [] (sym (append-nil text)) none
  holds (Deep ∷ t ∷ ts) text h = elim (or_cases (some_suffix (λ b. true) (matches mode case (t ∷ ts)) text) _ h) [
    | inl s ↦ let r = found (λ b. true) (matches mode case (t ∷ ts)) text s in deep r.0 r.1 r.2 (holds (t ∷ ts) r.1 r.4)
    | inr s ↦ let p = and_parts (passes_over mode t) (matches mode case ts text) s in over (passed mode t p.0) (holds ts text p.1)
  ]

  deep_takes : (ts : List Token) (u v : List ℕ) → matches mode case ts v ≡ true → matches mode case (Deep ∷ ts) (u ++ v) ≡ true
  unfolding matches
  deep_takes [] u v h = refl
  deep_takes (t ∷ ts) u v h = or_left (some_suffix (λ b. true) (matches mode case (t ∷ ts)) (u ++ v)) _ (finds (λ b. true) (matches mode case (t ∷ ts)) u v (any_skip u) h)

  passes_all : {ts : List Token} {text : List ℕ} → Matches mode case ts text → matches mode case ts text ≡ true
  unfolding matches
  passes_all none = refl
  passes_all (one {single = s} {ts = ts} {b = b} {bs = bs} p m) = and_from (takes mode case s b) (matches mode case ts bs) p (passes_all m)
  passes_all (star {ts = ts} u v e n m) = subst (λ x. some_suffix (λ b. not (b == slash)) (matches mode case ts) x ≡ true) (sym e) (finds (λ b. not (b == slash)) (matches mode case ts) u v (all_skip u n) (passes_all m))
  passes_all (deep {ts = ts} u v e m) = subst (λ x. matches mode case (Deep ∷ ts) x ≡ true) (sym e) (deep_takes ts u v (passes_all m))
  passes_all (over {t = t} {ts = ts} {text = text} p m) = or_right (some_suffix (λ b. true) (matches mode case (t ∷ ts)) text) _ (and_from (passes_over mode t) (matches mode case ts text) (passes mode t p) (passes_all m))

pub glob_is_relation : GlobIsRelation
glob_is_relation mode case ts text = (holds mode case ts text, passes_all mode case)
