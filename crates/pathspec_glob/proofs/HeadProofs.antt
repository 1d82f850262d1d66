-- Bytes without a wildcard before a star are the head of their pattern.
use Rattle.std.proofs.Common.{◌≡◌, ℕ, suc, ◌-◌, ◌==◌, ◌||◌, Bool, true, false, inl, inr, refl, sym, ap, ◌∙◌, List, [], ◌∷◌, ◌++◌, length, drop, map, codes, arith}
use Rattle.std.proofs.lemmas.Bool.{cases_Bool, eqb-true, ne_eqb, eqb-false}
use Rattle.std.proofs.Math.Numerals.{one-add}
use Rattle.std.specs.Prelude.{nat_eq}
use Rattle.std.specs.List.{ends_with, list_any, prefix_len}
use Rattle.pathspec_glob.proofs.Words.{Mode, Shell, PathAware, slash, star, first_is, is_empty, is_wildcard, Token, is_deep, run_token, token_before, tokens_from, Byte, One, Star, Deep, is_wide_at, listed, listed_tokens}
use Rattle.pathspec_glob.specs.GlobParts.{head_of, behind_head, plain_tokens}
use Rattle.pathspec_glob.proofs.TailProofs.{slash_before_rest, tokens_from-plain}

-- ---- what follows bytes

same_slash : (b : ℕ) → (slash == b) ≡ (b == slash)
same_slash b = elim (cases_Bool (b == slash)) [
  | inl e ↦ rw (eqb-true b slash e) refl
  | inr n ↦ rw n (ne_eqb slash b (λ e. eqb-false b slash n (sym e)))
]

slash_at_end : (b : ℕ) (bs : List ℕ) → ends_with nat_eq (b ∷ bs) (codes "/") ≡ slash_before_rest (b == slash) bs
slash_at_end b [] = rw (same_slash b) (grind arith)
slash_at_end b (c ∷ cs) =
    let more : suc (suc (length cs)) - 1 ≡ suc (length cs) = omega arith in
    let less : suc (length cs) - 1 ≡ length cs = omega arith in
    rw more (rw less at (slash_at_end c cs))

-- it stands after a slash where they end with one, or there are none
pub slash_before_rest-ends : (front : List ℕ) → (is_empty front || ends_with nat_eq front (codes "/")) ≡ slash_before_rest true front
slash_before_rest-ends [] = refl
slash_before_rest-ends (b ∷ bs) = slash_at_end b bs

-- ---- heads

-- bytes list nothing
listed-plain : (front : List ℕ) (ts : List Token) → map listed (plain_tokens front ++ ts) ≡ plain_tokens front ++ map listed ts
listed-plain [] ts = refl
listed-plain (b ∷ front) ts = ap (λ us. One (Byte b) ∷ us) (listed-plain front ts)

-- a run of stars takes any number of bytes
run-wide : (mode : Mode) (after_slash : Bool) (run : ℕ) (text : List ℕ) (others : List Token) → is_wide_at (map listed (token_before (run_token mode after_slash run text) others)) ≡ true
run-wide Shell after_slash run text others = refl
run-wide PathAware after_slash run text others = elim (cases_Bool (is_deep after_slash run text)) [ inl e ↦ rw e refl | inr e ↦ rw e refl ]

star-wide : (mode : Mode) (after_slash : Bool) (rest : List ℕ) → first_is (λ b. b == star) rest ≡ true → is_wide_at (map listed (tokens_from mode 0 after_slash rest)) ≡ true
unfolding tokens_from
star-wide mode after_slash [] h = cc
star-wide mode after_slash (b ∷ bs) h = rw (eqb-true b star h) (run-wide mode after_slash (prefix_len (λ c. c == star) (star ∷ bs)) (drop (prefix_len (λ c. c == star) (star ∷ bs)) (star ∷ bs)) _)

-- before such a token bytes are the head
head-plain : (front : List ℕ) (ts : List Token) → is_wide_at ts ≡ true → head_of (plain_tokens front ++ ts) ≡ plain_tokens front
head-plain [] [] h = cc
head-plain [] (One s ∷ ts) h = cc
head-plain [] (Star ∷ ts) h = refl
head-plain [] (Deep ∷ ts) h = refl
head-plain (b ∷ front) ts h = rw one-add (ap (λ us. One (Byte b) ∷ us) (head-plain front ts h))

behind-plain : (front : List ℕ) (ts : List Token) → is_wide_at ts ≡ true → behind_head (plain_tokens front ++ ts) ≡ ts
behind-plain [] [] h = cc
behind-plain [] (One s ∷ ts) h = cc
behind-plain [] (Star ∷ ts) h = refl
behind-plain [] (Deep ∷ ts) h = refl
behind-plain (b ∷ front) ts h = rw one-add (behind-plain front ts h)

-- a pattern of bytes and a rest
module _ (mode : Mode) (front rest : List ℕ) (plain : list_any is_wildcard front ≡ false) (wide : first_is (λ b. b == star) rest ≡ true) where
  abbrev behind : List Token
  behind = map listed (tokens_from mode 0 (slash_before_rest true front) rest)

  whole : listed_tokens mode (front ++ rest) ≡ plain_tokens front ++ behind
  whole = ap (map listed) (tokens_from-plain mode true front rest plain) ∙ listed-plain front _

  begins-wide : is_wide_at behind ≡ true
  begins-wide = star-wide mode (slash_before_rest true front) rest wide

  pub front-is-head : plain_tokens front ≡ head_of (listed_tokens mode (front ++ rest))
  front-is-head = sym (ap head_of whole ∙ head-plain front behind begins-wide)

  pub rest-is-behind : map listed (tokens_from mode 0 (slash_before_rest true front) rest) ≡ behind_head (listed_tokens mode (front ++ rest))
  rest-is-behind = sym (ap behind_head whole ∙ behind-plain front behind begins-wide)
