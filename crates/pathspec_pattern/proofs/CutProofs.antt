-- The cut of a text, by the tests that are made on the way.
use Rattle.std.proofs.Common.{◌≡◌, ℕ, Bool, true, false, inl, inr, refl, sym, ◌∙◌, ap, List, [], ◌∷◌, take, drop, ◌==◌, Some, None, Ok, Err}
use Rattle.std.proofs.lemmas.Bool.{cases_Bool, eqb-true, false≢true}
use Rattle.std.specs.Prelude.{nat_eq}
use Rattle.std.specs.Cmp.Lexicographic.{pointwise}
use Rattle.std.specs.List.{take_while, prefix_len, list_any, before_first, after_first}
use Rattle.pathspec_parts.specs.Bytes.{colon, open_paren, close_paren, first_is}
use Rattle.pathspec_pattern.specs.Faults.Fault.{UnimplementedShort, MissingParen}
use Rattle.pathspec_pattern.specs.Reading.{cut_of, cut_end, cut_long, cut_paren, is_short, is_unimplemented, is_colon, after_mark}

-- ---- a byte in front that is stripped

-- the text begins with the byte
pub begins-first : (b : ℕ) (text : List ℕ) → pointwise nat_eq (take 1 text) (b ∷ []) ≡ first_is (λ x. x == b) text
begins-first b [] = refl
begins-first b (x ∷ xs) = elim (cases_Bool (x == b)) [
  | inl y ↦ rw y refl
  | inr n ↦ rw n refl
]

-- and is the byte with what is left
pub begins-whole : (b : ℕ) (text rest : List ℕ) → pointwise nat_eq (take 1 text) (b ∷ []) ≡ true → rest ≡ drop 1 text → text ≡ b ∷ rest
begins-whole b [] rest h e = absurd (false≢true h)
begins-whole b (x ∷ xs) rest h e = rw (eqb-true x b (sym (begins-first b (x ∷ xs)) ∙ h), e) refl

-- ---- the cut

-- after short magic stands an end mark or none
cut_end-long : (text short rest : List ℕ) → first_is is_unimplemented rest ≡ false → cut_end text short rest ≡ cut_long text short (first_is is_colon rest) (after_mark rest)
cut_end-long text short [] u = refl
cut_end-long text short (b ∷ bs) u = elim (cases_Bool (b == colon)) [
  | inl e ↦ rw (u, e) refl
  | inr n ↦ rw (u, n) refl
]

cut_long-body : (text short : List ℕ) (ended : Bool) (rest : List ℕ) → first_is (λ b. b == open_paren) rest ≡ false → cut_long text short ended rest ≡ Ok (record { short = short; ended = ended; long = None; body = rest })
cut_long-body text short ended [] h = refl
cut_long-body text short ended (b ∷ bs) h = rw h refl

-- a text, what follows its first byte, its short magic, and what follows that
module _ (text magic short rest : List ℕ) (m : magic ≡ drop 1 text) (s : short ≡ take_while is_short magic) (r : rest ≡ drop (prefix_len is_short magic) magic) where
  cut_of-end : cut_of text ≡ cut_end text short rest
  unfolding cut_of
  cut_of-end = rw (s, r, m) refl

  pub cut-free : (b : ℕ) → rest ≡ b ∷ drop 1 rest → is_unimplemented b ≡ true → cut_of text ≡ Err (UnimplementedShort b)
  cut-free b h u =
      let end : cut_end text short (b ∷ drop 1 rest) ≡ Err (UnimplementedShort b) = rw u refl in
      cut_of-end ∙ (ap (cut_end text short) h ∙ end)

  -- the end mark, and what stands after it
  module _ (kept : first_is is_unimplemented rest ≡ false) (ended : Bool) (after : List ℕ) (e : ended ≡ first_is is_colon rest) (b : after ≡ after_mark rest) where
    cut_of-long : cut_of text ≡ cut_long text short ended after
    cut_of-long = cut_of-end ∙ (cut_end-long text short rest kept ∙ rw (e, b) refl)

    pub cut-body : first_is (λ b. b == open_paren) after ≡ false → cut_of text ≡ Ok (record { short = short; ended = ended; long = None; body = after })
    cut-body h = cut_of-long ∙ cut_long-body text short ended after h

    module _ (inside : List ℕ) (i : after ≡ open_paren ∷ inside) where
      cut_of-paren : cut_of text ≡ cut_paren text short ended inside
      cut_of-paren = cut_of-long ∙ ap (cut_long text short ended) i

      pub cut-open : list_any (λ b. b == close_paren) inside ≡ false → cut_of text ≡ Err (MissingParen text)
      cut-open h = let it : cut_paren text short ended inside ≡ Err (MissingParen text) = rw h refl in cut_of-paren ∙ it

      pub cut-closed : list_any (λ b. b == close_paren) inside ≡ true → cut_of text ≡ Ok (record { short = short; ended = ended; long = Some (before_first (λ b. b == close_paren) inside); body = after_first (λ b. b == close_paren) inside })
      cut-closed h = let it : cut_paren text short ended inside ≡ Ok (record { short = short; ended = ended; long = Some (before_first (λ b. b == close_paren) inside); body = after_first (λ b. b == close_paren) inside }) = rw h refl in cut_of-paren ∙ it
