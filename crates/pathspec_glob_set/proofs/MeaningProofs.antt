-- A byte before a text: what the places of a glob say then.
use Rattle.std.proofs.Common.{◌≡◌, ℕ, zero, suc, ◌<◌, ◌≤◌, Bool, true, false, ◌&&◌, ◌||◌, refl, sym, ◌∙◌, ap, subst, arith, inl, inr, List, [], ◌∷◌, length, get_or, drop, if◌then◌else◌}
use Rattle.std.proofs.lemmas.Bool.{cases_Bool, false≢true, true≢false}
use Rattle.pathspec_glob.specs.declared.Case.{Case}
use Rattle.pathspec_glob.specs.declared.Mode.{Mode}
use Rattle.pathspec_glob.specs.declared.Mode.TheVariants.{PathAware, Shell}
use Rattle.pathspec_glob.proofs.Words.{Token, One, Star, Deep, matches, is_wide, is_wide_at, may_pass_over_at, takes_at, takes_byte, TokenList, passes_over}
use Rattle.pathspec_glob.specs.StateSets.{matches_within}
use Rattle.pathspec_glob.proofs.AcceptProofs.{comes, matches_within-byte, from-place, drop-one}
use Rattle.pathspec_glob_set.specs.Meanings.{is_over_before, is_wide_before, stands, takes_before}

-- what was taken at a place, and stood there before
abbrev pub took : TokenList → Case → ℕ → List ℕ → ℕ → Bool
took parts case b text i = stands parts case i text && takes_before parts case i b

-- what is passed over with a token before it isn't wide
passed-plain : (mode : Mode) (t : Token) → passes_over mode t ≡ true → is_wide t ≡ false
passed-plain mode (One s) h = refl
passed-plain Shell Star h = absurd (false≢true h)
passed-plain Shell Deep h = absurd (false≢true h)
passed-plain PathAware Star h = absurd (false≢true h)
passed-plain PathAware Deep h = absurd (false≢true h)

over-plain : (mode : Mode) (t : Token) (ts : List Token) → may_pass_over_at mode (t ∷ ts) ≡ true → is_wide_at ts ≡ false
over-plain mode t [] h = refl
over-plain mode (One s) (next ∷ ts) h = absurd (false≢true h)
over-plain mode Star (next ∷ ts) h = absurd (false≢true h)
over-plain mode Deep (next ∷ ts) h = passed-plain mode next h

within-cases : (w k n st : Bool) → ((w && n) || (k && st)) ≡ ((st && k) || (w && n))
within-cases true true true true = refl
within-cases true true true false = refl
within-cases true true false true = refl
within-cases true true false false = refl
within-cases true false true true = refl
within-cases true false true false = refl
within-cases true false false true = refl
within-cases true false false false = refl
within-cases false true true true = refl
within-cases false true true false = refl
within-cases false true false true = refl
within-cases false true false false = refl
within-cases false false true true = refl
within-cases false false true false = refl
within-cases false false false true = refl
within-cases false false false false = refl

module _ (parts : TokenList) (case : Case) (b : ℕ) (text : List ℕ) where
  -- what the tokens from a place on do with the text and the byte before it, from within the first
  pub within-step : (i : ℕ) → i < length parts.tokens
      → matches_within parts.mode case (drop i parts.tokens) (b ∷ text)
      ≡ (took parts case b text (suc i) || (is_wide_at (drop i parts.tokens) && matches parts.mode case (drop (suc i) parts.tokens) (b ∷ text)))
  within-step i h =
      let ts = parts.tokens in
      let here = from-place ts i h in
      let t = get_or ts i Star in
      let rest = drop (suc i) ts in
      let step : matches_within parts.mode case (t ∷ rest) (b ∷ text)
      ≡ (((if is_wide t then matches_within parts.mode case (t ∷ rest) text else matches parts.mode case rest text) && takes_byte parts.mode case t b) || (is_wide t && matches parts.mode case rest (b ∷ text))) =
      matches_within-byte parts.mode case t rest b text
      ∙ within-cases (is_wide t) (takes_byte parts.mode case t b) (matches parts.mode case rest (b ∷ text)) (if is_wide t then matches_within parts.mode case (t ∷ rest) text else matches parts.mode case rest text) in
      subst (λ xs. matches_within parts.mode case xs (b ∷ text)
      ≡ (((if is_wide_at xs then matches_within parts.mode case xs text else matches parts.mode case rest text) && takes_at parts.mode case xs b) || (is_wide_at xs && matches parts.mode case rest (b ∷ text)))) (sym here) step

  -- where the next token is wide, what it matches from within is what was taken there, or what the tokens behind it match
  wide-cases : (w t m s : Bool) → (if w then (t || (w && m)) else m) ≡ s → ((w && t) || m) ≡ s
  wide-cases true t m s e = e
  wide-cases false t m s e = e

  -- what stands at a place: what was taken there and stays, or what the tokens behind it match
  pub stands-step : (i : ℕ) → i ≤ length parts.tokens
      → stands parts case i (b ∷ text) ≡ ((is_wide_before parts i && took parts case b text i) || matches parts.mode case (drop i parts.tokens) (b ∷ text))
  stands-step zero h = refl
  stands-step (suc i) h = sym (wide-cases (is_wide_at (drop i parts.tokens)) (took parts case b text (suc i)) (matches parts.mode case (drop (suc i) parts.tokens) (b ∷ text)) (stands parts case (suc i) (b ∷ text))
      (ap (λ x. if is_wide_at (drop i parts.tokens) then x else matches parts.mode case (drop (suc i) parts.tokens) (b ∷ text)) (sym (within-step i (omega arith)))))

  absorbs : (t w m q : Bool) → q ≡ ((w && t) || m) → (t || (w && m)) ≡ (t || (w && q))
  absorbs true w m q e = refl
  absorbs false true m q e = sym e
  absorbs false false m q e = refl

  over-same : (o w m q : Bool) → (o ≡ true → w ≡ false) → q ≡ (if w then q else m) → (o && m) ≡ (o && q)
  over-same false w m q plain e = refl
  over-same true true m q plain e = absurd (true≢false (plain refl))
  over-same true false m q plain e = sym e

  over-at : (i : ℕ) → i < length parts.tokens → may_pass_over_at parts.mode (drop i parts.tokens) ≡ true → is_wide_at (drop (suc i) parts.tokens) ≡ false
  over-at i h over =
      let here = from-place parts.tokens i h in
      over-plain parts.mode (get_or parts.tokens i Star) (drop (suc i) parts.tokens) (sym (ap (may_pass_over_at parts.mode) here) ∙ over)

  -- what the tokens from a place on match, by what stands at the next two
  pub matches-step : (i : ℕ) → i < length parts.tokens
      → matches parts.mode case (drop i parts.tokens) (b ∷ text)
      ≡ ((took parts case b text (suc i) || (is_wide_before parts (suc i) && stands parts case (suc i) (b ∷ text)))
      || (is_over_before parts (suc (suc i)) && stands parts case (suc (suc i)) (b ∷ text)))
  matches-step i h =
      let ts = parts.tokens in
      let here = from-place ts i h in
      let t = get_or ts i Star in
      let rest = drop (suc i) ts in
      let over = may_pass_over_at parts.mode (drop i ts) in
      let come : matches parts.mode case (drop i ts) (b ∷ text) ≡ (matches_within parts.mode case (drop i ts) (b ∷ text) || (over && matches parts.mode case (drop (suc (suc i)) ts) (b ∷ text))) =
      subst (λ xs. matches parts.mode case xs (b ∷ text) ≡ (matches_within parts.mode case xs (b ∷ text) || (may_pass_over_at parts.mode xs && matches parts.mode case (drop (suc (suc i)) ts) (b ∷ text)))) (sym here)
      (comes parts.mode case t rest (b ∷ text) ∙ ap (λ xs. matches_within parts.mode case (t ∷ rest) (b ∷ text) || (may_pass_over_at parts.mode (t ∷ rest) && matches parts.mode case xs (b ∷ text))) (drop-one ts (suc i))) in
      come
      ∙ ap (λ x. x || (over && matches parts.mode case (drop (suc (suc i)) ts) (b ∷ text)))
      (within-step i h ∙ absorbs (took parts case b text (suc i)) (is_wide_at (drop i ts)) (matches parts.mode case (drop (suc i) ts) (b ∷ text)) (stands parts case (suc i) (b ∷ text)) (stands-step (suc i) (omega arith)))
      ∙ ap (λ x. (took parts case b text (suc i) || (is_wide_at (drop i ts) && stands parts case (suc i) (b ∷ text))) || x)
      (over-same over (is_wide_at (drop (suc i) ts)) (matches parts.mode case (drop (suc (suc i)) ts) (b ∷ text)) (stands parts case (suc (suc i)) (b ∷ text)) (over-at i h) (whole (suc i)))
    where
      whole : (j : ℕ) → stands parts case (suc j) (b ∷ text)
          ≡ (if is_wide_at (drop j parts.tokens) then stands parts case (suc j) (b ∷ text) else matches parts.mode case (drop (suc j) parts.tokens) (b ∷ text))
      whole j = elim (cases_Bool (is_wide_at (drop j parts.tokens))) [
        | inl e ↦ rw e refl
        | inr e ↦ rw e refl
      ]
