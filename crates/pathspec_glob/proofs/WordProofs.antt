-- The words of tokens hold what their cells say.
use Rattle.std.proofs.Common.{◌≡◌, ℕ, zero, suc, ◌+◌, ◌-◌, ◌<◌, ◌≤◌, Bool, true, false, not, ◌&&◌, ◌||◌, refl, sym, ◌∙◌, ap, add-one, arith, List, [], ◌∷◌, length, drop, get_or, inl, inr, ◌==◌, if◌then◌else◌}
use Rattle.std.proofs.Math.Bool.{or-false, not-not}
use Rattle.std.proofs.lemmas.Bool.{cases_Bool, and_parts, eqb-true}
use Rattle.pathspec_glob.proofs.Words.{Mode, Case, slash, OneByte, Token, One, Star, Deep, TokenList, is_wide, is_wide_at, may_pass_over_at}
use Rattle.pathspec_glob.specs.declared.tokens.word.Question.{Question}
use Rattle.pathspec_glob.specs.declared.tokens.word.Question.TheVariants.{Takes, Loops, Skips}
use Rattle.pathspec_glob.specs.GlobCells.{SelfLoop, Rules, Masked, IsTable, alternates, alternates_behind, answers, cell_count, cells_of, further, has, keeps, loop_behind, over_at, set_of, with_first}
use Rattle.pathspec_glob.specs.GlobCells.SelfLoop.{Nothing, Names, Anything}
use Rattle.pathspec_glob.proofs.AcceptProofs.{from-place}

-- ---- the states of tokens

further-same : (first : Bool) (f g : ℕ → Bool) → ((i : ℕ) → i < 64 → f i ≡ g i) → (i : ℕ) → i < 64 → further first f i ≡ further first g i
further-same first f g same zero h = refl
further-same first f g same (suc i) h = same i (omega arith)

with_first-same : (more : Bool) (f g : ℕ → Bool) → ((i : ℕ) → i < 64 → f i ≡ g i) → (i : ℕ) → i < 64 → with_first more f i ≡ with_first more g i
with_first-same more f g same zero h = ap (λ x. x || more) (same 0 h)
with_first-same more f g same (suc i) h = same (suc i) h

-- the tokens from the place before
pub before-place : (ts : List Token) (place : ℕ) → 0 < place → place ≤ length ts → drop (place - 1) ts ≡ get_or ts (place - 1) Star ∷ drop place ts
before-place ts zero some within = absurd (let no : ⊥ = omega arith in no)
before-place ts (suc place) some within = let less : suc place - 1 ≡ place = omega arith in rw less (from-place ts place (omega arith))

-- one token more
pub set-more : (mode : Mode) (question : Question) (ts : List Token) (place : ℕ) (word : ℕ → Bool) → 0 < place → place ≤ length ts
    → ((i : ℕ) → i < 64 → word i ≡ set_of mode question (drop place ts) i) → (i : ℕ) → i < 64
    → (if is_wide_at (drop (place - 1) ts) then with_first (answers mode question (drop (place - 1) ts)) word i else further (answers mode question (drop (place - 1) ts)) word i)
    ≡ set_of mode question (drop (place - 1) ts) i
set-more mode question ts place word some within holds i h =
    let yes = answers mode question (get_or ts (place - 1) Star ∷ drop place ts) in
    let set = set_of mode question (drop place ts) in
    rw (before-place ts place some within, with_first-same yes word set holds i h, further-same yes word set holds i h) refl

-- ---- cells

-- the cells are as many as the tokens for one byte
pub length-cells_of : (mode : Mode) (loop : SelfLoop) (ts : List Token) → length (cells_of mode loop ts) ≡ cell_count ts
length-cells_of mode loop [] = refl
length-cells_of mode loop (One s ∷ ts) = ap suc (length-cells_of mode Nothing ts)
length-cells_of mode loop (Star ∷ ts) = length-cells_of mode Names ts
length-cells_of mode loop (Deep ∷ ts) = length-cells_of mode Anything ts

-- a loop that takes any number of bytes
abbrev pub is_loop : SelfLoop → Bool
is_loop Nothing = false
is_loop Names = true
is_loop Anything = true

pub alternates-loop : (loop : SelfLoop) (ts : List Token) → alternates_behind (is_loop loop) ts ≡ true → alternates loop ts ≡ true
alternates-loop loop [] h = refl
alternates-loop loop (One s ∷ ts) h = alternates-loop Nothing ts (and_parts (not (is_loop loop && false)) (alternates_behind false ts) h).1
alternates-loop Nothing (Star ∷ ts) h = alternates-loop Names ts h
alternates-loop Nothing (Deep ∷ ts) h = alternates-loop Anything ts h
alternates-loop Names (Star ∷ ts) h = cc
alternates-loop Names (Deep ∷ ts) h = cc
alternates-loop Anything (Star ∷ ts) h = cc
alternates-loop Anything (Deep ∷ ts) h = cc

-- the first place may be passed over, where this loop stands before the tokens
abbrev pub first_passed : Mode → SelfLoop → List Token → Bool
first_passed mode Nothing ts = false
first_passed mode Names ts = false
first_passed mode Anything ts = may_pass_over_at mode (Deep ∷ ts)

pub with_first-none : (f : ℕ → Bool) (i : ℕ) → with_first false f i ≡ f i
with_first-none f zero = or-false (f 0)
with_first-none f (suc i) = refl

star-stands : (mode : Mode) (ts : List Token) → may_pass_over_at mode (Star ∷ ts) ≡ false
star-stands mode [] = refl
star-stands mode (t ∷ ts) = refl

one-stands : (mode : Mode) (single : OneByte) (ts : List Token) → may_pass_over_at mode (One single ∷ ts) ≡ false
one-stands mode single [] = refl
one-stands mode single (t ∷ ts) = refl

-- Sets that hold what takes a byte, loops at it and may be skipped keep the rules of the cells.
pub rules-of : (mode : Mode) (case : Case) (loop : SelfLoop) (ts : List Token) (t l p : ℕ → Bool) (b : ℕ) → alternates loop ts ≡ true
    → ((i : ℕ) → i ≤ length (cells_of mode loop ts) → t i ≡ set_of mode (Takes b case) ts i)
    → ((i : ℕ) → i ≤ length (cells_of mode loop ts) → l i ≡ with_first (keeps loop b) (set_of mode (Loops b) ts) i)
    → ((i : ℕ) → i ≤ length (cells_of mode loop ts) → p i ≡ with_first (first_passed mode loop ts) (set_of mode Skips ts) i)
    → Rules mode case (cells_of mode loop ts) (loop_behind loop ts) t l p b
rules-of mode case loop [] t l p b alt taken kept passed = kept 0 (omega arith)
rules-of mode case loop (One s ∷ ts) t l p b alt taken kept passed = (
  taken 0 (omega arith),
  kept 0 (omega arith),
  first-over loop (rw (one-stands mode s ts) at (passed 0 (omega arith))),
  rules-of mode case Nothing ts (λ i. t (suc i)) (λ i. l (suc i)) (λ i. p (suc i)) b alt (λ i h. taken (suc i) (omega arith))
      (λ i h. kept (suc i) (omega arith) ∙ sym (with_first-none (set_of mode (Loops b) ts) i))
      (λ i h. passed (suc i) (omega arith) ∙ sym (with_first-none (set_of mode Skips ts) i)),
) where
  first-over : (loop : SelfLoop) → p 0 ≡ first_passed mode loop (One s ∷ ts) → p 0 ≡ over_at mode loop s
  first-over Nothing h = h
  first-over Names h = h
  first-over Anything h = h
rules-of mode case Nothing (Star ∷ ts) t l p b alt taken kept passed =
    rules-of mode case Names ts t l p b alt (λ i h. taken i h ∙ with_first-none (set_of mode (Takes b case) ts) i)
    (λ i h. kept i h ∙ with_first-none (set_of mode (Loops b) (Star ∷ ts)) i)
    (λ i h. passed i h ∙ with_first-none (set_of mode Skips (Star ∷ ts)) i ∙ ap (λ x. with_first x (set_of mode Skips ts) i) (star-stands mode ts))
rules-of mode case Nothing (Deep ∷ ts) t l p b alt taken kept passed =
    rules-of mode case Anything ts t l p b alt (λ i h. taken i h ∙ with_first-none (set_of mode (Takes b case) ts) i)
    (λ i h. kept i h ∙ with_first-none (set_of mode (Loops b) (Deep ∷ ts)) i)
    (λ i h. passed i h ∙ with_first-none (set_of mode Skips (Deep ∷ ts)) i)
rules-of mode case Names (Star ∷ ts) t l p b alt taken kept passed = cc
rules-of mode case Names (Deep ∷ ts) t l p b alt taken kept passed = cc
rules-of mode case Anything (Star ∷ ts) t l p b alt taken kept passed = cc
rules-of mode case Anything (Deep ∷ ts) t l p b alt taken kept passed = cc

-- what loops at any byte other than a slash
kept-other : (mode : Mode) (ts : List Token) (b i : ℕ) → b == slash ≡ false → set_of mode (Loops 0) ts i ≡ set_of mode (Loops b) ts i
kept-other mode [] b i h = refl
kept-other mode (One s ∷ ts) b zero h = refl
kept-other mode (One s ∷ ts) b (suc i) h = kept-other mode ts b i h
kept-other mode (Star ∷ ts) b zero h = rw (kept-other mode ts b 0 h, h) refl
kept-other mode (Star ∷ ts) b (suc i) h = kept-other mode ts b (suc i) h
kept-other mode (Deep ∷ ts) b zero h = ap (λ x. x || true) (kept-other mode ts b 0 h)
kept-other mode (Deep ∷ ts) b (suc i) h = kept-other mode ts b (suc i) h

kept-byte : (mode : Mode) (ts : List Token) (self_loops slash_loops b i : ℕ) → has self_loops i ≡ set_of mode (Loops 0) ts i → has slash_loops i ≡ set_of mode (Loops slash) ts i
    → has (if b == slash then slash_loops else self_loops) i ≡ set_of mode (Loops b) ts i
kept-byte mode ts self_loops slash_loops b i l d = elim (cases_Bool (b == slash)) [
  | inl e ↦ rw (e, d, eqb-true b slash e) refl
  | inr e ↦ rw (e, l) (kept-other mode ts b i e)
]

-- The words of tokens are masks of their cells.
pub masked : (parts : TokenList) (case : Case) (rows : List ℕ) (self_loops slash_loops skippable : ℕ) → cell_count parts.tokens < 64 → alternates_behind false parts.tokens ≡ true
    → IsTable parts case rows → ((i : ℕ) → i < 64 → has self_loops i ≡ set_of parts.mode (Loops 0) parts.tokens i) → ((i : ℕ) → i < 64 → has slash_loops i ≡ set_of parts.mode (Loops slash) parts.tokens i)
    → ((i : ℕ) → i < 64 → has skippable i ≡ set_of parts.mode Skips parts.tokens i) → ((i : ℕ) → (has skippable i && has skippable (suc i)) ≡ false)
    → Masked parts.mode case (cells_of parts.mode Nothing parts.tokens) (loop_behind Nothing parts.tokens) rows self_loops slash_loops skippable
masked parts case rows self_loops slash_loops skippable few alternate table loops_are loops_at_slash_are skippable_are apart =
    let ts = parts.tokens in
    let size = length-cells_of parts.mode Nothing ts in
    record {
      few = omega (arith, few, size);
      rules = λ b fits. rules-of parts.mode case Nothing ts (λ i. not (has (get_or rows b 0) i)) (has (if b == slash then slash_loops else self_loops)) (has skippable) b (alternates-loop Nothing ts alternate)
          (λ i h. ap not (table b i fits (omega (arith, few, size, h))) ∙ not-not (set_of parts.mode (Takes b case) ts i))
          (λ i h. let low : i < 64 = omega (arith, few, size, h) in kept-byte parts.mode ts self_loops slash_loops b i (loops_are i low) (loops_at_slash_are i low) ∙ sym (with_first-none (set_of parts.mode (Loops b) ts) i))
          (λ i h. skippable_are i (omega (arith, few, size, h)) ∙ sym (with_first-none (set_of parts.mode Skips ts) i));
      apart = λ i h. apart i;
    }

-- ---- loops over tokens

cell_count-token : (t : Token) (ts : List Token) → cell_count (t ∷ ts) ≡ (if is_wide t then cell_count ts else suc (cell_count ts))
cell_count-token (One s) ts = refl
cell_count-token Star ts = refl
cell_count-token Deep ts = refl

token-at : (ts : List Token) (place : ℕ) → place < length ts → drop place ts ≡ get_or ts place Star ∷ drop (place + 1) ts
token-at ts place h = rw (add-one place) (from-place ts place h)

-- the cells from a place on, where its token takes any number of bytes or not
pub cells-from : (ts : List Token) (place : ℕ) (wide : Bool) → place < length ts → wide ≡ is_wide_at (drop place ts)
    → cell_count (drop place ts) ≡ (if wide then cell_count (drop (place + 1) ts) else suc (cell_count (drop (place + 1) ts)))
cells-from ts place wide h is = rw (is, token-at ts place h) (cell_count-token (get_or ts place Star) (drop (place + 1) ts))
