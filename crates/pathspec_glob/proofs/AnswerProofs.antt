-- An answer that is the function's is the relation's, within the bound.
use Rattle.std.proofs.Common.{◌≡◌, ℕ, ◌+◌, ◌-◌, ◌*◌, ◌≤◌, ◌<◌, ◌^◌, ◌&&◌, Bool, true, false, inl, inr, refl, sym, ◌∙◌, ap, subst, arith, List, [], ◌∷◌, length, drop, get_or, if◌then◌else◌}
use Rattle.std.proofs.lemmas.Bool.{cases_Bool, and_parts, eqb-true, not-true}
use Rattle.std.proofs.Math.Nat.{mul-le-mul, add-mul}
use Rattle.std.proofs.lemmas.List.{length-map}
use Rattle.std.specs.Prelude.{not, ◌==◌}
use Rattle.std.specs.List.{list_any}
use Rattle.pathspec_glob.proofs.Words.{Mode, Shell, PathAware, Case, star, is_wildcard, tokens, matches, TokenList, GlobSource, AnswersGlob, AnswersTail, is_tail_pattern, listed, listed_tokens}
use Rattle.pathspec_glob.specs.GlobParts.{middle_of, takes_front, takes_end, behind_front, before_end, IsParted}
use Rattle.pathspec_glob.proofs.ByteSetProofs.{matches-listed, plain-listed}
use Rattle.pathspec_glob.proofs.GlobProofs.{glob_is_relation}
use Rattle.pathspec_glob.proofs.TokenProofs.{few_tokens, few_listed}
use Rattle.pathspec_glob.proofs.TailProofs.{matches-ends_with, tail-fits, tokens-tail}
use Rattle.pathspec_glob.proofs.PartProofs.{middle-deep, middle-star, middle-few, length-parts}
use Rattle.pathspec_glob.proofs.EndProofs.{parts-match}

-- the least count, for a tail pattern and for others
least_steps : (mode : Mode) (case : Case) (pattern text : List ℕ) (given : Bool) (steps : ℕ)
    → given ≡ matches mode case (tokens mode pattern) text → (given ≡ true → length text ≤ steps)
    → given ≡ true → (if is_tail_pattern pattern then length (drop 1 pattern) else length text) ≤ steps
least_steps mode case pattern text given steps is read h = elim (cases_Bool (is_tail_pattern pattern)) [
  | inl t ↦ rw t (let fits = tail-fits mode case pattern text t (sym is ∙ h) in let all = read h in omega arith)
  | inr t ↦ rw t (read h)
]

answers : (mode : Mode) (case : Case) (pattern text : List ℕ) (given : Bool) (steps : ℕ)
    → given ≡ matches mode case (tokens mode pattern) text → steps ≤ (length pattern + 1) * length text → (given ≡ true → length text ≤ steps)
    → AnswersGlob mode case pattern text given steps
answers mode case pattern text given steps is most read =
    let relation = glob_is_relation mode case (tokens mode pattern) text in
    record {
      relation = (λ h. relation.0 (sym is ∙ h), λ m. is ∙ relation.1 m);
      bound = let wider = mul-le-mul {n₁ = length pattern + 1} {m₁ = length text} {n₂ = length pattern + 1} {m₂ = length text + 1} (omega arith) (omega arith) in omega arith;
      least = least_steps mode case pattern text given steps is read;
    }

-- the same of a glob that is seen as its mode and its pattern
pub glob-answers : (mode : Mode) (pattern : List ℕ) (glob : GlobSource) (case : Case) (text : List ℕ) (given : Bool) (steps : ℕ)
    → record { mode = mode; pattern = pattern } ≡ glob
    → given ≡ matches mode case (tokens mode pattern) text → steps ≤ (length pattern + 1) * length text → (given ≡ true → length text ≤ steps)
    → AnswersGlob glob.mode case glob.pattern text given steps
glob-answers mode pattern glob case text given steps view is most read =
    subst (λ g. AnswersGlob g.mode case g.pattern text given steps) view (answers mode case pattern text given steps is most read)

pub glob-answers-tail : (mode : Mode) (pattern : List ℕ) (glob : GlobSource) (case : Case) (text : List ℕ) (given : Bool)
    → record { mode = mode; pattern = pattern } ≡ glob
    → given ≡ matches mode case (tokens mode pattern) text
    → AnswersTail glob.mode case glob.pattern text given
glob-answers-tail mode pattern glob case text given view is =
    subst (λ g. AnswersTail g.mode case g.pattern text given) view (λ tail apart. is ∙ matches-ends_with mode case pattern text tail apart)

-- ---- the parts of a glob

module _ (mode : Mode) (case : Case) (pattern : List ℕ) (h m t : TokenList) (parted : IsParted mode pattern h m t) (text : List ℕ) (fit : (k : ℕ) → get_or text k 0 < 256) where
  -- a glob matches where its parts do
  whole : matches mode case (tokens mode pattern) text ≡ (takes_end t case text && (takes_front h case (before_end t text) && matches m.mode case m.tokens (behind_front h (before_end t text))))
  whole = rw (parted.head_is, parted.middle_is, parted.tail_is) (sym (matches-listed mode case (tokens mode pattern) text fit) ∙ parts-match mode case (listed_tokens mode pattern) text)

  -- where the tail takes no end, it doesn't match
  pub no-end : false ≡ takes_end t case text → false ≡ matches mode case (tokens mode pattern) text
  no-end off = sym (whole ∙ rw (sym off) refl)

  -- nor where the head takes no front
  pub no-front : (before : List ℕ) → before ≡ before_end t text → true ≡ takes_end t case text → false ≡ takes_front h case before → false ≡ matches mode case (tokens mode pattern) text
  no-front before is on off = sym (whole ∙ rw (sym on, sym (off ∙ ap (takes_front h case) is)) refl)

  -- and where both do, what stands between decides
  pub between-decides : (before between : List ℕ) (given : Bool) → before ≡ before_end t text → true ≡ takes_end t case text → between ≡ behind_front h before → true ≡ takes_front h case before
      → given ≡ matches m.mode case m.tokens between → given ≡ matches mode case (tokens mode pattern) text
  between-decides before between given is on behind front found =
      found ∙ ap (matches m.mode case m.tokens) (behind ∙ ap (behind_front h) is) ∙ sym (whole ∙ rw (sym on, sym (front ∙ ap (takes_front h case) is)) refl)

  -- ---- steps

  few-middle : length m.tokens ≤ length pattern
  few-middle = let few = few_listed mode pattern in let some = middle-few mode (listed_tokens mode pattern) in rw parted.middle_is (omega arith)

  pub few-steps : (steps : ℕ) → steps ≤ length text → steps ≤ (length pattern + 1) * length text
  few-steps steps few = let more = mul-le-mul {n₁ = 1} {m₁ = length text} {n₂ = length pattern + 1} {m₂ = length text} (omega arith) (omega arith) in omega arith

  pub all-steps : (before between steps : ℕ) → before + between ≡ length text → steps ≤ before + length m.tokens * between → steps ≤ (length pattern + 1) * length text
  all-steps before between steps parts most =
      let few = few-middle in
      let wider = mul-le-mul {n₁ = length m.tokens} {m₁ = between} {n₂ = length pattern} {m₂ = length text} few (omega arith) in
      let both : (length pattern + 1) * length text ≡ length pattern * length text + 1 * length text = add-mul (length pattern) 1 (length text) in
      omega arith

  -- they fit
  pub steps-fit : (before between : ℕ) → before + between ≡ length text → length pattern < 2 ^ 64 → length text < 2 ^ 64 → before + length m.tokens * between < 2 ^ 128
  steps-fit before between parts pattern_fits text_fits =
      let most = all-steps before between (before + length m.tokens * between) parts (omega arith) in
      let wider = mul-le-mul {n₁ = length pattern + 1} {m₁ = length text} {n₂ = 2 ^ 64} {m₂ = 2 ^ 64 - 1} (omega arith) (omega arith) in
      omega arith

-- between the star of a tail pattern and its rest stands nothing else
middle-alone : (mode : Mode) (pattern : List ℕ) → is_tail_pattern pattern ≡ true → length (middle_of mode (listed_tokens mode pattern)) ≡ 1
middle-alone mode [] tail = cc
middle-alone Shell (b ∷ rest) tail =
    let p = and_parts (b == star) (not (list_any is_wildcard rest)) tail in
    rw (eqb-true b star p.0, tokens-tail Shell rest (not-true (list_any is_wildcard rest) p.1), plain-listed rest, middle-deep rest) refl
middle-alone PathAware (b ∷ rest) tail =
    let p = and_parts (b == star) (not (list_any is_wildcard rest)) tail in
    rw (eqb-true b star p.0, tokens-tail PathAware rest (not-true (list_any is_wildcard rest) p.1), plain-listed rest, middle-star rest) refl

-- a tail pattern takes a step a byte at most
pub tail-steps : (mode : Mode) (pattern : List ℕ) (h m t : TokenList) → IsParted mode pattern h m t → (glob : GlobSource) → record { mode = mode; pattern = pattern } ≡ glob
    → (text : List ℕ) (before between steps : ℕ) → before + between ≡ length text → steps ≤ before + length m.tokens * between → is_tail_pattern glob.pattern ≡ true → steps ≤ length text
tail-steps mode pattern h m t parted glob view text before between steps parts most tail =
    let one : length m.tokens ≡ 1 = rw parted.middle_is (middle-alone mode pattern (ap (λ g. is_tail_pattern g.pattern) view ∙ tail)) in
    let few = rw one at most in
    omega arith

-- the parts have as many tokens as the pattern
pub parts-count : (mode : Mode) (pattern : List ℕ) (h m t : TokenList) → IsParted mode pattern h m t → length h.tokens + length m.tokens + length t.tokens ≡ length (tokens mode pattern)
parts-count mode pattern h m t parted = rw (parted.head_is, parted.middle_is, parted.tail_is) (length-parts mode (listed_tokens mode pattern)) ∙ length-map (tokens mode pattern) listed

pub parts-few : (mode : Mode) (pattern : List ℕ) (h m t : TokenList) → IsParted mode pattern h m t → length h.tokens + length m.tokens + length t.tokens ≤ length pattern
parts-few mode pattern h m t parted = let all = parts-count mode pattern h m t parted in let few = few_tokens mode pattern in omega arith
