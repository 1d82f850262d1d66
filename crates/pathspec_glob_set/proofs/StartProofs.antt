-- The row of the empty text.
use Rattle.std.proofs.Common.{◌≡◌, ℕ, zero, suc, ◌+◌, ◌-◌, ◌<◌, ◌≤◌, Bool, true, false, ◌&&◌, ◌||◌, ◌==◌, refl, sym, ◌∙◌, ap, subst, arith, inl, inr, List, [], ◌∷◌, length, get_or, drop, if◌then◌else◌}
use Rattle.std.proofs.Math.Bool.{and_comm, and-false}
use Rattle.std.proofs.lemmas.Bool.{cases_lt, eq-eqb, ne_eqb}
use Rattle.std.proofs.Math.ListN.{drop_of_length-le}
use Rattle.pathspec_glob.specs.declared.Case.{Case}
use Rattle.pathspec_glob.specs.declared.Mode.{Mode}
use Rattle.pathspec_glob.proofs.Words.{Star, matches, is_wide_at, may_pass_over_at, TokenList}
use Rattle.pathspec_glob.proofs.AcceptProofs.{comes, matches_within-end, from-place, drop-one}
use Rattle.pathspec_glob.specs.StateSets.{matches_within}
use Rattle.pathspec_glob.specs.GlobCells.{further}
use Rattle.pathspec_glob.specs.BitVecs.{holds}
use Rattle.pathspec_glob_set.specs.declared.member.Member.{Member}
use Rattle.pathspec_glob_set.specs.Meanings.{is_over_before, is_wide_before, stands}
use Rattle.pathspec_glob_set.specs.Rows.{leads_on, IsClosedRow}
use Rattle.pathspec_glob_set.specs.Sets.{size_of, AreEnds, IsAt, IsColumn}
use Rattle.pathspec_glob_set.proofs.SetProofs.{and-same, apart, enough, further-none, last-over, or-same}

-- the tokens from a place on match the empty text, as from within the first
within-end : (parts : TokenList) (case : Case) (i : ℕ) → i < length parts.tokens
    → matches_within parts.mode case (drop i parts.tokens) [] ≡ (is_wide_at (drop i parts.tokens) && matches parts.mode case (drop (suc i) parts.tokens) [])
within-end parts case i h =
    let here = from-place parts.tokens i h in
    subst (λ xs. matches_within parts.mode case xs [] ≡ (is_wide_at xs && matches parts.mode case (drop (suc i) parts.tokens) [])) (sym here)
    (matches_within-end parts.mode case (get_or parts.tokens i Star) (drop (suc i) parts.tokens))

chosen : (w m q : Bool) → q ≡ (w && m) → (if w then q else m) ≡ m
chosen true m q e = e
chosen false m q e = refl

-- what stands at a place of the empty text
stands-end : (parts : TokenList) (case : Case) (i : ℕ) → stands parts case i [] ≡ matches parts.mode case (drop i parts.tokens) []
stands-end parts case zero = refl
stands-end parts case (suc i) = elim (cases_lt i (length parts.tokens)) [
  | inl l ↦ chosen (is_wide_at (drop i parts.tokens)) (matches parts.mode case (drop (suc i) parts.tokens) []) (matches_within parts.mode case (drop i parts.tokens) []) (within-end parts case i l)
  | inr g ↦
      let none : drop i parts.tokens ≡ [] = drop_of_length-le parts.tokens {i = i} g in
      ap (λ xs. if is_wide_at xs then matches_within parts.mode case xs [] else matches parts.mode case (drop (suc i) parts.tokens) []) none
]

-- what the tokens from a place on match of it, by what stands at the next two
matches-end : (parts : TokenList) (case : Case) (i : ℕ) → i < length parts.tokens
    → matches parts.mode case (drop i parts.tokens) []
    ≡ ((stands parts case (suc i) [] && is_wide_before parts (suc i)) || (stands parts case (suc (suc i)) [] && is_over_before parts (suc (suc i))))
matches-end parts case i h =
    let ts = parts.tokens in
    let here = from-place ts i h in
    let t = get_or ts i Star in
    let rest = drop (suc i) ts in
    let come : matches parts.mode case (drop i ts) [] ≡ (matches_within parts.mode case (drop i ts) [] || (may_pass_over_at parts.mode (drop i ts) && matches parts.mode case (drop (suc (suc i)) ts) [])) =
    subst (λ xs. matches parts.mode case xs [] ≡ (matches_within parts.mode case xs [] || (may_pass_over_at parts.mode xs && matches parts.mode case (drop (suc (suc i)) ts) []))) (sym here)
    (comes parts.mode case t rest [] ∙ ap (λ xs. matches_within parts.mode case (t ∷ rest) [] || (may_pass_over_at parts.mode (t ∷ rest) && matches parts.mode case xs [])) (drop-one ts (suc i))) in
    come
    ∙ ap (λ x. x || (may_pass_over_at parts.mode (drop i ts) && matches parts.mode case (drop (suc (suc i)) ts) []))
    (within-end parts case i h ∙ and_comm (is_wide_at (drop i ts)) (matches parts.mode case (drop (suc i) ts) []) ∙ ap (λ x. x && is_wide_at (drop i ts)) (sym (stands-end parts case (suc i))))
    ∙ ap (λ x. (stands parts case (suc i) [] && is_wide_at (drop i ts)) || x)
    (and_comm (may_pass_over_at parts.mode (drop i ts)) (matches parts.mode case (drop (suc (suc i)) ts) []) ∙ ap (λ x. x && may_pass_over_at parts.mode (drop i ts)) (sym (stands-end parts case (suc (suc i)))))

nothing-end : (mode : Mode) (case : Case) → matches mode case [] [] ≡ true
unfolding matches
nothing-end mode case = refl

module _ (globs : List Member) (ends : List ℕ) (wide over firsts start : List Bool) (are : AreEnds globs ends)
    (widens : IsColumn globs ends (λ glob i. is_wide_before glob.tokens i) wide) (passes : IsColumn globs ends (λ glob i. is_over_before glob.tokens i) over)
    (behind : IsColumn globs ends (λ glob i. i == size_of glob) firsts) (closed : IsClosedRow wide over firsts start)
    (within : (g : ℕ) → g < length ends → get_or ends g 0 < length firsts) (g : ℕ) (glob : Member) (at : IsAt globs g glob) where
  inside : (i k : ℕ) → k + i ≡ get_or ends g 0 → k < length firsts
  inside i k e = omega (arith, e, within g (omega (arith, at.within, are.len)))

  none-over : (k : ℕ) → k + size_of glob ≡ get_or ends g 0 → further false (λ j. holds start j && holds over j) k ≡ false
  none-over k e = further-none (λ j. holds start j && holds over j) k (λ j next.
      ap (λ x. holds start j && x) (apart globs ends (λ m i. is_over_before m.tokens i) over are passes (λ _. refl) g glob j at (omega (arith, e, next))) ∙ and-false (holds start j))

  -- what stands at a place that isn't the first
  start-next : (i k : ℕ) → suc i ≤ size_of glob → suc k + i ≡ get_or ends g 0
      → holds start k ≡ stands glob.tokens glob.case (suc i) []
      → further false (λ j. holds start j && holds over j) k ≡ (stands glob.tokens glob.case (suc (suc i)) [] && is_over_before glob.tokens (suc (suc i)))
      → holds start (suc k) ≡ stands glob.tokens glob.case i []
  start-next i k low e next second =
      let here : k + suc i ≡ get_or ends g 0 = omega (arith, e) in
      let not_last : (i == size_of glob) ≡ false = ne_eqb i (size_of glob) (λ same. omega (arith, same, low)) in
      closed (suc k) (inside i (suc k) e)
      ∙ or-same (behind g glob i (suc k) at (omega (arith, low)) e ∙ not_last) (or-same (and-same next (widens g glob (suc i) k at low here)) second)
      ∙ sym (matches-end glob.tokens glob.case i (omega (arith, low)))
      ∙ sym (stands-end glob.tokens glob.case i)

  start-all : (p i k : ℕ) → p + i ≡ size_of glob → k + i ≡ get_or ends g 0 → holds start k ≡ stands glob.tokens glob.case i []
  start-all zero i k all e =
      let last : (i == size_of glob) ≡ true = eq-eqb i (size_of glob) (omega (arith, all)) in
      closed k (inside i k e)
      ∙ ap (λ x. x || leads_on (holds wide) (holds over) (holds start) k) (behind g glob i k at (omega (arith, all)) e ∙ last)
      ∙ sym (stands-end glob.tokens glob.case i ∙ ap (λ ts. matches glob.tokens.mode glob.case ts []) (drop_of_length-le glob.tokens.tokens {i = i} (omega (arith, all))) ∙ nothing-end glob.tokens.mode glob.case)
  start-all (suc zero) i zero all e = absurd (let no : ⊥ = omega (arith, all, e, enough globs ends g glob are at) in no)
  start-all (suc zero) i (suc k) all e =
      start-next i k (omega (arith, all)) e (start-all zero (suc i) k (omega (arith, all)) (omega (arith, e)))
      (none-over k (omega (arith, all, e)) ∙ sym (ap (λ x. stands glob.tokens glob.case (suc (suc i)) [] && x) (last-over glob i (omega (arith, all))) ∙ and-false (stands glob.tokens glob.case (suc (suc i)) [])))
  start-all (suc (suc p)) i zero all e = absurd (let no : ⊥ = omega (arith, all, e, enough globs ends g glob are at) in no)
  start-all (suc (suc p)) i (suc zero) all e = absurd (let no : ⊥ = omega (arith, all, e, enough globs ends g glob are at) in no)
  start-all (suc (suc p)) i (suc (suc k)) all e =
      let second : k + suc (suc i) ≡ get_or ends g 0 = omega (arith, e) in
      start-next i (suc k) (omega (arith, all)) e (start-all (suc p) (suc i) (suc k) (omega (arith, all)) (omega (arith, e)))
      (and-same (start-all p (suc (suc i)) k (omega (arith, all)) second) (passes g glob (suc (suc i)) k at (omega (arith, all)) second))

-- The places behind all tokens, and those that they lead to without a byte, are the row of the empty text.
pub start-row : (globs : List Member) (ends : List ℕ) (wide over firsts start : List Bool) → AreEnds globs ends
    → IsColumn globs ends (λ glob i. is_wide_before glob.tokens i) wide → IsColumn globs ends (λ glob i. is_over_before glob.tokens i) over
    → IsColumn globs ends (λ glob i. i == size_of glob) firsts → IsClosedRow wide over firsts start
    → ((g : ℕ) → g < length ends → get_or ends g 0 < length firsts)
    → IsColumn globs ends (λ glob i. stands glob.tokens glob.case i []) start
start-row globs ends wide over firsts start are widens passes behind closed within g glob i k at low e =
    start-all globs ends wide over firsts start are widens passes behind closed within g glob at (size_of glob - i) i k (omega (arith, low)) e
