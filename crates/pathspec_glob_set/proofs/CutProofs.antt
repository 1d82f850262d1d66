-- Globs that cut: what the row that a text leads to says of those before them.
use Rattle.std.proofs.Common.{◌≡◌, ℕ, zero, suc, ◌+◌, ◌-◌, ◌<◌, ◌⊎◌, Bool, true, false, ◌&&◌, ◌||◌, refl, sym, ◌∙◌, ap, subst, arith, inl, inr, List, [], ◌∷◌, length, get_or, drop, if◌then◌else◌}
use Rattle.std.proofs.Math.Bool.{and_comm, and-false}
use Rattle.std.proofs.lemmas.Bool.{cases_Bool, cases_eq, cases_lt, false≢true, true≢false}
use Rattle.std.proofs.lemmas.List.{get_or_default}
use Rattle.pathspec_glob.specs.declared.Case.{Case}
use Rattle.pathspec_glob.specs.declared.Mode.{Mode}
use Rattle.pathspec_glob.proofs.Words.{Token, One, Star, Deep, matches, is_wide_at, may_pass_over_at, takes_at}
use Rattle.pathspec_glob.specs.StateSets.{matches_within}
use Rattle.pathspec_glob.specs.Bytes.{slash}
use Rattle.pathspec_glob.specs.BitVecs.{holds}
use Rattle.pathspec_glob.proofs.AcceptProofs.{comes, matches_within-byte}
use Rattle.pathspec_glob_set.specs.declared.table.moves.Moves.{Moves}
use Rattle.pathspec_glob_set.specs.declared.member.Member.{Member}
use Rattle.pathspec_glob_set.specs.Meanings.{is_settled_by, is_wide_before, may_cut, stands, takes_before}
use Rattle.pathspec_glob_set.specs.Rows.{is_settled}
use Rattle.pathspec_glob_set.specs.Moves.{takes_of, IsStep, LeadsTo}
use Rattle.pathspec_glob_set.specs.Moves.LeadsTo.{empty, byte}
use Rattle.pathspec_glob_set.specs.Sets.{member_matches, size_of, AreMovesOf, IsAt, IsUnsettled, SaysOf}
use Rattle.pathspec_glob_set.proofs.SetProofs.{and-same, apart, enough, stepped}
use Rattle.pathspec_glob_set.proofs.ColumnProofs.{later, same-glob}

-- ---- a glob that is settled

left-true : (a b : Bool) → (a && b) ≡ true → a ≡ true
left-true true b e = refl
left-true false b e = e

right-true : (a b : Bool) → (a && b) ≡ true → b ≡ true
right-true true b e = e
right-true false b e = absurd (false≢true e)

last-true : (m x : Bool) → x ≡ true → (m || x) ≡ true
last-true true x e = refl
last-true false x e = e

-- what the tokens match from behind the first, where that takes any number of bytes from within it
abbrev within_first : Mode → Case → List Token → List ℕ → Bool
within_first mode case ts text = if is_wide_at (drop 0 ts) then matches_within mode case (drop 0 ts) text else matches mode case (drop 1 ts) text

-- what tokens match from within a first one that takes any bytes, they match, and also with a byte before it
settled-tokens : (mode : Mode) (case : Case) (ts : List Token) (text : List ℕ) → (is_wide_at (drop 0 ts) && takes_at mode case (drop 0 ts) slash) ≡ true → within_first mode case ts text ≡ true
    → (matches mode case ts text ≡ true) × ((b : ℕ) → within_first mode case ts (b ∷ text) ≡ true)
settled-tokens mode case [] text any within = absurd (false≢true any)
settled-tokens mode case (One s ∷ ts) text any within = absurd (false≢true any)
settled-tokens mode case (Star ∷ ts) text any within = absurd (false≢true any)
settled-tokens mode case (Deep ∷ ts) text any within = (
  comes mode case Deep ts text ∙ ap (λ x. x || (may_pass_over_at mode (Deep ∷ ts) && matches mode case (drop 1 ts) text)) within,
  λ b. matches_within-byte mode case Deep ts b text ∙ last-true (matches mode case ts (b ∷ text)) (matches_within mode case (Deep ∷ ts) text) within,
)

module _ (glob : Member) (text : List ℕ) (settled : is_settled_by glob text ≡ true) where
  any-first : may_cut glob 1 ≡ true
  any-first = left-true (may_cut glob 1) (stands glob.tokens glob.case 1 text) settled

  both : (matches glob.tokens.mode glob.case glob.tokens.tokens text ≡ true) × ((b : ℕ) → within_first glob.tokens.mode glob.case glob.tokens.tokens (b ∷ text) ≡ true)
  both = settled-tokens glob.tokens.mode glob.case glob.tokens.tokens text
      (right-true glob.cuts (is_wide_before glob.tokens 1 && takes_before glob.tokens glob.case 1 slash) any-first)
      (right-true (may_cut glob 1) (stands glob.tokens glob.case 1 text) settled)

  pub settled-cuts : glob.cuts ≡ true
  settled-cuts = left-true glob.cuts (is_wide_before glob.tokens 1 && takes_before glob.tokens glob.case 1 slash) any-first

  pub settled-matches : member_matches glob text ≡ true
  settled-matches = both.0

  pub settled-more : (b : ℕ) → is_settled_by glob (b ∷ text) ≡ true
  settled-more b = ap (λ x. x && stands glob.tokens glob.case 1 (b ∷ text)) any-first ∙ both.1 b

-- where a glob isn't settled with a byte more, it wasn't
unsettled-before : (glob : Member) (b : ℕ) (text : List ℕ) → is_settled_by glob (b ∷ text) ≡ false → is_settled_by glob text ≡ false
unsettled-before glob b text e = elim (cases_Bool (is_settled_by glob text)) [
  | inl settled ↦ absurd (true≢false (sym (settled-more glob text settled b) ∙ e))
  | inr unsettled ↦ unsettled
]

-- ---- the row that a text leads to

module _ (globs : List Member) (moves : Moves) (are : AreMovesOf globs moves) where
  -- of a glob that isn't settled the row doesn't say so
  unsettled-row : (text : List ℕ) (row : List Bool) (c : ℕ) (cutter : Member) → IsAt globs c cutter → is_settled_by cutter text ≡ false → SaysOf moves.ends.items text row c cutter
      → is_settled moves.cuts row (get_or moves.ends.items c 0) ≡ false
  unsettled-row text row c cutter at not says = elim (cases_eq (size_of cutter) 0) [
    | inl nil ↦ ap (λ x. holds row (get_or moves.ends.items c 0 - 1) && x) (cuts-empty nil (get_or moves.ends.items c 0) refl) ∙ and-false (holds row (get_or moves.ends.items c 0 - 1))
    | inr some ↦
        let end = get_or moves.ends.items c 0 in
        let place : end - 1 + 1 ≡ end = omega (arith, some, enough globs moves.ends.items c cutter are.ends at) in
        and-same (says 1 (end - 1) (omega (arith, some)) place) (are.cuts c cutter 1 (end - 1) at (omega (arith, some)) place)
        ∙ and_comm (stands cutter.tokens cutter.case 1 text) (may_cut cutter 1) ∙ not
  ]
    where
      cuts-empty : size_of cutter ≡ 0 → (end : ℕ) → get_or moves.ends.items c 0 ≡ end → holds moves.cuts (end - 1) ≡ false
      cuts-empty nil zero e = are.cuts c cutter 0 0 at (omega arith) (omega (arith, e))
      cuts-empty nil (suc j) e =
          let last : suc j - 1 ≡ j = omega arith in
          ap (holds moves.cuts) last ∙ apart globs moves.ends.items may_cut moves.cuts are.ends are.cuts (λ _. refl) c cutter j at (omega (arith, e, nil))

  -- a glob that ends before another has a lower number
  earlier : (c g : ℕ) → c < length globs → get_or moves.ends.items c 0 < get_or moves.ends.items g 0 → c < g
  earlier c g within less = elim (cases_lt c g) [
    | inl l ↦ l
    | inr n ↦ absurd (let no : ⊥ = omega (arith, less, later globs moves.ends.items are.ends g c within n) in no)
  ]

  -- what the row of a byte more says of the globs before a number, by what the row before it says
  said : (b : ℕ) → b < 256 → (text : List ℕ) (old new : List Bool) → IsStep moves (takes_of moves b) old new
      → ((g : ℕ) (glob : Member) → IsAt globs g glob → IsUnsettled globs text g → SaysOf moves.ends.items text old g glob)
      → (n g : ℕ) (glob : Member) → g < n → IsAt globs g glob → IsUnsettled globs (b ∷ text) g → SaysOf moves.ends.items (b ∷ text) new g glob
  said b fits text old new step was zero g glob low at free = absurd (let no : ⊥ = omega (arith, low) in no)
  said b fits text old new step was (suc n) g glob low at free =
      stepped globs moves are b fits text old new g glob at (was g glob at (λ c cutter less there. unsettled-before cutter b text (free c cutter less there))) step
      (λ c within less.
      let mine : c < length globs = omega (arith, within, are.ends.len) in
      let cutter = get_or globs c glob in
      let there : IsAt globs c cutter = record { within = mine; is = get_or_default globs c _ _ mine } in
      let before : c < g = earlier c g mine less in
      unsettled-row (b ∷ text) new c cutter there (free c cutter before there)
      (said b fits text old new step was n c cutter (omega (arith, before, low)) there (λ d other small here. free d other (omega (arith, small, before)) here)))

-- The row that a text leads to says what stands of it, at the places of globs that no settled one comes before.
pub says : (globs : List Member) (moves : Moves) → AreMovesOf globs moves → (text : List ℕ) (row : List Bool) → LeadsTo moves text row
    → (g : ℕ) (glob : Member) → IsAt globs g glob → IsUnsettled globs text g → SaysOf moves.ends.items text row g glob
says globs moves are [] row empty g glob at free = λ i k low e. are.start g glob i k at low e
says globs moves are (b ∷ text) new (byte {old = old} fits from step) g glob at free =
    said globs moves are b fits text old new step (says globs moves are text old from) (suc g) g glob (omega arith) at free

-- so it says of each of these globs whether it matches
pub says-matches : (globs : List Member) (moves : Moves) → AreMovesOf globs moves → (text : List ℕ) (row : List Bool) → LeadsTo moves text row
    → (g : ℕ) (glob : Member) → IsAt globs g glob → IsUnsettled globs text g → holds row (get_or moves.ends.items g 0) ≡ member_matches glob text
says-matches globs moves are text row leads g glob at free = says globs moves are text row leads g glob at free 0 (get_or moves.ends.items g 0) (omega arith) (omega arith)

-- ---- the first glob that is settled

-- a glob that is settled, and none before it
pub record IsFirstSettled (globs : List Member) (text : List ℕ) (g c : ℕ) (cutter : Member) : Type 0 where
  pub less : c < g
  pub at : IsAt globs c cutter
  pub free : IsUnsettled globs text c
  pub settled : is_settled_by cutter text ≡ true

-- no glob before a number is settled, or one is the first
pub free-or : (globs : List Member) (text : List ℕ) (glob : Member) (g : ℕ) → IsUnsettled globs text g ⊎ ((c : ℕ) × ((cutter : Member) × IsFirstSettled globs text g c cutter))
free-or globs text glob zero = inl (λ c cutter less at. absurd (let no : ⊥ = omega (arith, less) in no))
free-or globs text glob (suc g) = elim (free-or globs text glob g) [
  | inr found ↦ inr (found.0, (found.1.0, record { less = omega (arith, found.1.1.less); at = found.1.1.at; free = found.1.1.free; settled = found.1.1.settled }))
  | inl free ↦ elim (cases_lt g (length globs)) [
    | inr past ↦ inl (λ c cutter less at. free c cutter (omega (arith, less, past, at.within)) at)
    | inl within ↦
        let here = get_or globs g glob in
        let at : IsAt globs g here = record { within = within; is = get_or_default globs g _ _ within } in
        elim (cases_Bool (is_settled_by here text)) [
          | inl settled ↦ inr (g, (here, record { less = omega arith; at = at; free = free; settled = settled }))
          | inr unsettled ↦ inl (λ c cutter less there. elim (cases_eq c g) [
            | inl same ↦ ap (λ m. is_settled_by m text) (same-glob globs g cutter here (subst (λ k. IsAt globs k cutter) same there) at) ∙ unsettled
            | inr n ↦ free c cutter (omega (arith, less, n)) there
          ])
        ]
  ]
]
