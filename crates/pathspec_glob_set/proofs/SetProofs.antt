-- The row that a text leads to says of each glob whether it matches the text.
use Rattle.std.proofs.Common.{◌≡◌, ℕ, zero, suc, ◌+◌, ◌-◌, ◌<◌, ◌≤◌, Bool, true, false, ◌&&◌, ◌||◌, refl, sym, ◌∙◌, ap, arith, inl, inr, List, [], ◌∷◌, length, get_or, drop}
use Rattle.std.proofs.Math.Bool.{and_comm, and-false}
use Rattle.std.proofs.lemmas.Bool.{cases_Bool, cases_eq}
use Rattle.std.proofs.lemmas.List.{get_or_default}
use Rattle.std.proofs.Math.ListN.{drop_of_length-le}
use Rattle.pathspec_glob.specs.declared.Case.{Case}
use Rattle.pathspec_glob.specs.declared.Mode.{Mode}
use Rattle.pathspec_glob.proofs.Words.{matches, may_pass_over_at}
use Rattle.pathspec_glob.proofs.AcceptProofs.{over-next}
use Rattle.pathspec_glob.specs.GlobCells.{further}
use Rattle.pathspec_glob.specs.BitVecs.{holds}
use Rattle.pathspec_glob_set.specs.declared.table.moves.Moves.{Moves}
use Rattle.pathspec_glob_set.specs.declared.member.Member.{Member}
use Rattle.pathspec_glob_set.specs.Meanings.{is_over_before, is_wide_before, stands, takes_before}
use Rattle.pathspec_glob_set.specs.Rows.{taken_of, IsUncut}
use Rattle.pathspec_glob_set.specs.Moves.{takes_of, IsStep}
use Rattle.pathspec_glob_set.specs.Sets.{size_of, AreEnds, AreMovesOf, IsAt, IsColumn, SaysOf}
use Rattle.pathspec_glob_set.proofs.MeaningProofs.{matches-step, stands-step, took}

-- ---- what leads to the first place of a glob

pub further-none : (f : ℕ → Bool) (k : ℕ) → ((j : ℕ) → suc j ≡ k → f j ≡ false) → further false f k ≡ false
further-none f zero none = refl
further-none f (suc k) none = none k refl

pub further-twice : (f : ℕ → Bool) (k : ℕ) → ((j : ℕ) → suc (suc j) ≡ k → f j ≡ false) → further false (further false f) k ≡ false
further-twice f zero none = refl
further-twice f (suc k) none = further-none f k (λ j e. none j (ap suc e))

-- a glob before another
pub before : (globs : List Member) (g : ℕ) (glob : Member) → IsAt globs (suc g) glob → IsAt globs g (get_or globs g glob)
before globs g glob at = record { within = omega (arith, at.within); is = get_or_default globs g _ _ (omega (arith, at.within)) }

-- where a glob's places begin
pub enough : (globs : List Member) (ends : List ℕ) (g : ℕ) (glob : Member) → AreEnds globs ends → IsAt globs g glob → size_of glob ≤ get_or ends g 0
enough globs ends zero glob are at = omega (arith, are.first glob at)
enough globs ends (suc g) glob are at = omega (arith, are.next g glob at)

-- what no glob's last place has, the place before a glob's first doesn't have
pub apart : (globs : List Member) (ends : List ℕ) (is_so : Member → ℕ → Bool) (row : List Bool) → AreEnds globs ends → IsColumn globs ends is_so row
    → ((glob : Member) → is_so glob 0 ≡ false)
    → (g : ℕ) (glob : Member) (j : ℕ) → IsAt globs g glob → suc j + size_of glob ≡ get_or ends g 0 → holds row j ≡ false
apart globs ends is_so row are column none zero glob j at e = absurd (let no : ⊥ = omega (arith, e, are.first glob at) in no)
apart globs ends is_so row are column none (suc g) glob j at e =
    let last : j + 0 ≡ get_or ends g 0 = omega (arith, e, are.next g glob at) in
    let prev = get_or globs g glob in
    column g prev 0 j (before globs g glob at) (omega arith) last ∙ none prev

-- the same of the second place before, where no glob's last two places have it
pub apart-second : (globs : List Member) (ends : List ℕ) (is_so : Member → ℕ → Bool) (row : List Bool) → AreEnds globs ends → IsColumn globs ends is_so row
    → ((glob : Member) → is_so glob 0 ≡ false) → ((glob : Member) → is_so glob 1 ≡ false)
    → (g : ℕ) (glob : Member) (j : ℕ) → IsAt globs g glob → suc (suc j) + size_of glob ≡ get_or ends g 0 → holds row j ≡ false
apart-second globs ends is_so row are column none one zero glob j at e = absurd (let no : ⊥ = omega (arith, e, are.first glob at) in no)
apart-second globs ends is_so row are column none one (suc g) glob j at e =
    let prev = get_or globs g glob in
    let there = before globs g glob at in
    let last : suc j ≡ get_or ends g 0 = omega (arith, e, are.next g glob at) in
    elim (cases_eq (size_of prev) 0) [
      | inl size ↦ apart globs ends is_so row are column none g prev j there (omega (arith, last, size))
      | inr some ↦ column g prev 1 j there (omega (arith, some)) (omega (arith, last)) ∙ one prev
    ]

nothing-matches : (mode : Mode) (case : Case) (b : ℕ) (text : List ℕ) → matches mode case [] (b ∷ text) ≡ false
unfolding matches
nothing-matches mode case b text = refl

-- the last token isn't passed over
pub last-over : (glob : Member) (i : ℕ) → suc i ≡ size_of glob → may_pass_over_at glob.tokens.mode (drop i glob.tokens.tokens) ≡ false
last-over glob i e = elim (cases_Bool (may_pass_over_at glob.tokens.mode (drop i glob.tokens.tokens))) [
  | inl passes ↦ absurd (let no : ⊥ = omega (arith, over-next glob.tokens.mode i glob.tokens.tokens passes, e) in no)
  | inr fails ↦ fails
]

-- ---- a byte more

rearranged : (a t w s1 w1 s2 o : Bool) → ((a || (t && w)) || ((s1 && w1) || (s2 && o))) ≡ ((w && t) || ((a || (w1 && s1)) || (o && s2)))
rearranged a t w s1 w1 s2 o =
    ap (λ x. (a || x) || ((s1 && w1) || (s2 && o))) (and_comm t w)
    ∙ ap (λ x. (a || (w && t)) || (x || (s2 && o))) (and_comm s1 w1)
    ∙ ap (λ x. (a || (w && t)) || ((w1 && s1) || x)) (and_comm s2 o)
    ∙ ors a (w && t) (w1 && s1) (o && s2)
  where
    ors : (a x y z : Bool) → ((a || x) || (y || z)) ≡ (x || ((a || y) || z))
    ors true true y z = refl
    ors true false y z = refl
    ors false true y z = refl
    ors false false y z = refl

-- the parts of what leads to a place, each replaced by what it is
pub and-same : {a b x y : Bool} → a ≡ x → b ≡ y → (a && b) ≡ (x && y)
and-same {b = b} {x = x} p q = ap (λ k. k && b) p ∙ ap (λ k. x && k) q

pub or-same : {a b x y : Bool} → a ≡ x → b ≡ y → (a || b) ≡ (x || y)
or-same {b = b} {x = x} p q = ap (λ k. k || b) p ∙ ap (λ k. x || k) q

first-rearranged : (t w : Bool) → ((false || (t && w)) || (false || false)) ≡ ((w && t) || false)
first-rearranged true true = refl
first-rearranged true false = refl
first-rearranged false true = refl
first-rearranged false false = refl

module _ (globs : List Member) (moves : Moves) (are : AreMovesOf globs moves) (b : ℕ) (fits : b < 256) (text : List ℕ) (old new : List Bool)
    (g : ℕ) (glob : Member) (at : IsAt globs g glob) (was : SaysOf moves.ends.items text old g glob) (step : IsStep moves (takes_of moves b) old new)
    (uncut : IsUncut moves.cuts moves.ends.items new (get_or moves.ends.items g 0)) where
  abbrev end : ℕ
  end = get_or moves.ends.items g 0

  ends-within : end < length moves.wide
  ends-within = moves.sizes.each_glob g (omega (arith, at.within, are.ends.len))

  -- no place of the glob stands behind one that is settled
  uncut-at : (k : ℕ) → k ≤ end → IsUncut moves.cuts moves.ends.items new k
  uncut-at k low c within earlier = uncut c within (omega (arith, low, earlier))

  -- what was taken at a place
  taken-at : (i k : ℕ) → i ≤ size_of glob → k + i ≡ end → taken_of (takes_of moves b) old k ≡ took glob.tokens glob.case b text i
  taken-at i k low e = and-same (was i k low e) (are.takes b fits g glob i k at low e)

  -- nothing leads to the first place of a glob
  none-taken : (k : ℕ) → k + size_of glob ≡ end → further false (taken_of (takes_of moves b) old) k ≡ false
  none-taken k e = further-none (taken_of (takes_of moves b) old) k (λ j next.
      ap (λ x. holds old j && x) (apart globs moves.ends.items (λ m i. takes_before m.tokens m.case i b) (takes_of moves b) are.ends (are.takes b fits) (λ _. refl) g glob j at (omega (arith, e, next))) ∙ and-false (holds old j))

  none-wide : (k : ℕ) → k + size_of glob ≡ end → further false (λ j. holds new j && holds moves.wide j) k ≡ false
  none-wide k e = further-none (λ j. holds new j && holds moves.wide j) k (λ j next.
      ap (λ x. holds new j && x) (apart globs moves.ends.items (λ m i. is_wide_before m.tokens i) moves.wide are.ends are.wide (λ _. refl) g glob j at (omega (arith, e, next))) ∙ and-false (holds new j))

  none-over : (k : ℕ) → k + size_of glob ≡ end → further false (λ j. holds new j && holds moves.over j) k ≡ false
  none-over k e = further-none (λ j. holds new j && holds moves.over j) k (λ j next.
      ap (λ x. holds new j && x) (apart globs moves.ends.items (λ m i. is_over_before m.tokens i) moves.over are.ends are.over (λ _. refl) g glob j at (omega (arith, e, next))) ∙ and-false (holds new j))

  none-second : (k : ℕ) → k + size_of glob ≡ end → further false (further false (λ j. holds new j && holds moves.over j)) k ≡ false
  none-second k e = further-twice (λ j. holds new j && holds moves.over j) k (λ j next.
      ap (λ x. holds new j && x) (apart-second globs moves.ends.items (λ m i. is_over_before m.tokens i) moves.over are.ends are.over (λ _. refl) (λ _. refl) g glob j at (omega (arith, e, next))) ∙ and-false (holds new j))

  -- behind all tokens no byte is matched
  none-matches : matches glob.tokens.mode glob.case (drop (size_of glob) glob.tokens.tokens) (b ∷ text) ≡ false
  none-matches = ap (λ ts. matches glob.tokens.mode glob.case ts (b ∷ text)) (drop_of_length-le glob.tokens.tokens {i = size_of glob} (omega arith)) ∙ nothing-matches glob.tokens.mode glob.case b text

  -- what stands at a place that isn't the first, where it is known what stands at the one before, and leads from the second before
  stands-next : (i k : ℕ) → suc i ≤ size_of glob → suc k + i ≡ end
      → holds new k ≡ stands glob.tokens glob.case (suc i) (b ∷ text)
      → further false (λ j. holds new j && holds moves.over j) k ≡ (stands glob.tokens glob.case (suc (suc i)) (b ∷ text) && is_over_before glob.tokens (suc (suc i)))
      → holds new (suc k) ≡ stands glob.tokens glob.case i (b ∷ text)
  stands-next i k low e next second =
      let here : k + suc i ≡ end = omega (arith, e) in
      let within : suc k < length moves.wide = omega (arith, e, ends-within) in
      step.places (suc k) within (uncut-at (suc k) (omega (arith, e)))
      ∙ or-same (or-same (taken-at (suc i) k low here) (and-same (taken-at i (suc k) (omega (arith, low)) e) (are.wide g glob i (suc k) at (omega (arith, low)) e)))
      (or-same (and-same next (are.wide g glob (suc i) k at low here)) second)
      ∙ rearranged (took glob.tokens glob.case b text (suc i)) (took glob.tokens glob.case b text i) (is_wide_before glob.tokens i)
      (stands glob.tokens glob.case (suc i) (b ∷ text)) (is_wide_before glob.tokens (suc i)) (stands glob.tokens glob.case (suc (suc i)) (b ∷ text)) (is_over_before glob.tokens (suc (suc i)))
      ∙ ap (λ x. (is_wide_before glob.tokens i && took glob.tokens glob.case b text i) || x) (sym (matches-step glob.tokens glob.case b text i (omega (arith, low))))
      ∙ sym (stands-step glob.tokens glob.case b text i (omega (arith, low)))

  -- what stands at each place of the glob, from its first on
  stands-all : (p i k : ℕ) → p + i ≡ size_of glob → k + i ≡ end → holds new k ≡ stands glob.tokens glob.case i (b ∷ text)
  stands-all zero i k all e =
      let first : k + size_of glob ≡ end = omega (arith, all, e) in
      let place : i ≡ size_of glob = omega (arith, all) in
      let within : k < length moves.wide = omega (arith, e, ends-within) in
      step.places k within (uncut-at k (omega (arith, e)))
      ∙ or-same (or-same (none-taken k first) (and-same (taken-at i k (omega (arith, all)) e) (are.wide g glob i k at (omega (arith, all)) e))) (or-same (none-wide k first) (none-second k first))
      ∙ first-rearranged (took glob.tokens glob.case b text i) (is_wide_before glob.tokens i)
      ∙ ap (λ x. (is_wide_before glob.tokens i && took glob.tokens glob.case b text i) || x)
      (sym (ap (λ j. matches glob.tokens.mode glob.case (drop j glob.tokens.tokens) (b ∷ text)) place ∙ none-matches))
      ∙ sym (stands-step glob.tokens glob.case b text i (omega (arith, all)))
  stands-all (suc zero) i zero all e = absurd (let no : ⊥ = omega (arith, all, e, enough globs moves.ends.items g glob are.ends at) in no)
  stands-all (suc zero) i (suc k) all e =
      stands-next i k (omega (arith, all)) e (stands-all zero (suc i) k (omega (arith, all)) (omega (arith, e)))
      (none-over k (omega (arith, all, e)) ∙ sym (ap (λ x. stands glob.tokens glob.case (suc (suc i)) (b ∷ text) && x) (last-over glob i (omega (arith, all))) ∙ and-false (stands glob.tokens glob.case (suc (suc i)) (b ∷ text))))
  stands-all (suc (suc p)) i zero all e = absurd (let no : ⊥ = omega (arith, all, e, enough globs moves.ends.items g glob are.ends at) in no)
  stands-all (suc (suc p)) i (suc zero) all e = absurd (let no : ⊥ = omega (arith, all, e, enough globs moves.ends.items g glob are.ends at) in no)
  stands-all (suc (suc p)) i (suc (suc k)) all e =
      let second : k + suc (suc i) ≡ end = omega (arith, e) in
      stands-next i (suc k) (omega (arith, all)) e (stands-all (suc p) (suc i) (suc k) (omega (arith, all)) (omega (arith, e)))
      (and-same (stands-all p (suc (suc i)) k (omega (arith, all)) second) (are.over g glob (suc (suc i)) k at (omega (arith, all)) second))

-- A row that says what stands of a text at the places of a glob leads to one that says it of the byte and the text, where the glob isn't cut off.
pub stepped : (globs : List Member) (moves : Moves) → AreMovesOf globs moves → (b : ℕ) → b < 256 → (text : List ℕ) (old new : List Bool)
    → (g : ℕ) (glob : Member) → IsAt globs g glob → SaysOf moves.ends.items text old g glob → IsStep moves (takes_of moves b) old new
    → IsUncut moves.cuts moves.ends.items new (get_or moves.ends.items g 0) → SaysOf moves.ends.items (b ∷ text) new g glob
stepped globs moves are b fits text old new g glob at was step uncut i k low e =
    stands-all globs moves are b fits text old new g glob at was step uncut (size_of glob - i) i k (omega (arith, low)) e
