-- The borders of bytes: where a token takes a byte and not the one before, or the other way about.
use Rattle.std.proofs.Common.{◌≡◌, ℕ, suc, ◌+◌, ◌<◌, Bool, true, false, not, refl, sym, ◌∙◌, ap, arith, inl, inr, List, get_or, length, replicate, set}
use Rattle.std.proofs.Math.Bool.{beq}
use Rattle.std.proofs.lemmas.Bool.{cases_eq, cases_lt, true≢false}
use Rattle.std.proofs.lemmas.Grind.{get_or-set_at}
use Rattle.std.proofs.lemmas.List.{get_or-replicate, get_or-set_other, get_or_past, length-replicate}
use Rattle.pathspec_glob_set.specs.Questions.{LeavesUnmarked}

-- up to a byte, each that isn't marked is taken as the byte before
abbrev pub AreMarked : (ℕ → Bool) → List Bool → ℕ → Type 0
AreMarked takes marks byte = (b : ℕ) → suc b < byte → get_or marks (suc b) false ≡ false → takes (suc b) ≡ takes b

-- where a mark was set, a byte without one had none before
pub still-unmarked : (marks : List Bool) (byte b : ℕ) → byte < length marks → get_or (set marks byte true) b false ≡ false → get_or marks b false ≡ false
still-unmarked marks byte b within none = elim (cases_eq b byte) [
  | inl e ↦ absurd (true≢false (sym (get_or-set_at marks byte b true false e within) ∙ none))
  | inr n ↦ sym (get_or-set_other marks byte b true false n) ∙ none
]

-- one byte more, which is marked
pub one-marked : (takes : ℕ → Bool) (marks : List Bool) (byte : ℕ) → byte < length marks → AreMarked takes marks byte → AreMarked takes (set marks byte true) (byte + 1)
one-marked takes marks byte within are b less none = elim (cases_eq (suc b) byte) [
  | inl e ↦ absurd (true≢false (sym (get_or-set_at marks byte (suc b) true false e within) ∙ none))
  | inr n ↦ are b (omega (arith, less, n)) (still-unmarked marks byte (suc b) within none)
]

-- one byte more, which is taken as the one before
pub none-marked : (takes : ℕ → Bool) (marks : List Bool) (byte : ℕ) → ((b : ℕ) → suc b ≡ byte → takes (suc b) ≡ takes b) → AreMarked takes marks byte → AreMarked takes marks (byte + 1)
none-marked takes marks byte alike are b less none = elim (cases_eq (suc b) byte) [
  | inl e ↦ alike b e
  | inr n ↦ are b (omega (arith, less, n)) none
]

-- truth values that don't differ
pub same-truth : (a b : Bool) → not (beq a b) ≡ false → a ≡ b
same-truth true true e = refl
same-truth true false e = e
same-truth false true e = sym e
same-truth false false e = refl

-- truth values that differ aren't the same
pub differ : (a b : Bool) → not (beq a b) ≡ true → a ≡ b → ⊥
differ true true e same = true≢false (sym e)
differ true false e same = true≢false same
differ false true e same = true≢false (sym same)
differ false false e same = true≢false (sym e)

-- one mark more, of a byte that isn't taken as the one before
pub more-marks : (takes : ℕ → Bool) (start marks new : List Bool) (byte : ℕ) → new ≡ set marks byte true → ((b : ℕ) → suc b ≡ byte → takes (suc b) ≡ takes b → ⊥) → LeavesUnmarked takes start marks
    → LeavesUnmarked takes start new
more-marks takes start marks new byte is other few b alike none = elim (cases_eq (suc b) byte) [
  | inl e ↦ absurd (other b e alike)
  | inr n ↦ ap (λ k. get_or k (suc b) false) is ∙ get_or-set_other marks byte (suc b) true false n ∙ few b alike none
]

-- nothing is marked at the begin
pub no-marks : (n i : ℕ) → get_or (replicate n false) i false ≡ false
no-marks n i = elim (cases_lt i n) [
  | inl l ↦ get_or-replicate n i false false l
  | inr g ↦ get_or_past (replicate n false) i false (omega (arith, g, length-replicate n false))
]
