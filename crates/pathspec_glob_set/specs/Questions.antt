-- What is asked of the places of globs when a set is made.
use Rattle.std.specs.Prelude.{◌≡◌, ◌<◌, ◌≤◌, ◌+◌, ℕ, suc, Bool, false, List, length, get_or, ◌==◌}
use Rattle.pathspec_glob_set.specs.declared.columns.Question.{Question}
use Rattle.pathspec_glob_set.specs.declared.columns.Question.TheVariants.{Wide, Over, Takes, Behind, Cuts}
use Rattle.pathspec_glob_set.specs.declared.member.Member.{Member}
use Rattle.pathspec_glob_set.specs.Meanings.{is_over_before, is_wide_before, may_cut, takes_before}
use Rattle.pathspec_glob_set.specs.declared.table.building.Classes.{Classes}
use Rattle.pathspec_glob_set.specs.Sizes.{row_at}
use Rattle.pathspec_glob_set.specs.Sets.{size_of, IsAt, IsColumn}

-- the answer for a place of a glob
abbrev pub answer_of : Question → Member → ℕ → Bool
answer_of Wide glob i = is_wide_before glob.tokens i
answer_of Over glob i = is_over_before glob.tokens i
answer_of (Takes b) glob i = takes_before glob.tokens glob.case i b
answer_of Behind glob i = i == size_of glob
answer_of Cuts glob i = may_cut glob i

-- each token of a glob takes both bytes or neither
abbrev pub IsTakenAlike : Member → ℕ → ℕ → Type 0
IsTakenAlike glob b other = (i : ℕ) → i ≤ size_of glob → takes_before glob.tokens glob.case i b ≡ takes_before glob.tokens glob.case i other

-- each token of globs takes both bytes or neither
abbrev pub AreTakenAlike : List Member → ℕ → ℕ → Type 0
AreTakenAlike globs b other = (g : ℕ) (glob : Member) → IsAt globs g glob → IsTakenAlike glob b other

-- a byte that is taken as the byte before gets no mark
abbrev pub LeavesUnmarked : (ℕ → Bool) → List Bool → List Bool → Type 0
LeavesUnmarked takes old new = (b : ℕ) → takes (suc b) ≡ takes b → get_or old (suc b) false ≡ false → get_or new (suc b) false ≡ false

-- The first so many bytes have a class each, whose places are those that take the byte.
pub record AreClasses (globs : List Member) (ends : List ℕ) (places bytes : ℕ) (classes : Classes) : Type 0 where
  pub few : length classes.takes.items ≤ bytes
  pub sizes : (c : ℕ) → c < length classes.takes.items → length (row_at classes.takes.items c) ≡ places
  pub within : (b : ℕ) → b < bytes → get_or classes.of_byte b 0 < length classes.takes.items
  pub takes : (b : ℕ) → b < bytes → IsColumn globs ends (λ glob i. takes_before glob.tokens glob.case i b) (row_at classes.takes.items (get_or classes.of_byte b 0))

-- A column is that of a class: of one that was there, or of one behind them. The others stay.
pub record AddsClass (old new : List (List Bool)) (column : List Bool) (class : ℕ) : Type 0 where
  pub within : class < length new
  pub is : row_at new class ≡ column
  pub few : length new ≤ length old + 1
  pub more : length old ≤ length new
  pub others : (c : ℕ) → c < length old → row_at new c ≡ row_at old c
  pub added : (c : ℕ) → length old ≤ c → c < length new → row_at new c ≡ column
