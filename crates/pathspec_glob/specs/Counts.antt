-- Counts of steps: those of one match, and those of all matches together.
use Rattle.std.specs.Prelude.{◌≡◌, ◌≤◌, ℕ, ◌+◌, ◌%◌, ◌^◌}
use Rattle.pathspec_glob.specs.declared.scratch.Steps.{Steps}

-- n steps were counted between two counts, which go round at 2 ^ 128
abbrev pub Counts : ℕ → ℕ → ℕ → Type 0
Counts before n after = after % 2 ^ 128 ≡ (before + n) % 2 ^ 128

-- no step has been counted
pub record HasNoSteps (steps : Steps) : Type 0 where
  pub last : steps.last ≡ 0
  pub total : steps.total ≡ 0

-- the count of the match is begun anew, and that of all matches goes on
pub record BeginsAnew (old new : Steps) : Type 0 where
  pub last : new.last ≡ 0
  pub total : new.total ≡ old.total

-- the steps of the match stay counted in the total, where they were before, and none of them is taken back
pub record KeepsCount (old new : Steps) : Type 0 where
  pub goes_on : (before : ℕ) → Counts before old.last old.total → Counts before new.last new.total
  pub rises : old.last ≤ new.last
