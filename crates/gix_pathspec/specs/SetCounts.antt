-- What sets count: a step for each byte that they read and each cell that they fill, and looks at members.
use Rattle.std.specs.Prelude.{◌≤◌, ℕ, ◌+◌, ◌%◌, ◌^◌, Option, Some, None}
use Rattle.pathspec_glob.specs.Counts.{Counts}
use Rattle.pathspec_glob_set.specs.declared.set.SetScratch.{SetScratch}

-- the steps and looks of a set in all, 0 where there is none
abbrev pub set_total : Option SetScratch → ℕ
set_total None = 0
set_total (Some scratch) = scratch.total

-- those of the sets of the specs and of that of the excludes together, modulo 2 ^ 128
abbrev pub sets_total : ℕ → Option SetScratch → ℕ
sets_total stepped excludes = (stepped + set_total excludes) % 2 ^ 128

-- A total grew by at most so many.
pub record GrowsBy (most before now : ℕ) : Type 0 where
  pub by : ℕ
  pub few : by ≤ most
  pub counted : Counts before by now
