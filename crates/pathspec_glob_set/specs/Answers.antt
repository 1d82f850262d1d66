-- What a set of globs says of a text.
use Rattle.std.specs.Prelude.{◌≡◌, ◌+◌, ◌-◌, ◌<◌, ◌≤◌, ◌⊎◌, ◌==◌, ℕ, Bool, true, false, List, IsTrue, IsFalse, Option, Some, None, length, if◌then◌else◌}
use Rattle.pathspec_glob.specs.Counts.{Counts}
use Rattle.pathspec_glob.specs.GlobRelation.{Matches}
use Rattle.pathspec_glob_set.specs.declared.set.GlobSet.{GlobSet}
use Rattle.pathspec_glob_set.specs.declared.set.SetScratch.{SetScratch}
use Rattle.pathspec_glob_set.specs.declared.table.Lead.{Lead}
use Rattle.pathspec_glob_set.specs.declared.member.Member.{Member}
use Rattle.pathspec_glob_set.specs.Sets.{member_matches, AreMovesOf, IsAt}
use Rattle.pathspec_glob_set.specs.Sizes.{most_losses, AreLooks}
use Rattle.pathspec_glob_set.specs.Tables.{most_misses, ClearsWhenFull, Finds, IsKnown}

-- The set is that of the globs.
abbrev pub IsSetOf : List Member → GlobSet → Type 0
IsSetOf globs set = AreMovesOf globs set.moves

-- the glob matches the text, by the relation of all globs
abbrev pub MemberMatches : Member → List ℕ → Type 0
MemberMatches glob text = Matches glob.tokens.mode glob.case glob.tokens.tokens text

-- a glob that comes no sooner than what was found, if anything was
abbrev pub ComesBy : Option ℕ → ℕ → Type 0
ComesBy None g = ⊥
ComesBy (Some found) g = found ≤ g

-- no glob before a number cuts and matches the text
abbrev pub NoneCuts : List Member → List ℕ → ℕ → Type 0
NoneCuts globs text from = (c : ℕ) (cutter : Member) → c < from → IsAt globs c cutter → IsTrue cutter.cuts → MemberMatches cutter text → ⊥

-- Where no glob before a number cuts, no glob from there on that matches the text comes before what was found.
abbrev pub LeavesOutNone : GlobSet → List ℕ → ℕ → Option ℕ → Type 0
LeavesOutNone set text from found = (globs : List Member) → IsSetOf globs set → NoneCuts globs text from
    → (g : ℕ) (glob : Member) → IsAt globs g glob → from ≤ g → MemberMatches glob text → ComesBy found g

-- Where no glob before a number cuts, the one found from there on matches the text, unless the search gave up.
abbrev pub IsMatch : GlobSet → List ℕ → ℕ → Bool → ℕ → Type 0
IsMatch set text from gave_up found = IsFalse gave_up → (globs : List Member) → IsSetOf globs set → NoneCuts globs text from
    → (glob : Member) → IsAt globs found glob → MemberMatches glob text

-- a number of a glob, from one on
pub record IsNumber (set : GlobSet) (from found : ℕ) : Type 0 where
  pub behind : from ≤ found
  pub within : found < length set.moves.ends.items

-- The first glob from a number on that matches the text, or their count; where it isn't known where the text leads, it may be one before.
pub record IsFound (set : GlobSet) (text : List ℕ) (from : ℕ) (lead : Lead) (found : ℕ) : Type 0 where
  pub behind : from ≤ found
  pub within : found ≤ length set.moves.ends.items
  pub none : (globs : List Member) → IsSetOf globs set → NoneCuts globs text from → (g : ℕ) (glob : Member) → IsAt globs g glob → from ≤ g → g < found → member_matches glob text ≡ false
  pub match_there : IsKnown lead → (globs : List Member) → IsSetOf globs set → NoneCuts globs text from → (glob : Member) → IsAt globs found glob → member_matches glob text ≡ true

-- The losses after a search: one more where it gave up and the table was cleared, and one less where it didn't give up. Those of a
-- spent scratch stay.
abbrev pub losses_after : Bool → Bool → ℕ → ℕ
losses_after true true losses = if losses == most_losses then losses else losses + 1
losses_after true false losses = losses
losses_after false cleared losses = losses - 1

-- nothing was searched with the scratch yet
pub record IsFresh (scratch : SetScratch) : Type 0 where
  pub losses : scratch.losses ≡ 0
  pub total : scratch.total ≡ 0
  pub used : scratch.table.used ≡ 1
  pub cleared : scratch.table.cleared ≡ false

-- the set that a scratch is for
abbrev pub set_in : SetScratch → GlobSet
set_in scratch = record { moves = scratch.table.moves }

-- The text was read last: what the scratch tells of it is so, where it is known where the text leads.
abbrev pub HasRead : SetScratch → List ℕ → Type 0
HasRead scratch text = IsKnown scratch.lead → Finds scratch.table text scratch.lead

-- a question after the text was read changes the counts alone
pub record KeepsReading (old new : SetScratch) : Type 0 where
  pub table : new.table ≡ old.table
  pub lead : new.lead ≡ old.lead
  pub gave_up : new.gave_up ≡ old.gave_up
  pub losses : new.losses ≡ old.losses

-- what a question found, or the count of globs
abbrev pub found_or : ℕ → Option ℕ → ℕ
found_or globs None = globs
found_or globs (Some found) = found

-- The total grew by so many steps and by the looks of a question, and those are few.
pub record CountsLooks (set : GlobSet) (from : ℕ) (found : Option ℕ) (steps : ℕ) (old new : SetScratch) : Type 0 where
  pub looks : AreLooks (length set.moves.ends.items) from (found_or (length set.moves.ends.items) found) new.looks
  pub total : Counts old.total (steps + new.looks) new.total

-- A search gives up with a spent scratch, where it reads nothing, and else only where it filled too many cells. Its table is cleared
-- only where it was full.
pub record GivesUp (old new : SetScratch) : Type 0 where
  pub spent : old.losses ≡ most_losses → IsTrue new.gave_up × (new.table.steps ≡ 0)
  pub reason : IsTrue new.gave_up → (old.losses ≡ most_losses) ⊎ (new.table.misses ≡ most_misses)
  pub cleared : ClearsWhenFull new.table.misses old.table new.table
