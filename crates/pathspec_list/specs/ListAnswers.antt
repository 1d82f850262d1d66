-- What a walk over directories tells of its look-up, and of its visitor.
use Rattle.std.specs.Prelude.{◌≡◌, ℕ, Option, option_map, Result, Ok, Err}
use Rattle.pathspec_parts.specs.Attributes.{Table, next_count}
use Rattle.pathspec_list.specs.declared.walk.ListError.{ListError}
use Rattle.pathspec_list.specs.declared.walk.ListError.TheVariants.{LookUp, Stopped, NoDirectory, Memory}

-- the look-up's failures after the walk ended for this reason: one more where its fault is told
abbrev pub failures_after : {F S : Type 0} → ℕ → ListError F S → ℕ
failures_after failures (LookUp _) = next_count failures
failures_after failures (Stopped _) = failures
failures_after failures NoDirectory = failures
failures_after failures Memory = failures

-- The look-up's failures before and after: one more where its fault is told, and otherwise as many.
abbrev pub CountsFailure : {A F S : Type 0} → ℕ → ℕ → Result A (ListError F S) → Type 0
CountsFailure before after (Ok _) = after ≡ before
CountsFailure before after (Err reason) = after ≡ failures_after before reason

-- A call of the walk that asks a look-up leaves its table, and counts its failures.
abbrev pub AsksInWalk : {A F S : Type 0} → Table → ℕ → Table → ℕ → Result A (ListError F S) → Type 0
AsksInWalk table failures table' failures' result = (table' ≡ table) × CountsFailure failures failures' result

-- A call of the walk that asks no look-up tells of no fault of it.
abbrev pub AsksNoLookUp : {A F S : Type 0} → Result A (ListError F S) → Type 0
AsksNoLookUp result = (failures : ℕ) → CountsFailure failures failures result

-- a count, if it is known, after one more
abbrev pub one_more : Option ℕ → Option ℕ
one_more known = option_map next_count known

-- how often a visitor ended its walk, after this call of it: once more where it ends with an error
abbrev pub stops_after_call : {A S : Type 0} → Option ℕ → Result A S → Option ℕ
stops_after_call stops (Ok _) = stops
stops_after_call stops (Err _) = one_more stops

-- how often the visitor ended its walk, after the walk ended for this reason
abbrev pub stops_after : {F S : Type 0} → Option ℕ → ListError F S → Option ℕ
stops_after stops (LookUp _) = stops
stops_after stops (Stopped _) = one_more stops
stops_after stops NoDirectory = stops
stops_after stops Memory = stops

-- How often the visitor ended its walk, before and after: once more where its reason is told, and otherwise as often.
abbrev pub CountsStop : {A F S : Type 0} → Option ℕ → Option ℕ → Result A (ListError F S) → Type 0
CountsStop before after (Ok _) = after ≡ before
CountsStop before after (Err reason) = after ≡ stops_after before reason

-- A call of the walk that gives a visitor nothing tells of no reason of it.
abbrev pub StopsNothing : {A F S : Type 0} → Result A (ListError F S) → Type 0
StopsNothing result = (stops : Option ℕ) → CountsStop stops stops result
