-- What a walk tells of its look-up.
use Rattle.std.specs.Prelude.{◌≡◌, ℕ, Result, Ok, Err}
use Rattle.pathspec_parts.specs.Attributes.{next_count}
use Rattle.pathspec_walk.specs.declared.walk.SelectError.{SelectError}
use Rattle.pathspec_walk.specs.declared.walk.SelectError.TheVariants.{LookUp, Memory}

-- The look-up's failures before and after: one more where its fault is told, and otherwise as many.
abbrev pub CountsFailure : {A F : Type 0} → ℕ → ℕ → Result A (SelectError F) → Type 0
CountsFailure before after (Ok _) = after ≡ before
CountsFailure before after (Err (LookUp _)) = after ≡ next_count before
CountsFailure before after (Err Memory) = after ≡ before
