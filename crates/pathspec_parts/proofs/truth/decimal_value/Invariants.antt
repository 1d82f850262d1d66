-- The digits so far have been read.
use Rattle.std.proofs.Common.{◌≡◌, ◌-◌, ◌^◌, take}
use Rattle.std.specs.Prelude.{min}
use Rattle.pathspec_parts.specs.Truth.{decimal_value}
use Rattle.pathspec_parts.proofs.truth.decimal_value.Given as goal

abbrev pub invariant-loop-digit : goal.invariant-loop-digit
invariant-loop-digit l = l.value ≡ min (decimal_value (take l.digit-index l.digits)) (2 ^ 64 - 1)
