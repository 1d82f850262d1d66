-- Bits that are put together say what each was set for.
use Rattle.std.proofs.Common.{◌≡◌, refl, Bool, true, false, bit_or, if◌then◌else◌}
use Rattle.pathspec_c.specs.Calls.{defaults_by, defaults_from}

pub bits-say : (literal ignore_case glob noglob : Bool)
    → defaults_from (bit_or (bit_or (bit_or (if literal then 1 else 0) (if ignore_case then 2 else 0)) (if glob then 4 else 0)) (if noglob then 8 else 0)) ≡ defaults_by literal ignore_case glob noglob
bits-say true true true true = refl
bits-say true true true false = refl
bits-say true true false true = refl
bits-say true true false false = refl
bits-say true false true true = refl
bits-say true false true false = refl
bits-say true false false true = refl
bits-say true false false false = refl
bits-say false true true true = refl
bits-say false true true false = refl
bits-say false true false true = refl
bits-say false true false false = refl
bits-say false false true true = refl
bits-say false false true false = refl
bits-say false false false true = refl
bits-say false false false false = refl
