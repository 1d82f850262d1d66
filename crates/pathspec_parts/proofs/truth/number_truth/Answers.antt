use Rattle.std.proofs.Common.{◌≡◌, ℕ, ◌-◌, ◌^◌, Bool, true, false, List, [], ◌∷◌, length, refl, ◌==◌, arith}
use Rattle.std.specs.Prelude.{min}
use Rattle.std.proofs.lemmas.Bool.Decides.{nat_tests}
use Rattle.pathspec_glob.specs.Bytes.{is_empty}
use Rattle.pathspec_parts.specs.Truth.{fits_64, decimal_value}
use Rattle.pathspec_parts.proofs.TruthProofs.{number_says-lower}
use Rattle.pathspec_parts.proofs.truth.number_truth.Goals as goal
use Rattle.pathspec_parts.proofs.truth.number_truth.Goals.{then-is_empty-via-then-is_empty, then-is_empty-via-else-is_empty+then-not-is_unit, then-is_empty-via-else-is_empty+else-not-is_unit+then-not-fits}

-- no element, by the length
is_empty-length : (xs : List ℕ) → is_empty xs ≡ (length xs == 0)
is_empty-length [] = refl
is_empty-length (x ∷ xs) = grind (arith, nat_tests)

-- a number that is held at the greatest of 64 bits, without its sign, fits where the number does
fits-held : (negative : Bool) (n : ℕ) → fits_64 negative (min n (2 ^ 64 - 1)) ≡ fits_64 negative n
fits-held true n = grind (arith, nat_tests)
fits-held false n = grind (arith, nat_tests)

-- and it is 0 where the number is
zero-held : (n : ℕ) → (min n (2 ^ 64 - 1) == 0) ≡ (n == 0)
zero-held n = grind (arith, nat_tests)

pub returns-then-is_empty : goal.returns-then-is_empty
returns-then-is_empty c =
    let says = number_says-lower c.args.negative c.args.number.now _ _ c.split_digits.ensures.digits c.split_digits.ensures.rest in
    let none = is_empty-length c.split_digits.result.0.now in
    let fits = fits-held c.args.negative (decimal_value c.split_digits.result.0.now) in
    elim c.then-is_empty.branch [
      | then-is_empty-via-then-is_empty w ↦ grind (arith, nat_tests, says, none, fits)
      | then-is_empty-via-else-is_empty+then-not-is_unit w ↦ grind (arith, nat_tests, says, none, fits)
      | then-is_empty-via-else-is_empty+else-not-is_unit+then-not-fits w ↦ grind (arith, nat_tests, says, none, fits)
    ]

pub returns : goal.returns
returns c =
    let says = number_says-lower c.args.negative c.args.number.now _ _ c.split_digits.ensures.digits c.split_digits.ensures.rest in
    let none = is_empty-length c.split_digits.result.0.now in
    let fits = fits-held c.args.negative (decimal_value c.split_digits.result.0.now) in
    let zero = zero-held (decimal_value c.split_digits.result.0.now) in
    grind (arith, nat_tests, says, none, fits, zero)
