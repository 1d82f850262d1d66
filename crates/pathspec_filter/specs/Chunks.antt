-- Bytes that were read and not used yet.
use Rattle.std.specs.Prelude.{◌≡◌, ℕ, List, ◌++◌, length, Option}
use Rattle.std.specs.Io.KnownBytes.{Consumes, IsAtEnd}

-- a read gave these bytes more, so many, and none only at the end
pub record HasRead (before after : Option (List ℕ)) (old new : List ℕ) (count : ℕ) : Type 0 where
  pub given : List ℕ
  pub whole : new ≡ old ++ given
  pub counted : count ≡ length given
  pub consumed : Consumes before after given
  pub ended : count ≡ 0 → IsAtEnd after
