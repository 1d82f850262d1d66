-- How far bytes are written.
use Rattle.std.specs.Prelude.{◌≡◌, ℕ, List, ◌++◌, Option}
use Rattle.std.specs.Io.KnownBytes.{Appends}

-- known bytes grew by what stands before the rest of bs
abbrev pub AppendsUpTo : Option (List ℕ) → Option (List ℕ) → List ℕ → List ℕ → Type 0
AppendsUpTo old new bs rest = (front : List ℕ) × (bs ≡ front ++ rest) × Appends old new front

-- known bytes grew by a front of bs, and no more
abbrev pub AppendsFront : Option (List ℕ) → Option (List ℕ) → List ℕ → Type 0
AppendsFront old new bs = (rest : List ℕ) × AppendsUpTo old new bs rest
