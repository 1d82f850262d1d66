-- The first and the last byte of the paths that a spec matches.
use Rattle.std.specs.Prelude.{◌≡◌, ℕ, Bool, true, false, not, ◌||◌, List, length, get_or, Option, Some, None}
use Rattle.pathspec_glob.specs.declared.Case.{Case}
use Rattle.pathspec_glob.specs.GlobRelation.{is_same_byte}
use Rattle.pathspec_glob.specs.LastBytes.{last_byte}
use Rattle.gix_pathspec.specs.Bytes.{is_wildcard}
use Rattle.gix_pathspec.specs.Attributes.{Table}
use Rattle.gix_pathspec.specs.Specs.{Spec}
use Rattle.gix_pathspec.specs.Matching.{case_of, spec_matches}
use Rattle.gix_pathspec.specs.Prefixes.{stem}

-- the first byte of a path that isn't empty
abbrev pub first_byte : List ℕ → ℕ
first_byte path = get_or path 0 0

-- a wildcard byte stands in the path at a place
abbrev pub has_wildcard_at : List ℕ → ℕ → Bool
has_wildcard_at path at = is_wildcard (get_or path at 0)

-- Each path that the spec matches begins with the byte, up to case where it doesn't count.
abbrev pub BeginsPaths : Spec → ℕ → Type 0
BeginsPaths s byte = (table : Table) (path : List ℕ) (is_dir : Bool) → spec_matches table s path is_dir ≡ true
    → is_same_byte (case_of s) byte (first_byte path) ≡ true

-- Each path that the spec matches ends with the byte, up to case where it doesn't count, or a wildcard byte stands in it behind
-- the spec's stem: it may be the spec's path then, or lie below it.
abbrev pub EndsPaths : Spec → ℕ → Type 0
EndsPaths s byte = (table : Table) (path : List ℕ) (is_dir : Bool) → spec_matches table s path is_dir ≡ true
    → (is_same_byte (case_of s) byte (last_byte path) || has_wildcard_at path (length (stem s))) ≡ true

-- a byte is wanted, and it is another
abbrev pub is_other : Case → Option ℕ → ℕ → Bool
is_other case None byte = false
is_other case (Some wanted) byte = not (is_same_byte case wanted byte)

-- The spec doesn't match the path, whatever a look-up says.
abbrev pub NeverMatches : Spec → List ℕ → Type 0
NeverMatches s path = (table : Table) (is_dir : Bool) → spec_matches table s path is_dir ≡ false
