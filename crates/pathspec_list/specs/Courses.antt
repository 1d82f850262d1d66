-- A walk over directories in its course: what it gave, told and opened so far, and what it is to visit.
use Rattle.std.specs.Prelude.{◌≡◌, ◌≢◌, ◌⊎◌, ℕ, Bool, ◌&&◌, List, [], ◌∷◌, ◌++◌, Option, reverse, IsTrue, if◌then◌else◌}
use Rattle.pathspec_parts.specs.Entries.{Entry}
use Rattle.pathspec_list.specs.Directories.{paths_of, entries_at_top, entries_in, EachAt, append_known}
use Rattle.pathspec_list.specs.Listings.{Given, given_if, path_if}

-- what was given, the paths that were told and opened, and those that are to be visited, the next one first
pub record Course : Type 0 where
  pub given : Option (List Given)
  pub told : Option (List (List ℕ))
  pub opened : Option (List (List ℕ))
  pub pending : List (List ℕ)

-- after a path at which nothing could be seen
abbrev pub after_fault : Course → List ℕ → Course
after_fault c path = record c { told = append_known c.told (path ∷ []) }

-- after the entry with this number, which was given if it passes, and opened if it is a directory to enter
abbrev pub after_entry : (List ℕ → Bool → Bool) → (List ℕ → Bool) → List Entry → ℕ → Entry → Course → Course
after_entry takes can_enter es n e c = record {
  given = given_if (takes e.path e.is_dir) e.path e.is_dir c.given;
  told = c.told;
  opened = path_if (e.is_dir && can_enter e.path) e.path c.opened;
  pending = if e.is_dir && can_enter e.path then paths_of (entries_in es n e) ++ c.pending else c.pending;
}

-- A visit to a path went on to one of these.
abbrev pub IsVisit : (List ℕ → Bool → Bool) → (List ℕ → Bool) → List Entry → List ℕ → Course → Course → Type 0
IsVisit takes can_enter es path c c' = path ≢ [] → EachAt es path (λ n e. (c' ≡ after_fault c path) ⊎ (c' ≡ after_entry takes can_enter es n e c))

-- A visit to the top opened it, or told that nothing could be seen.
abbrev pub IsTopVisit : List Entry → Course → Course → Type 0
IsTopVisit es c c' = (c' ≡ after_fault c []) ⊎ (c' ≡ record c { opened = append_known c.opened ([] ∷ []); pending = paths_of (entries_at_top es) ++ c.pending })

-- A visit to a path that is not to be opened told of a fault there, or gave it if it passes.
abbrev pub IsLook : (List ℕ → Bool → Bool) → List Entry → List ℕ → Option (List Given) → Option (List (List ℕ)) → Option (List Given) → Option (List (List ℕ)) → Type 0
IsLook takes es path given told given' told' = path ≢ [] → EachAt es path (λ n e. ((given' ≡ given) × (told' ≡ append_known told (path ∷ []))) ⊎ ((given' ≡ given_if (takes e.path e.is_dir) e.path e.is_dir given) × (told' ≡ told)))

-- At most this path was given, as one of this kind, and only if it passes.
abbrev pub MayGive : Bool → List ℕ → Bool → Option (List Given) → Option (List Given) → Type 0
MayGive passes path is_dir given given' = (given' ≡ given) ⊎ ((given' ≡ append_known given ((path, is_dir) ∷ [])) × IsTrue passes)

-- At most this path was given, with the kind of its entry, and only if that passes.
abbrev pub GivesAtMost : (List ℕ → Bool → Bool) → List Entry → List ℕ → Option (List Given) → Option (List Given) → Type 0
GivesAtMost takes es path given given' = path ≢ [] → EachAt es path (λ n e. MayGive (takes e.path e.is_dir) path e.is_dir given given')

-- At most this path was looked at, and only if a walk has to.
abbrev pub MayAsk : Bool → List ℕ → Option (List (List ℕ)) → Option (List (List ℕ)) → Type 0
MayAsk has_to path asked asked' = (asked' ≡ asked) ⊎ ((asked' ≡ append_known asked (path ∷ [])) × (path ≢ [] → IsTrue has_to))

-- a course whose paths to be visited lie on a stack, the next one on top
abbrev pub course : Option (List Given) → Option (List (List ℕ)) → Option (List (List ℕ)) → List (List ℕ) → Course
course given told opened stack = record { given = given; told = told; opened = opened; pending = reverse stack }
