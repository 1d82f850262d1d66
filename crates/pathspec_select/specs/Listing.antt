-- Listings of paths, and what the program writes.
use Rattle.std.specs.Prelude.{◌≡◌, ℕ, List, [], ◌∷◌, ◌++◌, length, filter, filter_map, flat_map, replicate, slice_get, Option, Some, None, option_and_then, MatchOption, IsTrue}
use Rattle.std.specs.List.{AllZip}
use Rattle.pathspec_parts.specs.Attributes.{Table}
use Rattle.pathspec_parts.specs.Entries.{Entry}
use Rattle.pathspec_parts.specs.Records.{record_is_dir, record_path, parent_names, open_after, implied_names, listing_entries}
use Rattle.pathspec_parts.specs.Outputs.{output_where}
use Rattle.gix_pathspec.specs.Specs.{Spec}
use Rattle.gix_pathspec.specs.Matching.{is_chosen}
use Rattle.pathspec_walk.specs.Walks.{IsWalk}

-- ---- what is written

-- What is written for a listing: each chosen record with one separator after it.
unfoldable pub output : Table → List Spec → ℕ → List (List ℕ) → List ℕ
output table specs separator rs = output_where (is_chosen table specs) separator rs

-- ---- the tree of a listing

-- the record, if any, that each entry of its calls is made from: the directories that are only implied have none
abbrev pub marks_of_record : List (List ℕ) → List ℕ → List (Option (List ℕ))
marks_of_record names r = replicate (length (implied_names names (parent_names r))) None ++ Some r ∷ []

-- the same for each entry of the tree of records
abbrev pub marks_from : List (List ℕ) → List (List ℕ) → List (Option (List ℕ))
marks_from names [] = []
marks_from names (r ∷ rs) = marks_of_record names r ++ marks_from (open_after r) rs

-- the record of one entry
abbrev pub mark_at : List (Option (List ℕ)) → ℕ → Option (List ℕ)
mark_at marks n = option_and_then (λ mark. mark) (slice_get marks n)

-- a record with the separator after it, where there is one
abbrev pub written_of : ℕ → Option (List ℕ) → List ℕ
written_of separator None = []
written_of separator (Some r) = r ++ separator ∷ []

-- what is written for these entries
abbrev pub written_entries : ℕ → List (Option (List ℕ)) → List ℕ → List ℕ
written_entries separator marks entries = flat_map (λ n. written_of separator (mark_at marks n)) entries

-- the entry of a record, with its path and its kind; or a directory that is only implied
abbrev pub IsEntryOf : Entry → Option (List ℕ) → Type 0
IsEntryOf e mark = MatchOption mark (IsTrue e.is_dir) (λ r. (e.path ≡ record_path r) × (e.is_dir ≡ record_is_dir r))

-- The tree of records has an entry for each record, in their order; its other entries are directories that are only implied.
pub record RecordsAreEntries (rs : List (List ℕ)) : Type 0 where
  pub each : AllZip IsEntryOf (listing_entries rs) (marks_from [] rs)
  pub all : filter_map (λ mark. mark) (marks_from [] rs) ≡ rs

-- what is read of a listing: the entries of its tree, and the record of each that has one
pub record ListingContents : Type 0 where
  pub entries : List Entry
  pub marks : List (Option (List ℕ))

-- what is read of a listing of records
abbrev pub listing_of : List (List ℕ) → ListingContents
listing_of rs = record { entries = listing_entries rs; marks = marks_from [] rs }

-- What is written for a listing is what is written for the entries that a walk over its tree gives.
abbrev pub OutputByWalk : Table → List Spec → Type 0
OutputByWalk table specs = (separator : ℕ) (rs : List (List ℕ)) (given entered : List ℕ) → IsWalk table specs (listing_entries rs) given entered
    → output table specs separator rs ≡ written_entries separator (marks_from [] rs) given
