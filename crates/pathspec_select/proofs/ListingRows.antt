-- Rows on listings and the entries of their trees.
use Rattle.std.proofs.Common.{◌≡◌, ℕ, Bool, List, true, false, refl, [], ◌∷◌, Some, None, map}
use Rattle.std.specs.Prelude.{codes}
use Rattle.pathspec_parts.specs.Entries.{Entry}
use Rattle.pathspec_parts.specs.Records.{records, first_bad, listing_entries}
use Rattle.pathspec_select.specs.Listing.{marks_from, mark_at}

two_records : records 10 (codes "x\ny z\n") ≡ (codes "x" ∷ codes "y z" ∷ [])
two_records = refl

last_lacks_its_separator : records 0 (120 ∷ 0 ∷ 121 ∷ 32 ∷ 122 ∷ []) ≡ (codes "x" ∷ codes "y z" ∷ [])
last_lacks_its_separator = refl

no_record : records 10 [] ≡ []
no_record = refl

-- listings with an empty record, a lone slash and two slashes
bad_records : map (λ text. first_bad (records 10 text)) (codes "\n" ∷ codes "a\n\nb" ∷ codes "a/\n/\n" ∷ codes "a/b/\na//b\n" ∷ []) ≡ (Some 1 ∷ Some 2 ∷ Some 2 ∷ Some 2 ∷ [])
bad_records = refl

-- the parts of an entry as a tuple
abbrev parts : Entry → List ℕ × Bool × List ℕ
parts e = (e.path, e.is_dir, e.above)

-- directories that are implied, one that comes again, and one after its own entries
abbrev rs : List (List ℕ)
rs = codes "a/b/c" ∷ codes "a/d" ∷ codes "a/" ∷ codes "a/e" ∷ codes "x/" ∷ codes "x/" ∷ []

entries_of_records : map parts (listing_entries rs) ≡ ((codes "a", true, []) ∷ (codes "a/b", true, (0 ∷ [])) ∷ (codes "a/b/c", false, (0 ∷ 1 ∷ [])) ∷ (codes "a/d", false, (0 ∷ [])) ∷ (codes "a", true, []) ∷ (codes "a/e", false, (4 ∷ [])) ∷ (codes "x", true, []) ∷ (codes "x", true, []) ∷ [])
entries_of_records = refl

marks_of_records : marks_from [] rs ≡ (None ∷ None ∷ Some (codes "a/b/c") ∷ Some (codes "a/d") ∷ Some (codes "a/") ∷ Some (codes "a/e") ∷ Some (codes "x/") ∷ Some (codes "x/") ∷ [])
marks_of_records = refl

record_of_entry : mark_at (marks_from [] rs) 4 ≡ Some (codes "a/")
record_of_entry = refl

implied_has_none : mark_at (marks_from [] rs) 1 ≡ None
implied_has_none = refl

-- a file lies in no file of its name
file_and_directory : map parts (listing_entries (codes "a" ∷ codes "a/b" ∷ [])) ≡ ((codes "a", false, []) ∷ (codes "a", true, []) ∷ (codes "a/b", false, (1 ∷ [])) ∷ [])
file_and_directory = refl

-- one record of five names: a directory is implied by each but the last
deep_record : map parts (listing_entries (codes "a/a/a/a/a" ∷ []))
    ≡ ((codes "a", true, []) ∷ (codes "a/a", true, (0 ∷ [])) ∷ (codes "a/a/a", true, (0 ∷ 1 ∷ [])) ∷ (codes "a/a/a/a", true, (0 ∷ 1 ∷ 2 ∷ [])) ∷ (codes "a/a/a/a/a", false, (0 ∷ 1 ∷ 2 ∷ 3 ∷ [])) ∷ [])
deep_record = refl

mark_of_deep_record : mark_at (marks_from [] (codes "a/a/a/a/a" ∷ [])) 4 ≡ Some (codes "a/a/a/a/a")
mark_of_deep_record = refl
