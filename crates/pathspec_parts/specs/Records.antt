-- Records of paths, and the tree that they make.
use Rattle.std.specs.Prelude.{ℕ, ◌-◌, Bool, false, ◌&&◌, ◌||◌, List, [], ◌∷◌, ◌++◌, length, take, drop, map, replicate, bytes_eq, ◌==◌, if◌then◌else◌, Option}
use Rattle.std.specs.List.{slice_split, position_from, common_prefix_len, list_any}
use Rattle.pathspec_glob.specs.Bytes.{slash, is_empty, first_is, begins_with}
use Rattle.pathspec_parts.specs.Paths.{is_slash, pieces, ends_with_slash, without_last_slash}
use Rattle.pathspec_parts.specs.Entries.{Call, Entry, own_call, entries}
use Rattle.pathspec_parts.specs.Entries.Call.{Open, Close}

-- ---- records

-- without the last part, where that is empty
abbrev pub without_empty_end : List (List ℕ) → List (List ℕ)
without_empty_end [] = []
without_empty_end (x ∷ []) = if is_empty x then [] else x ∷ []
without_empty_end (x ∷ y ∷ xs) = x ∷ without_empty_end (y ∷ xs)

-- Records end with the separator, which the last may lack.
abbrev pub records : ℕ → List ℕ → List (List ℕ)
records separator bytes = without_empty_end (slice_split (λ b. b == separator) bytes)

-- a record that ends with a slash is a directory
abbrev pub record_is_dir : List ℕ → Bool
record_is_dir r = ends_with_slash r

-- a record without its last slash
abbrev pub record_path : List ℕ → List ℕ
record_path r = without_last_slash r

-- a slash right after a slash
abbrev pub holds_two_slashes : List ℕ → Bool
holds_two_slashes [] = false
holds_two_slashes (b ∷ bs) = is_slash b && first_is is_slash bs || holds_two_slashes bs

-- A record is bad where it is empty, begins with a slash or holds two in a row.
abbrev pub is_bad : List ℕ → Bool
is_bad r = is_empty r || begins_with r (slash ∷ []) || holds_two_slashes r

-- the number of the first bad record, from 1
abbrev pub first_bad : List (List ℕ) → Option ℕ
first_bad rs = position_from is_bad 1 rs

-- the names of a directory's path that has a slash after each
abbrev pub directory_names : List ℕ → List (List ℕ)
directory_names path = records slash path

-- some name is empty
abbrev pub has_empty_name : List (List ℕ) → Bool
has_empty_name names = list_any is_empty names

-- ---- the tree of records

-- the names of a record's path
abbrev pub record_names : List ℕ → List (List ℕ)
record_names r = pieces (record_path r)

-- those of the directories that it lies in
abbrev pub parent_names : List ℕ → List (List ℕ)
parent_names r = take (length (record_names r) - 1) (record_names r)

-- its own, alone
abbrev pub own_names : List ℕ → List (List ℕ)
own_names r = drop (length (record_names r) - 1) (record_names r)

-- the names of the directories that are open after a record: it lies in them, or is the last of them
abbrev pub open_after : List ℕ → List (List ℕ)
open_after r = if record_is_dir r then record_names r else parent_names r

-- how many of the open directories are the first of the wanted ones
abbrev pub shared_depth : List (List ℕ) → List (List ℕ) → ℕ
shared_depth names wanted = common_prefix_len bytes_eq names wanted

-- the other wanted ones
abbrev pub implied_names : List (List ℕ) → List (List ℕ) → List (List ℕ)
implied_names names wanted = drop (shared_depth names wanted) wanted

-- The calls after which the wanted directories are open, where those with these names are: the ones that aren't wanted are closed, and the missing ones opened.
abbrev pub directory_calls : List (List ℕ) → List (List ℕ) → List Call
directory_calls names wanted = replicate (length names - shared_depth names wanted) Close ++ map Open (implied_names names wanted)

-- the calls of a record: the directories that it lies in are opened, and its own entry is added
abbrev pub record_calls : List (List ℕ) → List ℕ → List Call
record_calls names r = directory_calls names (parent_names r) ++ map (own_call (record_is_dir r)) (own_names r)

-- The calls that make the tree of records, where directories with these names are open.
abbrev pub calls_from : List (List ℕ) → List (List ℕ) → List Call
calls_from names [] = []
calls_from names (r ∷ rs) = record_calls names r ++ calls_from (open_after r) rs

-- The entries of the tree of records.
abbrev pub listing_entries : List (List ℕ) → List Entry
listing_entries rs = entries (calls_from [] rs)
