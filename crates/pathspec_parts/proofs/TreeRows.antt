-- Rows on trees.
use Rattle.std.proofs.Common.{◌≡◌, ℕ, Bool, List, true, false, refl, [], ◌∷◌, Some, None, map}
use Rattle.std.specs.Prelude.{codes}
use Rattle.pathspec_parts.specs.Entries.{Call, Entry, entries, entries_where, is_seen, numbers_of}
use Rattle.pathspec_parts.specs.Entries.Call.{Open, File, Close}
use Rattle.pathspec_parts.specs.Trees.{tree_of_calls}
use Rattle.pathspec_parts.specs.Cursors.{CursorContents, next_seen, new_cursor, cursor_at, after_enter, path_at, is_dir_at}

-- the parts of an entry as a tuple
abbrev parts : Entry → List ℕ × Bool × List ℕ
parts e = (e.path, e.is_dir, e.above)

entries_of_calls : map parts (entries (Open (codes "a") ∷ File (codes "b") ∷ Close ∷ File (codes "c") ∷ [])) ≡ (((codes "a"), true, []) ∷ ((codes "a/b"), false, (0 ∷ [])) ∷ ((codes "c"), false, []) ∷ [])
entries_of_calls = refl

-- a directory in a directory, names of each kind that come again, and a directory that is never closed
abbrev calls : List Call
calls = Open (codes "a") ∷ Open (codes "b") ∷ File (codes "c") ∷ Close ∷ File (codes "b") ∷ Close ∷ Open (codes "a") ∷ Open (codes "a") ∷ []

entries_that_come_again : map parts (entries calls) ≡ (((codes "a"), true, []) ∷ ((codes "a/b"), true, (0 ∷ [])) ∷ ((codes "a/b/c"), false, (0 ∷ 1 ∷ [])) ∷ ((codes "a/b"), false, (0 ∷ [])) ∷ ((codes "a"), true, []) ∷ ((codes "a/a"), true, (4 ∷ [])) ∷ [])
entries_that_come_again = refl

still_open : numbers_of (tree_of_calls calls).open_directories ≡ (4 ∷ 5 ∷ [])
still_open = refl

directories_of_tree : entries_where (λ path is_dir. is_dir) (entries calls) ≡ (0 ∷ 1 ∷ 4 ∷ 5 ∷ [])
unfolding entries_where
directories_of_tree = refl

seen_in_first : map (is_seen (0 ∷ [])) (entries calls) ≡ (true ∷ true ∷ false ∷ true ∷ true ∷ false ∷ [])
seen_in_first = refl

-- to close where nothing is open changes nothing
closed_once_more : entries (Close ∷ File (codes "c") ∷ []) ≡ entries (File (codes "c") ∷ [])
closed_once_more = refl

next_in_entered : next_seen (0 ∷ []) 1 (entries calls) ≡ Some 1
next_in_entered = refl

next_over_others : next_seen [] 1 (entries calls) ≡ Some 4
next_over_others = refl

none_next : next_seen [] 5 (entries calls) ≡ None
none_next = refl

-- a cursor at the directory `a/b`, which is entered twice
abbrev entered_twice : CursorContents
entered_twice = after_enter (after_enter (cursor_at (new_cursor (entries calls)) (Some 1)))

trail_of_two : entered_twice.entered ≡ (1 ∷ [])
trail_of_two = refl

path_of_two : path_at entered_twice ≡ codes "a/b"
path_of_two = refl

file_is_not_entered : (after_enter (cursor_at (new_cursor (entries calls)) (Some 2))).entered ≡ []
file_is_not_entered = refl

no_path_at_start : path_at (new_cursor (entries calls)) ≡ []
no_path_at_start = refl

no_directory_at_start : is_dir_at (new_cursor (entries calls)) ≡ false
no_directory_at_start = refl
