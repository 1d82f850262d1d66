-- A tree that lies over the bytes of a listing.
use Rattle.std.specs.Prelude.{◌≡◌, ◌≢◌, ℕ, ◌+◌, ◌-◌, ◌≤◌, ◌<◌, Bool, slice_get, true, false, List, [], ◌∷◌, ◌++◌, length, map, take, drop, Option, Some, None, option_map, unwrap_or, ◌==◌, if◌then◌else◌}
use Rattle.std.specs.List.{before_first}
use Rattle.pathspec_parts.specs.Paths.{IsBytes, pieces}
use Rattle.pathspec_parts.specs.Entries.{Entry, own_call, names_of}
use Rattle.pathspec_parts.specs.Entries.Call.{Close}
use Rattle.pathspec_parts.specs.Trees.{TreeContents, empty_tree, tree_after}
use Rattle.pathspec_parts.specs.Nesting.{Nesting, open_end, nested_tree, AreNested}
use Rattle.pathspec_parts.specs.TreeLayout.{path_above}
use Rattle.pathspec_select.specs.Listing.{ListingContents, mark_at, written_of}
use Rattle.pathspec_parts.specs.Records.{directory_names}
use Rattle.pathspec_parts.specs.RecordParts.{IsClosed}
use Rattle.pathspec_select.specs.declared.listing.outline.Piece.{Piece}
use Rattle.pathspec_select.specs.declared.listing.spans.Span.{Span}

-- a listing, its separator, the tree of what was read of it so far, and the record of each entry that has one
pub record OutlineContents : Type 0 where
  pub bytes : List ℕ
  pub separator : ℕ
  pub tree : TreeContents
  pub marks : List (Option (List ℕ))

-- so many bytes of a listing from a place on
abbrev pub part : List ℕ → ℕ → ℕ → List ℕ
part bytes start count = take count (drop start bytes)

-- the record that begins at a place
abbrev pub record_from : ℕ → List ℕ → ℕ → List ℕ
record_from separator bytes start = before_first (λ b. b == separator) (drop start bytes)

-- the last of these names
abbrev pub last_of : List (List ℕ) → List ℕ
last_of [] = []
last_of (x ∷ []) = x
last_of (x ∷ y ∷ xs) = last_of (y ∷ xs)

-- what a path has after its last slash
abbrev pub last_name : List ℕ → List ℕ
last_name path = last_of (pieces path)

-- how long the record of an entry is whose path has so many bytes
abbrev pub record_length : ℕ → Bool → ℕ
record_length count is_dir = if is_dir then count + 1 else count

-- the record of an entry whose path begins at a place and has so many bytes: the record from there, where that is so long
abbrev pub mark_of : ℕ → List ℕ → ℕ → ℕ → Bool → Option (List ℕ)
mark_of separator bytes start count is_dir = if length (record_from separator bytes start) == record_length count is_dir then Some (record_from separator bytes start) else None

-- the path of an entry lies in one record: a directory's with a slash behind it, and a file's is all of the record
abbrev pub LiesInRecord : ℕ → List ℕ → ℕ → ℕ → Bool → Type 0
LiesInRecord separator bytes start count true = count + 1 ≤ length (record_from separator bytes start)
LiesInRecord separator bytes start count false = count ≡ length (record_from separator bytes start)

-- nothing was read
abbrev pub empty_outline : List ℕ → ℕ → OutlineContents
empty_outline bytes separator = record { bytes = bytes; separator = separator; tree = empty_tree; marks = [] }

-- one more entry, whose path is a part of the listing
abbrev pub outline_after : OutlineContents → ℕ → ℕ → Bool → OutlineContents
outline_after o start count is_dir = record o { tree = tree_after o.tree (own_call is_dir (last_name (part o.bytes start count))); marks = o.marks ++ mark_of o.separator o.bytes start count is_dir ∷ [] }

-- the open directory closed
abbrev pub outline_closed : OutlineContents → OutlineContents
outline_closed o = record o { tree = tree_after o.tree Close }

-- the path of the open directory, a slash and a name
pub record LiesOpen (t : TreeContents) (path : List ℕ) : Type 0 where
  pub path_is : path ≡ path_above t.open_directories ++ last_name path
  pub name_some : last_name path ≢ []

-- this is the record that begins at a place
abbrev pub IsRecordAt : OutlineContents → ℕ → List ℕ → Type 0
IsRecordAt o start text = text ≡ record_from o.separator o.bytes start

-- the path of a directory begins the record from a place, and isn't all of it
pub record BeginsRecord (o : OutlineContents) (start : ℕ) (path : List ℕ) : Type 0 where
  pub closed : IsClosed path
  pub front : take (length path) (record_from o.separator o.bytes start) ≡ path
  pub shorter : length path < length (record_from o.separator o.bytes start)

-- the listing is the same
pub record KeepsListing (old new : OutlineContents) : Type 0 where
  pub bytes : new.bytes ≡ old.bytes
  pub separator : new.separator ≡ old.separator

-- the directories that are open, by a path with a slash after each name
pub record HasOpen (t : TreeContents) (directory : List ℕ) : Type 0 where
  pub names : names_of t.open_directories ≡ directory_names directory
  pub path : path_above t.open_directories ≡ directory

-- ---- pieces of a listing

-- a piece lies in the listing
pub record IsPiece (bytes : List ℕ) (p : Piece) : Type 0 where
  pub rises : p.start ≤ p.end
  pub fits : p.end ≤ length bytes

-- the bytes of a piece
abbrev pub bytes_of : List ℕ → Piece → List ℕ
bytes_of bytes p = part bytes p.start (p.end - p.start)

-- bytes and those of a piece behind them
abbrev pub with_piece : List ℕ → List ℕ → Piece → List ℕ
with_piece held bytes p = held ++ bytes_of bytes p

-- The piece is the record of an entry, with the separator after it.
pub record IsRecordPiece (o : OutlineContents) (separator number : ℕ) (p : Piece) : Type 0 where
  pub lies : IsPiece o.bytes p
  pub written : bytes_of o.bytes p ≡ written_of separator (mark_at o.marks number)

-- ---- by its numbers

-- the path of an entry is a part of the listing
abbrev pub path_of_span : List ℕ → Span → List ℕ
path_of_span bytes s = part bytes s.start s.length

-- the name of the entry with a number
abbrev pub name_of_span : List ℕ → List Span → ℕ → List ℕ
name_of_span bytes spans i = last_name (unwrap_or (option_map (path_of_span bytes) (slice_get spans i)) [])

-- where what lies in it ends, 0 for a file
abbrev pub end_of_span : List Span → ℕ → ℕ
end_of_span spans i = unwrap_or (option_map (λ s. s.end) (slice_get spans i)) 0

abbrev pub tree_of_spans : List ℕ → List Span → TreeContents
tree_of_spans bytes spans = nested_tree (name_of_span bytes spans) (end_of_span spans) (length spans)

-- whether the entry is a directory
abbrev pub is_dir_span : Span → Bool
is_dir_span s = if s.end == 0 then false else true

-- the record of an entry
abbrev pub mark_of_span : ℕ → List ℕ → Span → Option (List ℕ)
mark_of_span separator bytes s = mark_of separator bytes s.start s.length (is_dir_span s)

abbrev pub outline_of_spans : List ℕ → ℕ → List Span → OutlineContents
outline_of_spans bytes separator spans = record { bytes = bytes; separator = separator; tree = tree_of_spans bytes spans; marks = map (mark_of_span separator bytes) spans }

-- the span of the entry with a number lies in the listing, and has its path, in one record
pub record IsSpan (bytes : List ℕ) (separator : ℕ) (es : List Entry) (i : ℕ) (s : Span) : Type 0 where
  pub fits : s.start + s.length ≤ length bytes
  pub path : (e : Entry) → slice_get es i ≡ Some e → path_of_span bytes s ≡ e.path
  pub in_record : LiesInRecord separator bytes s.start s.length (is_dir_span s)

abbrev pub AreSpans : List ℕ → ℕ → List Entry → List Span → Type 0
AreSpans bytes separator es spans = (i : ℕ) (s : Span) → slice_get spans i ≡ Some s → IsSpan bytes separator es i s

-- the numbers of an outline
pub record IsOutline (bytes : List ℕ) (separator : ℕ) (spans : List Span) (nested : Nesting) : Type 0 where
  pub all_bytes : IsBytes bytes
  pub nesting : AreNested (name_of_span bytes spans) (end_of_span spans) (length spans) nested.stack nested.directories
  pub spans_are : AreSpans bytes separator (tree_of_spans bytes spans).entries spans
  pub room : length spans + 1 < open_end

-- the entries of an outline and their records
abbrev pub listing_of_outline : OutlineContents → ListingContents
listing_of_outline o = record { entries = o.tree.entries; marks = o.marks }
