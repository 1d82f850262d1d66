-- Entries in numbers, of a file mostly in four bytes.
use Rattle.std.specs.Prelude.{◌≡◌, ◌≢◌, ℕ, ◌+◌, ◌*◌, ◌/◌, ◌%◌, ◌^◌, ◌<◌, ◌≤◌, List, [], ◌∷◌, ◌++◌, length, map, get_or, slice_get, Some, nat_lt, if◌then◌else◌}
use Rattle.std.specs.List.{range_with_len}
use Rattle.pathspec_select.specs.declared.listing.spans.Span.{Span}
use Rattle.pathspec_select.specs.declared.listing.spans.Anchor.{Anchor}
use Rattle.pathspec_select.specs.declared.listing.spans.Packed.{Packed}
use Rattle.pathspec_select.specs.declared.listing.spans.Packed.TheVariants.{File, Other}

abbrev pub no_span : Span
no_span = record { start = 0; length = 0; end = 0 }

abbrev pub no_anchor : Anchor
no_anchor = record { start = 0; others = 0 }

abbrev pub no_entry : Packed
no_entry = File 0 0

-- the anchor of an entry's block
abbrev pub anchor_of : List Anchor → ℕ → Anchor
anchor_of anchors i = get_or anchors (i / 256) no_anchor

-- the numbers of an entry, where its block has this anchor and others these spans
abbrev pub span_of : Anchor → List Span → Packed → Span
span_of anchor others (File count start) = record { start = anchor.start + start; length = count; end = 0 }
span_of anchor others (Other number) = get_or others (anchor.others + number) no_span

abbrev pub span_at : List Packed → List Anchor → List Span → ℕ → Span
span_at packed anchors others i = span_of (anchor_of anchors i) others (get_or packed i no_entry)

-- the numbers of all entries
unfoldable pub unpacked : List Packed → List Anchor → List Span → List Span
unpacked packed anchors others = map (span_at packed anchors others) (range_with_len 0 (length packed))

-- a file with these numbers behind so many entries, in a block whose first entry stands before it and begins here
pub record IsFile (count block_start : ℕ) (span : Span) (packed : Packed) : Type 0 where
  pub later : count % 256 ≢ 0
  pub behind : ℕ
  pub is : packed ≡ File span.length behind
  pub begins : block_start + behind ≡ span.start
  pub fits : span.start < 2 ^ 64
  pub ends : span.end ≡ 0

-- a file behind so many entries that four bytes hold
pub record IsSmallFile (count block_start : ℕ) (span : Span) : Type 0 where
  pub later : count % 256 ≢ 0
  pub short : span.length < 256
  pub behind : block_start ≤ span.start
  pub near : span.start < block_start + 65536
  pub ends : span.end ≡ 0

-- the anchors, and this one behind them where the block has none
abbrev pub anchors_with : List Anchor → ℕ → Anchor → List Anchor
anchors_with anchors block first = if nat_lt block (length anchors) then anchors else anchors ++ first ∷ []

-- The block of the next entry begins here, unless that entry is its first.
abbrev pub BeginsBlock : List Packed → List Anchor → ℕ → Type 0
BeginsBlock packed anchors block_start = length packed % 256 ≢ 0 → block_start ≡ (anchor_of anchors (length packed)).start

-- Each block has an anchor, and each span is that of one entry.
pub record ArePacked (packed : List Packed) (anchors : List Anchor) (others : List Span) : Type 0 where
  pub anchored : length packed ≤ length anchors * 256
  pub start_fits : (i count start : ℕ) → slice_get packed i ≡ Some (File count start) → (anchor_of anchors i).start + start < 2 ^ 64
  pub other_inside : (i n : ℕ) → slice_get packed i ≡ Some (Other n) → (anchor_of anchors i).others + n < length others
  pub other_once : (i j m n : ℕ) → slice_get packed i ≡ Some (Other m) → slice_get packed j ≡ Some (Other n) → (anchor_of anchors i).others + m ≡ (anchor_of anchors j).others + n → i ≡ j
  -- a block has no more spans than entries
  pub others_before : (block : ℕ) → block < length anchors → (get_or anchors block no_anchor).others ≤ length others
  pub others_few : (block : ℕ) → block < length anchors → length others + block * 256 ≤ (get_or anchors block no_anchor).others + length packed
