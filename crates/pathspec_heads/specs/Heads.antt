-- Different texts in byte order, as the heads of specs are, and which of them begin a text.
use Rattle.std.specs.Prelude.{◌≡◌, ◌⊎◌, ℕ, ◌+◌, ◌-◌, ◌<◌, ◌≤◌, List, [], Bool, true, false, not, ◌&&◌, get_or, length, map, slice_range, bytes_eq, Option, Some, None}
use Rattle.std.specs.Ordering.{nat_cmp}
use Rattle.std.specs.declared.cmp.Ordering.TheVariants.{Less}
use Rattle.std.specs.Cmp.Lexicographic.{slice_cmp}
use Rattle.pathspec_glob.specs.Bytes.{is_empty, begins_with}
use Rattle.pathspec_heads.specs.Agreement.{agreement, is_behind}
use Rattle.pathspec_heads.specs.declared.sorted_texts.Span.{Span}
use Rattle.pathspec_heads.specs.declared.probe.TheConstants.{ROOM}

-- the head at a place
abbrev pub head_at : List (List ℕ) → ℕ → List ℕ
head_at heads place = get_or heads place []

-- the heads are different, and stand in byte order
abbrev pub IsRising : List (List ℕ) → Type 0
IsRising heads = (i j : ℕ) → i < j → j < length heads → slice_cmp nat_cmp (head_at heads i) (head_at heads j) ≡ Less

-- the last of the heads is this one
abbrev pub ends_with_head : List (List ℕ) → List ℕ → Bool
ends_with_head heads head = not (is_empty heads) && bytes_eq (head_at heads (length heads - 1)) head

-- the last of the first so many heads that begins the text, where one does
pub record IsLastFront (heads : List (List ℕ)) (count : ℕ) (text : List ℕ) (last : Option ℕ) : Type 0 where
  pub begins : (j : ℕ) → last ≡ Some j → (j < count) × (begins_with text (head_at heads j) ≡ true)
  pub later : (j : ℕ) → last ≡ Some j → (k : ℕ) → j < k → k < count → begins_with text (head_at heads k) ≡ false
  pub none : last ≡ None → (k : ℕ) → k < count → begins_with text (head_at heads k) ≡ false

-- the heads that begin the text are those that begin the head at a place
abbrev pub IsChainOf : List (List ℕ) → List ℕ → ℕ → Type 0
IsChainOf heads text j = (k : ℕ) → k < length heads → begins_with text (head_at heads k) ≡ begins_with (head_at heads j) (head_at heads k)

-- the text that a span has in the bytes
abbrev pub span_text : List ℕ → Span → List ℕ
span_text bytes span = slice_range bytes span.start (span.start + span.len)

-- the texts of spans
abbrev pub span_texts : List ℕ → List Span → List (List ℕ)
span_texts bytes spans = map (span_text bytes) spans

-- A span lies in the bytes, with room behind its start for one look. It tells how many bytes its text agrees in with the one
-- before, and the last text before it that begins it.
pub record IsSpan (bytes : List ℕ) (texts : List (List ℕ)) (i : ℕ) (span : Span) : Type 0 where
  pub within : span.start + span.len ≤ length bytes
  pub room : span.start + ROOM ≤ length bytes
  pub shared : (k : ℕ) → k + 1 ≡ i → span.shared ≡ agreement (head_at texts k) (head_at texts i)
  pub linked : IsLastFront texts i (head_at texts i) span.link

-- the texts of the spans rise, and each span tells what it should
pub record AreSpans (bytes : List ℕ) (spans : List Span) : Type 0 where
  pub rising : IsRising (span_texts bytes spans)
  pub each : (i : ℕ) (d : Span) → i < length spans → IsSpan bytes (span_texts bytes spans) i (get_or spans i d)

-- The heads below low are not behind the text, those from high on are, and the last one below low agrees with it so far. The
-- heads beside the two don't begin with the text.
pub record Brackets (heads : List (List ℕ)) (text : List ℕ) (low high agreed : ℕ) : Type 0 where
  pub rising : IsRising heads
  pub order : low ≤ high
  pub within : high ≤ length heads
  pub first : low ≡ 0 → agreed ≡ 0
  pub below : (k : ℕ) → k + 1 ≡ low → (is_behind (head_at heads k) text ≡ false) × (agreed ≡ agreement (head_at heads k) text) × (agreed < length text)
  pub above : high < length heads → (is_behind (head_at heads high) text ≡ true) × (agreement (head_at heads high) text < length text)

-- a search came upon a head that begins with the text, and ended
pub record IsMet (heads : List (List ℕ)) (text : List ℕ) (low high agreed : ℕ) : Type 0 where
  pub rising : IsRising heads
  pub ended : high ≡ low
  pub place : ℕ
  pub at : place + 1 ≡ low
  pub within : place < length heads
  pub all : (agreed ≡ agreement (head_at heads place) text) × (length text ≤ agreed)

-- where a search is
abbrev pub IsSearched : List (List ℕ) → List ℕ → ℕ → ℕ → ℕ → Type 0
IsSearched heads text low high agreed = Brackets heads text low high agreed ⊎ IsMet heads text low high agreed
