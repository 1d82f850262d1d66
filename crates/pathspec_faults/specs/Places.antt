-- Where in the text of a spec a fault is.
use Rattle.std.specs.Prelude.{ℕ, nat_eq, ◌+◌, ◌-◌, Bool, true, false, not, ◌&&◌, ◌||◌, List, [], ◌∷◌, length, drop, codes, bytes_eq, ◌==◌, if◌then◌else◌, Option, Some, None, unwrap_or}
use Rattle.std.specs.List.{ends_with, list_any, position_or_len, before_first, after_first, slice_split}
use Rattle.std.specs.Option.{option_or}
use Rattle.std.specs.declared.ops.Range.{Range}
use Rattle.pathspec_parts.specs.Bytes.{space, bang, dash, equals_sign, backslash, open_paren, close_paren, first_is, begins_with}
use Rattle.pathspec_parts.specs.Paths.{without_last_slash}
use Rattle.pathspec_pattern.specs.Faults.{Fault}
use Rattle.pathspec_pattern.specs.Faults.Fault.{Empty, UnimplementedShort, MissingParen, InvalidKeyword, LiteralWithGlob, SecondAttributes, InvalidPrefix, EmptyAttributes, InvalidName, InvalidValueByte, TrailingEscape, OutsideRoot, LeavesRepository, NotTruth, GlobAndNoGlob}
use Rattle.pathspec_pattern.specs.Reading.{long_pieces_from}

-- what is looked for in long magic
pub data Wanted : Type 0 where
  -- a whole piece
  Piece : (piece : List ℕ) → Wanted
  -- a name in a list of attributes
  Name : (name : List ℕ) → Wanted
  -- a value in such a list, as it is written
  Value : (value : List ℕ) → Wanted
  -- a byte of such a value, other than a backslash that escapes
  ValueByte : (byte : ℕ) → Wanted

-- a number of bytes from a place on
abbrev pub bytes_from : ℕ → ℕ → Range ℕ
bytes_from start count = record { start = start; end = start + count }

-- all of a text
abbrev pub whole : List ℕ → Range ℕ
whole text = bytes_from 0 (length text)

-- the place of a text that begins at start, if it is the one that is looked for
abbrev pub place_if_equal : List ℕ → ℕ → List ℕ → Option (Range ℕ)
place_if_equal wanted start text = if bytes_eq text wanted then Some (bytes_from start (length text)) else None

-- the first place that `place` gives in a list of texts, of which the first begins at start, and with one byte between two of them
abbrev pub first_place : (ℕ → List ℕ → Option (Range ℕ)) → ℕ → List (List ℕ) → Option (Range ℕ)
first_place place start [] = None
first_place place start (text ∷ texts) = option_or (place start text) (first_place place (start + length text + 1) texts)

-- ---- in a list of attributes

-- the byte is a space
abbrev pub is_space : ℕ → Bool
is_space b = b == space

-- the byte is `=`
abbrev pub is_equals_sign : ℕ → Bool
is_equals_sign b = b == equals_sign

-- a part with a mark in front has no value
abbrev pub is_marked : List ℕ → Bool
is_marked part = first_is (λ b. b == bang || b == dash) part

-- where the value of a part begins that begins at start
abbrev pub value_start : ℕ → List ℕ → ℕ
value_start start part = start + length part - length (after_first is_equals_sign part)

-- the first such byte of a value that begins at start, after a backslash that escapes or not
abbrev pub place_of_byte : ℕ → Bool → ℕ → List ℕ → Option (Range ℕ)
place_of_byte wanted is_escaped start [] = None
place_of_byte wanted is_escaped start (b ∷ bs) =
    if b == backslash && not is_escaped then place_of_byte wanted true (start + 1) bs
    else if b == wanted then Some (bytes_from start 1)
    else place_of_byte wanted false (start + 1) bs

-- the place in a part without a mark
abbrev pub place_in_assignment : Wanted → ℕ → List ℕ → Option (Range ℕ)
place_in_assignment (Piece piece) start part = None
place_in_assignment (Name name) start part = place_if_equal name start (before_first is_equals_sign part)
place_in_assignment (Value value) start part = place_if_equal value (value_start start part) (after_first is_equals_sign part)
place_in_assignment (ValueByte byte) start part = place_of_byte byte false (value_start start part) (after_first is_equals_sign part)

-- the place in what follows a mark, which is a name
abbrev pub place_in_name : Wanted → ℕ → List ℕ → Option (Range ℕ)
place_in_name (Piece piece) start name = None
place_in_name (Name wanted) start name = place_if_equal wanted start name
place_in_name (Value value) start name = None
place_in_name (ValueByte byte) start name = None

-- the place in a part of a list
abbrev pub place_in_part : Wanted → ℕ → List ℕ → Option (Range ℕ)
place_in_part wanted start part = if is_marked part then place_in_name wanted (start + 1) (drop 1 part) else place_in_assignment wanted start part

-- the place in a list
abbrev pub place_in_list : Wanted → ℕ → List ℕ → Option (Range ℕ)
place_in_list wanted start list = first_place (place_in_part wanted) start (slice_split is_space list)

-- ---- in long magic

-- the place in a piece that begins with `attr:`, where the list is what follows
abbrev pub place_in_attributes : Wanted → ℕ → List ℕ → Option (Range ℕ)
place_in_attributes wanted start piece = if begins_with piece (codes "attr:") then place_in_list wanted (start + 5) (drop 5 piece) else None

-- the place in a piece
abbrev pub place_in_piece : Wanted → ℕ → List ℕ → Option (Range ℕ)
place_in_piece (Piece wanted) start piece = place_if_equal wanted start piece
place_in_piece (Name name) start piece = place_in_attributes (Name name) start piece
place_in_piece (Value value) start piece = place_in_attributes (Value value) start piece
place_in_piece (ValueByte byte) start piece = place_in_attributes (ValueByte byte) start piece

-- the place in the text of long magic
abbrev pub place_in_pieces : Wanted → ℕ → List ℕ → Option (Range ℕ)
place_in_pieces wanted start long = first_place (place_in_piece wanted) start (long_pieces_from 0 long)

-- the byte is `(`
abbrev pub is_open : ℕ → Bool
is_open b = b == open_paren

-- the byte is `)`
abbrev pub is_close : ℕ → Bool
is_close b = b == close_paren

-- what follows the first `(`, up to a `)`
abbrev pub long_text_of : List ℕ → List ℕ
long_text_of text = before_first is_close (after_first is_open text)

-- the place in a text that holds `(`
abbrev pub place_in_magic : Wanted → List ℕ → Option (Range ℕ)
place_in_magic wanted text = if list_any is_open text then place_in_pieces wanted (position_or_len is_open text + 1) (long_text_of text) else None

-- ---- by the kind of fault

-- the first such byte of a text
abbrev pub place_of_first : ℕ → List ℕ → Option (Range ℕ)
place_of_first byte text = if list_any (λ b. b == byte) text then Some (bytes_from (position_or_len (λ b. b == byte) text) 1) else None

-- the last bytes of a text, if they are a path
abbrev pub place_at_end : List ℕ → List ℕ → Option (Range ℕ)
place_at_end path text = if ends_with nat_eq text path then Some (bytes_from (length text - length path) (length path)) else None

-- the path of a text, which a slash may follow
abbrev pub place_of_path : List ℕ → List ℕ → Option (Range ℕ)
place_of_path path text = option_or (place_at_end path (without_last_slash text)) (place_at_end path text)

-- what of a fault stands in long magic
abbrev pub wanted_of : Fault → Option Wanted
wanted_of Empty = None
wanted_of (UnimplementedShort byte) = None
wanted_of (MissingParen input) = None
wanted_of (InvalidKeyword piece) = Some (Piece piece)
wanted_of (LiteralWithGlob piece) = Some (Piece piece)
wanted_of (SecondAttributes piece) = Some (Piece piece)
wanted_of (InvalidPrefix piece) = Some (Piece piece)
wanted_of EmptyAttributes = Some (Piece (codes "attr:"))
wanted_of (InvalidName name) = Some (Name name)
wanted_of (InvalidValueByte byte) = Some (ValueByte byte)
wanted_of (TrailingEscape value) = Some (Value value)
wanted_of (OutsideRoot path) = None
wanted_of (LeavesRepository path) = None
wanted_of (NotTruth word) = None
wanted_of GlobAndNoGlob = None

-- the place of what stands elsewhere, if it is less than the whole text
abbrev pub place_outside : Fault → List ℕ → Option (Range ℕ)
place_outside Empty text = None
place_outside (UnimplementedShort byte) text = place_of_first byte text
place_outside (MissingParen input) text = None
place_outside (InvalidKeyword piece) text = None
place_outside (LiteralWithGlob piece) text = None
place_outside (SecondAttributes piece) text = None
place_outside (InvalidPrefix piece) text = None
place_outside EmptyAttributes text = None
place_outside (InvalidName name) text = None
place_outside (InvalidValueByte byte) text = None
place_outside (TrailingEscape value) text = None
place_outside (OutsideRoot path) text = place_of_path path text
place_outside (LeavesRepository path) text = place_of_path path text
place_outside (NotTruth word) text = None
place_outside GlobAndNoGlob text = None

-- the place in long magic, of what is to stand there
abbrev pub place_inside : Option Wanted → List ℕ → Option (Range ℕ)
place_inside None text = None
place_inside (Some wanted) text = place_in_magic wanted text

-- The place in a text of which a fault tells: that of what it carries, else the whole text.
abbrev pub place_of : Fault → List ℕ → Range ℕ
place_of fault text = unwrap_or (option_or (place_inside (wanted_of fault) text) (place_outside fault text)) (whole text)

-- The same, where memory that ran out is no fault: that is of the whole text.
abbrev pub place_told : Option Fault → List ℕ → Range ℕ
place_told None text = whole text
place_told (Some fault) text = place_of fault text
