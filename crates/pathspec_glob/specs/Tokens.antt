-- Glob patterns as tokens (git's wildmatch).
use Rattle.std.specs.Prelude.{◌≡◌, ℕ, zero, suc, ◌+◌, ◌-◌, Bool, true, false, not, ◌&&◌, ◌||◌, List, [], ◌∷◌, length, take, drop, codes, bytes_eq, ◌==◌, if◌then◌else◌, Option, Some, None, is_some, nat_le}
use Rattle.std.specs.List.{list_any, before_first, prefix_len}
use Rattle.std.specs.Int.{is_in_range}
use Rattle.std.specs.Char.{is_ascii_alphanumeric, is_ascii_alphabetic, is_ascii_control, is_ascii_digit, is_ascii_graphic, is_ascii_lowercase, is_ascii_uppercase, is_ascii_hexdigit}
use Rattle.pathspec_glob.specs.declared.Mode.{Mode}
use Rattle.pathspec_glob.specs.declared.Mode.TheVariants.{Shell, PathAware}
use Rattle.pathspec_glob.specs.Bytes.{slash, star, question_mark, open_bracket, close_bracket, backslash, dash, colon, is_one_of, is_empty, first_is, begins_with}

-- ---- brackets

-- an item of a bracket
pub data Item : Type 0 where
  Literal : (byte : ℕ) → Item
  -- from the first to the last, and nothing where the last is below the first
  Range : (first last : ℕ) → Item
  Class : (name : List ℕ) → Item

-- the bytes of a class, where the name is one
abbrev pub class_of : List ℕ → Option (ℕ → Bool)
class_of name =
    if bytes_eq name (codes "alnum") then Some is_ascii_alphanumeric
    else if bytes_eq name (codes "alpha") then Some is_ascii_alphabetic
    else if bytes_eq name (codes "blank") then Some (is_one_of (9 ∷ 32 ∷ []))
    else if bytes_eq name (codes "cntrl") then Some is_ascii_control
    else if bytes_eq name (codes "digit") then Some is_ascii_digit
    else if bytes_eq name (codes "graph") then Some is_ascii_graphic
    else if bytes_eq name (codes "lower") then Some is_ascii_lowercase
    else if bytes_eq name (codes "print") then Some (is_in_range 32 126)
    else if bytes_eq name (codes "punct") then Some (λ b. is_ascii_graphic b && not (is_ascii_alphanumeric b))
    else if bytes_eq name (codes "space") then Some (is_one_of (9 ∷ 10 ∷ 13 ∷ 32 ∷ []))
    else if bytes_eq name (codes "upper") then Some is_ascii_uppercase
    else if bytes_eq name (codes "xdigit") then Some is_ascii_hexdigit
    else None

-- the name, where it is that of a class
abbrev pub known_class : List ℕ → Option (List ℕ)
known_class name = if is_some (class_of name) then Some name else None

-- the front of a bracket's rest: an item of so many bytes, its closing `]`, or nothing that can be read
pub data Front : Type 0 where
  Listed : (item : Item) (size : ℕ) → Front
  Closed : Front
  Broken : Front

-- `\x` is the byte x
abbrev pub escaped_item : List ℕ → Front
escaped_item [] = Broken
escaped_item (x ∷ rest) = Listed (Literal x) 2

-- `-` after a single byte makes a range from it to the next byte, which an escape may write
abbrev pub range_item : ℕ → List ℕ → Front
range_item low [] = Broken
range_item low (c ∷ []) = if c == backslash then Broken else Listed (Range low c) 2
range_item low (c ∷ x ∷ rest) = if c == backslash then Listed (Range low x) 3 else Listed (Range low c) 2

-- where a `-` makes a range: a single byte stands directly before it, and the next byte is there and is no `]`
abbrev pub makes_range : Option ℕ → List ℕ → Bool
makes_range last rest = is_some last && first_is (λ b. not (b == close_bracket)) rest

-- the range from the last single byte, where there is one
abbrev pub range_from : Option ℕ → List ℕ → Front
range_from None rest = Broken
range_from (Some low) rest = range_item low rest

-- the text before its last byte, where that one is `:`
abbrev pub before_last_colon : List ℕ → Option (List ℕ)
before_last_colon text =
    let front = length text - 1 in
    if first_is (λ b. b == colon) (drop front text) then Some (take front text) else None

-- the class of this name, which stands between `[:` and `:]`
abbrev pub named_class : List ℕ → Front
named_class name = if is_some (class_of name) then Listed (Class name) (length name + 4) else Broken

-- `[:` with a name and `:]` is a class; where no `:` stands before the next `]`, the `[` is a byte; without a `]` nothing can be read
abbrev pub class_item : List ℕ → Front
class_item rest =
    let inside = before_first (λ b. b == close_bracket) rest in
    let name = take (length inside - 1) inside in
    if not (list_any (λ b. b == close_bracket) rest) then Broken
    else if not (first_is (λ b. b == colon) (drop (length inside - 1) inside)) then Listed (Literal open_bracket) 1
    else if is_some (class_of name) then Listed (Class name) (length inside + 3)
    else Broken

-- The front of a bracket's rest, in the place of its first item or not, after a single byte or not. The first case that applies decides.
abbrev pub front_of : Bool → Option ℕ → List ℕ → Front
front_of first last [] = Broken
front_of first last (b ∷ rest) =
    if b == close_bracket && not first then Closed
    else if b == backslash then escaped_item rest
    else if b == dash && makes_range last rest then range_from last rest
    else if b == open_bracket && first_is (λ c. c == colon) rest then class_item (drop 1 rest)
    else Listed (Literal b) 1

-- the byte that a next `-` may start from
abbrev pub single_of : Front → Option ℕ
single_of (Listed (Literal b) size) = Some b
single_of (Listed (Range low high) size) = None
single_of (Listed (Class name) size) = None
single_of Closed = None
single_of Broken = None

-- how many bytes the front takes
abbrev pub bytes_of : Front → ℕ
bytes_of (Listed item size) = size
bytes_of Closed = 1
bytes_of Broken = 1

-- items and what follows their bracket
pub record Items : Type 0 where
  pub items : List Item
  pub rest : List ℕ

-- the items with one more in front
abbrev pub item_before : Item → Option Items → Option Items
item_before item None = None
item_before item (Some others) = Some (record { items = item ∷ others.items; rest = others.rest })

-- the items of a bracket's rest: its front, the bytes after its first, and the items that follow the front
abbrev pub items_with : Front → List ℕ → Option Items → Option Items
items_with (Listed item size) bs others = item_before item others
items_with Closed bs others = Some (record { items = []; rest = bs })
items_with Broken bs others = None

-- The items up to the closing `]`, where the bracket closes. The first skip bytes belong to the item before.
abbrev pub items_from : ℕ → Bool → Option ℕ → List ℕ → Option Items
items_from skip first last [] = None
items_from (suc skip) first last (b ∷ bs) = items_from skip first last bs
items_from zero first last (b ∷ bs) =
    let front = front_of first last (b ∷ bs) in
    items_with front bs (items_from (bytes_of front - 1) false (single_of front) bs)

-- ---- tokens

-- a rule for one byte of a text
pub data OneByte : Type 0 where
  -- a byte, as it stands or after a backslash
  Byte : (byte : ℕ) → OneByte
  Quoted : (byte : ℕ) → OneByte
  -- any byte
  Any : OneByte
  -- a byte that the items hold, or one that they do not
  Bracket : (negated : Bool) (items : List Item) → OneByte
  -- no byte
  Dead : OneByte

-- one part of a glob
pub data Token : Type 0 where
  -- one byte
  One : (single : OneByte) → Token
  -- any bytes without `/`
  Star : Token
  -- any bytes
  Deep : Token

-- a token at the front of a pattern
pub record Piece : Type 0 where
  pub token : Token
  -- how many bytes of the pattern it takes
  pub size : ℕ

-- `\x` is the byte x, and a last backslash is dead
abbrev pub escaped_piece : List ℕ → Piece
escaped_piece [] = record { token = One Dead; size = 1 }
escaped_piece (x ∷ rest) = record { token = One (Quoted x); size = 2 }

-- a bracket with these items, of a pattern whose rest after `[` is this long
abbrev pub bracket_with : Bool → ℕ → Option Items → Piece
bracket_with negated len None = record { token = One Dead; size = 1 }
bracket_with negated len (Some read) = record { token = One (Bracket negated read.items); size = len + 1 - length read.rest }

-- the bracket before this rest, which one `!` or `^` negates
abbrev pub bracket_piece : List ℕ → Piece
bracket_piece rest =
    let negated = first_is (is_one_of (codes "!^")) rest in
    bracket_with negated (length rest) (items_from 0 true None (if negated then drop 1 rest else rest))

-- whether a run of stars may take slashes: it has two or more, at the pattern's start or after a slash, and stands before the end, `/` or `\/`
abbrev pub is_deep : Bool → ℕ → List ℕ → Bool
is_deep after_slash run rest = nat_le 2 run && after_slash && (is_empty rest || begins_with rest (codes "/") || begins_with rest (codes "\\/"))

-- the token of a run of stars
abbrev pub run_token : Mode → Bool → ℕ → List ℕ → Token
run_token Shell after_slash run rest = Deep
run_token PathAware after_slash run rest = if is_deep after_slash run rest then Deep else Star

-- a run of stars is taken whole
abbrev pub run_piece : Mode → Bool → ℕ → List ℕ → Piece
run_piece mode after_slash run text = record { token = run_token mode after_slash run (drop run text); size = run }

-- the token at the front of a pattern, at its start or after a slash, or not
abbrev pub piece_of : Mode → Bool → ℕ → List ℕ → Piece
piece_of mode after_slash b rest =
    if b == backslash then escaped_piece rest
    else if b == question_mark then record { token = One Any; size = 1 }
    else if b == open_bracket then bracket_piece rest
    else if b == star then run_piece mode after_slash (prefix_len (λ c. c == star) (b ∷ rest)) (b ∷ rest)
    else record { token = One (Byte b); size = 1 }

-- a dead token ends the list
abbrev pub token_before : Token → List Token → List Token
token_before (One Dead) others = One Dead ∷ []
token_before token others = token ∷ others

-- the token ends a pattern, whatever follows it
abbrev pub EndsPattern : Token → Type 0
EndsPattern token = (others : List Token) → token_before token others ≡ token ∷ []

-- the token stands before those that follow it
abbrev pub StandsBefore : Token → Type 0
StandsBefore token = (others : List Token) → token_before token others ≡ token ∷ others

-- The tokens of a pattern from left to right. The first skip bytes belong to the token before.
unfoldable pub tokens_from : Mode → ℕ → Bool → List ℕ → List Token
tokens_from mode skip after_slash [] = []
tokens_from mode (suc skip) after_slash (b ∷ bs) = tokens_from mode skip (b == slash) bs
tokens_from mode zero after_slash (b ∷ bs) =
    let piece = piece_of mode after_slash b bs in
    token_before piece.token (tokens_from mode (piece.size - 1) (b == slash) bs)

-- The tokens of a pattern.
abbrev pub tokens : Mode → List ℕ → List Token
tokens mode pattern = tokens_from mode 0 true pattern
