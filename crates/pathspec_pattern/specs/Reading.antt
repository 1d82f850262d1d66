-- What the text of a spec says (gitglossary, "pathspec").
use Rattle.std.specs.Prelude.{◌≡◌, ◌≢◌, ℕ, ◌+◌, ◌%◌, ◌<◌, Bool, true, false, not, ◌&&◌, ◌||◌, List, [], ◌∷◌, ◌++◌, take, drop, length, filter, codes, bytes_eq, ◌==◌, if◌then◌else◌, Option, Some, None, unwrap_or, Result, Ok, Err, IsTrue, IsFalse, bit_or, ◌↔◌}
use Rattle.std.specs.List.{list_all, list_any, before_first, after_first, take_while, prefix_len, onto_first}
use Rattle.std.specs.Char.{is_ascii_digit}
use Rattle.pathspec_pattern.specs.declared.SearchMode.{SearchMode}
use Rattle.pathspec_pattern.specs.declared.SearchMode.TheVariants.{ShellGlob, Literal, PathAwareGlob}
use Rattle.pathspec_pattern.specs.declared.defaults.Defaults.{Defaults}
use Rattle.pathspec_parts.specs.Bytes.{slash, colon, open_paren, close_paren, comma, backslash, is_one_of, is_empty, first_is, begins_with}
use Rattle.pathspec_parts.specs.Paths.{ends_with_slash, without_last_slash}
use Rattle.pathspec_parts.specs.Attributes.{Assignment}
use Rattle.pathspec_parts.specs.Truth.{decimal_value}
use Rattle.pathspec_pattern.specs.Results.{◌>>=◌}
use Rattle.pathspec_pattern.specs.Faults.{Fault}
use Rattle.pathspec_pattern.specs.Faults.Fault.{Empty, UnimplementedShort, MissingParen, InvalidKeyword, LiteralWithGlob, SecondAttributes, InvalidPrefix}
use Rattle.pathspec_pattern.specs.AttributeLists.{assignments_of}
use Rattle.pathspec_pattern.specs.Signatures.{signature_bits, no_bits}
use Rattle.pathspec_pattern.specs.Specs.{Spec, top, icase, exclude, must_be_dir, is_boundary, has_boundary}

-- ---- the pieces of long magic

-- how many backslashes stand directly before the byte after b, where n stand before b
abbrev pub backslashes_after : ℕ → ℕ → ℕ
backslashes_after n b = if b == backslash then n + 1 else 0

-- a comma cuts where an even number of backslashes stands directly before it
abbrev pub cuts : ℕ → ℕ → Bool
cuts n b = b == comma && n % 2 == 0

-- what stands between the commas that cut, where n backslashes stand directly before the text
abbrev pub long_pieces_from : ℕ → List ℕ → List (List ℕ)
long_pieces_from n [] = [] ∷ []
long_pieces_from n (b ∷ bs) =
    let others = long_pieces_from (backslashes_after n b) bs in
    if cuts n b then [] ∷ others else onto_first b others

-- Nothing cuts the text: this is its one piece.
abbrev pub IsOnlyPiece : List ℕ → List ℕ → Type 0
IsOnlyPiece text piece = long_pieces_from 0 text ≡ piece ∷ []

-- a comma cuts the text into its first piece and the others
abbrev pub IsFirstPiece : List ℕ → List ℕ → List ℕ → Type 0
IsFirstPiece text piece others = (length others < length text) × (long_pieces_from 0 text ≡ piece ∷ long_pieces_from 0 others)

-- the place of that comma
abbrev pub IsFirstCut : List ℕ → ℕ → Type 0
IsFirstCut text at = (at < length text) × (long_pieces_from 0 text ≡ take at text ∷ long_pieces_from 0 (drop (at + 1) text))

-- The pieces of long magic: it is cut at each comma that an even number of backslashes precedes directly, and empty pieces are dropped.
abbrev pub long_pieces : List ℕ → List (List ℕ)
long_pieces long = filter (λ piece. not (is_empty piece)) (long_pieces_from 0 long)

-- what a piece asks for
pub data Keyword : Type 0 where
  Flag : (flag : ℕ) → Keyword
  Mode : (mode : SearchMode) → Keyword
  Ignored : Keyword
  Attributes : (list : List ℕ) → Keyword
  PrefixLength : (digits : List ℕ) → Keyword
  Unknown : Keyword

-- the pieces that carry a value
abbrev pub valued_keyword_of : List ℕ → Keyword
valued_keyword_of piece =
    if begins_with piece (codes "attr:") then Attributes (drop 5 piece)
    else if begins_with piece (codes "prefix:") then PrefixLength (drop 7 piece)
    else Unknown

-- a piece that asks for a prefix length
abbrev pub is_prefix_piece : List ℕ → Bool
is_prefix_piece piece = begins_with piece (codes "prefix:")

-- the table of pieces
abbrev pub keyword_of : List ℕ → Keyword
keyword_of piece =
    if bytes_eq piece (codes "top") then Flag top
    else if bytes_eq piece (codes "icase") then Flag icase
    else if bytes_eq piece (codes "exclude") then Flag exclude
    else if bytes_eq piece (codes "literal") then Mode Literal
    else if bytes_eq piece (codes "glob") then Mode PathAwareGlob
    else if bytes_eq piece (codes "attr") then Ignored
    else valued_keyword_of piece

-- what the magic that has been read asks for
pub record Magic : Type 0 where
  pub signature : ℕ
  pub mode : Option SearchMode
  pub attributes : List Assignment
  -- the last piece `prefix:` and digits
  pub prefix : Option (List ℕ)

-- the modes are one
abbrev pub same_mode : SearchMode → SearchMode → Bool
same_mode ShellGlob ShellGlob = true
same_mode Literal Literal = true
same_mode PathAwareGlob PathAwareGlob = true
same_mode _ _ = false

-- a mode may be picked again, and not beside another
abbrev pub with_mode : Magic → List ℕ → SearchMode → Result Magic Fault
with_mode magic piece mode = if same_mode (unwrap_or magic.mode mode) mode then Ok (record magic { mode = Some mode }) else Err (LiteralWithGlob piece)

-- only one list of attributes may stand, unless the one before was of spaces alone
abbrev pub with_list : Magic → List ℕ → List ℕ → Result Magic Fault
with_list magic piece list =
    if is_empty magic.attributes then (assignments_of list >>= λ assignments. Ok (record magic { attributes = assignments }))
    else Err (SecondAttributes piece)

-- one decimal digit or more
abbrev pub is_number : List ℕ → Bool
is_number digits = not (is_empty digits) && list_all is_ascii_digit digits

-- of several such pieces the last counts
abbrev pub with_prefix : Magic → List ℕ → List ℕ → Result Magic Fault
with_prefix magic piece digits = if is_number digits then Ok (record magic { prefix = Some piece }) else Err (InvalidPrefix piece)

-- what a piece makes of the magic before it, or its fault
abbrev pub with_piece : Magic → List ℕ → Keyword → Result Magic Fault
with_piece magic piece (Flag flag) = Ok (record magic { signature = bit_or magic.signature flag })
with_piece magic piece (Mode mode) = with_mode magic piece mode
with_piece magic piece Ignored = Ok magic
with_piece magic piece (Attributes list) = with_list magic piece list
with_piece magic piece (PrefixLength digits) = with_prefix magic piece digits
with_piece magic piece Unknown = Err (InvalidKeyword piece)

-- what the pieces make of the magic before them, from left to right, or the fault of the first at fault
abbrev pub with_pieces : Magic → List (List ℕ) → Result Magic Fault
with_pieces magic [] = Ok magic
with_pieces magic (piece ∷ pieces) = with_piece magic piece (keyword_of piece) >>= λ next. with_pieces next pieces

-- ---- the cut of a text

-- A text with magic is `:` and then four parts in this order.
pub record Cut : Type 0 where
  -- a word over `/`, `^` and `!`
  pub short : List ℕ
  -- whether a further `:` ends it
  pub ended : Bool
  -- what stands in parentheses, where any do
  pub long : Option (List ℕ)
  pub body : List ℕ

-- the bytes of short magic
abbrev pub is_short : ℕ → Bool
is_short b = is_one_of (codes "/^!") b

-- the bytes that git keeps free for short magic
unfoldable pub is_unimplemented : ℕ → Bool
is_unimplemented b = is_one_of (codes "\"#%&'-,;<=>@_`~") b

-- The text begins with this byte, which git keeps free.
abbrev pub BeginsFree : List ℕ → ℕ → Type 0
BeginsFree text b = (text ≡ b ∷ drop 1 text) × IsTrue (is_unimplemented b)

-- the byte `:`
abbrev pub is_colon : ℕ → Bool
is_colon b = b == colon

-- the further `:`, where there is one
abbrev pub end_mark : Bool → List ℕ
end_mark false = []
end_mark true = colon ∷ []

-- long magic as it is written, where there is any
abbrev pub in_parentheses : Option (List ℕ) → List ℕ
in_parentheses None = []
in_parentheses (Some long) = open_paren ∷ long ++ close_paren ∷ []

-- the text that is cut so
abbrev pub text_of : Cut → List ℕ
text_of cut = colon ∷ cut.short ++ end_mark cut.ended ++ in_parentheses cut.long ++ cut.body

-- long magic that holds a `)`
abbrev pub holds_close : Option (List ℕ) → Bool
holds_close None = false
holds_close (Some long) = list_any (λ b. b == close_paren) long

-- A body after short magic alone does not begin with a byte that short magic would take, nor one after its end mark with `(`.
abbrev pub may_begin : Bool → Option (List ℕ) → ℕ → Bool
may_begin ended (Some long) b = true
may_begin true None b = not (b == open_paren)
may_begin false None b = not (is_short b || is_unimplemented b || b == colon || b == open_paren)

-- The parts are those of a text. A text has at most one such cut.
pub record IsCut (cut : Cut) : Type 0 where
  pub short : IsTrue (list_all is_short cut.short)
  pub long : IsFalse (holds_close cut.long)
  pub body : IsFalse (first_is (λ b. not (may_begin cut.ended cut.long b)) cut.body)

-- the cut of a text with this short magic and end mark, and these bytes after its `(`
abbrev pub cut_paren : List ℕ → List ℕ → Bool → List ℕ → Result Cut Fault
cut_paren text short ended rest =
    if list_any (λ b. b == close_paren) rest then Ok (record { short = short; ended = ended; long = Some (before_first (λ b. b == close_paren) rest); body = after_first (λ b. b == close_paren) rest })
    else Err (MissingParen text)

-- the same with these bytes after its end mark
abbrev pub cut_long : List ℕ → List ℕ → Bool → List ℕ → Result Cut Fault
cut_long text short ended [] = Ok (record { short = short; ended = ended; long = None; body = [] })
cut_long text short ended (b ∷ bs) =
    if b == open_paren then cut_paren text short ended bs
    else Ok (record { short = short; ended = ended; long = None; body = b ∷ bs })

-- the same with these bytes after its short magic
abbrev pub cut_end : List ℕ → List ℕ → List ℕ → Result Cut Fault
cut_end text short [] = Ok (record { short = short; ended = false; long = None; body = [] })
cut_end text short (b ∷ bs) =
    if is_unimplemented b then Err (UnimplementedShort b)
    else if b == colon then cut_long text short true bs
    else cut_long text short false (b ∷ bs)

-- the cut of a text that begins with `:`, or why it has none
unfoldable pub cut_of : List ℕ → Result Cut Fault
cut_of text = let magic = drop 1 text in cut_end text (take_while is_short magic) (drop (prefix_len is_short magic) magic)

-- what follows an end mark, if there is one
abbrev pub after_mark : List ℕ → List ℕ
after_mark [] = []
after_mark (b ∷ bs) = if b == colon then bs else b ∷ bs

-- ---- the value

-- the bits of short magic: `/` is top, and `^` and `!` are exclude
abbrev pub short_bits : List ℕ → ℕ
short_bits short = bit_or (if list_any (λ b. b == slash) short then top else 0) (if list_any (is_one_of (codes "^!")) short then exclude else 0)

-- what a cut's magic says
unfoldable pub magic_of : Cut → Result Magic Fault
magic_of cut = with_pieces (record { signature = short_bits cut.short; mode = None; attributes = []; prefix = None }) (long_pieces (unwrap_or cut.long []))

-- the number that a piece `prefix:` writes
abbrev pub piece_number : List ℕ → ℕ
piece_number piece = decimal_value (drop 7 piece)

-- the prefix length that magic asks for, or the fault of its piece where that is no boundary of the path
abbrev pub prefix_length_of : Option (List ℕ) → List ℕ → Result ℕ Fault
prefix_length_of None path = Ok 0
prefix_length_of (Some piece) path = if is_boundary path (piece_number piece) then Ok (piece_number piece) else Err (InvalidPrefix piece)

-- the spec that magic and a body say, with this prefix length: a last slash is stripped and asks for a directory, and the defaults fill in
abbrev pub body_spec : Defaults → Magic → List ℕ → ℕ → Spec
body_spec defaults magic body prefix_length =
    record {
      path = without_last_slash body;
      signature = bit_or (bit_or (signature_bits defaults.signature) magic.signature) (if ends_with_slash body then must_be_dir else 0);
      mode = unwrap_or magic.mode defaults.search_mode;
      attributes = magic.attributes;
      nil = false;
      prefix_length = prefix_length;
    }

-- the spec that magic and a body say, or why they say none
unfoldable pub spec_of : Defaults → Magic → List ℕ → Result Spec Fault
spec_of defaults magic body = prefix_length_of magic.prefix (without_last_slash body) >>= λ n. Ok (body_spec defaults magic body n)

-- magic that asks for nothing
abbrev pub no_magic : Magic
no_magic = record { signature = 0; mode = None; attributes = []; prefix = None }

-- a spec that asks for nothing
abbrev pub empty_spec : Spec
empty_spec = record { path = []; signature = 0; mode = ShellGlob; attributes = []; nil = false; prefix_length = 0 }

-- the spec `:`, which says that there is no pathspec
abbrev pub nil_spec : Spec
nil_spec = record empty_spec { nil = true }

-- a text that is taken as it stands
abbrev pub literal_spec : ℕ → List ℕ → Spec
literal_spec signature text = record { path = text; signature = signature; mode = Literal; attributes = []; nil = false; prefix_length = 0 }

-- ---- the reading

-- The text says this spec, under the defaults.
pub data Reads (defaults : Defaults) (text : List ℕ) (spec : Spec) : Type 0 where
  -- literal specs are asked for, and the text is its own path
  verbatim : IsTrue defaults.literal → text ≢ [] → spec ≡ literal_spec (signature_bits defaults.signature) text → Reads defaults text spec
  -- it is `:` alone
  nothing : IsFalse defaults.literal → text ≡ colon ∷ [] → spec ≡ nil_spec → Reads defaults text spec
  -- it does not begin with `:`, and is all body
  plain : IsFalse defaults.literal → text ≢ [] → IsFalse (first_is is_colon text) → spec_of defaults no_magic text ≡ Ok spec → Reads defaults text spec
  -- it is cut into magic and a body
  magic : IsFalse defaults.literal → text ≢ colon ∷ [] → (cut : Cut) → IsCut cut → text ≡ text_of cut → (asked : Magic) → magic_of cut ≡ Ok asked → spec_of defaults asked cut.body ≡ Ok spec → Reads defaults text spec

-- The text says no spec, and this is why.
pub data IsRefused (defaults : Defaults) (text : List ℕ) (fault : Fault) : Type 0 where
  -- it is empty
  empty : text ≡ [] → fault ≡ Empty → IsRefused defaults text fault
  -- a free byte stands in short magic
  short : IsFalse defaults.literal → (front : List ℕ) (b : ℕ) (rest : List ℕ) → text ≡ colon ∷ front ++ b ∷ rest → IsTrue (list_all is_short front) → IsTrue (is_unimplemented b) → fault ≡ UnimplementedShort b → IsRefused defaults text fault
  -- long magic does not end
  paren : IsFalse defaults.literal → (front : List ℕ) (ended : Bool) (rest : List ℕ) → text ≡ colon ∷ front ++ end_mark ended ++ open_paren ∷ rest → IsTrue (list_all is_short front) → IsFalse (list_any (λ b. b == close_paren) rest) → fault ≡ MissingParen text → IsRefused defaults text fault
  -- a piece of long magic is at fault
  piece : IsFalse defaults.literal → (cut : Cut) → IsCut cut → text ≡ text_of cut → magic_of cut ≡ Err fault → IsRefused defaults text fault
  -- the number of the last piece `prefix:` is no boundary of the path
  boundary : IsFalse defaults.literal → (cut : Cut) → IsCut cut → text ≡ text_of cut → (asked : Magic) → magic_of cut ≡ Ok asked → (piece : List ℕ) → asked.prefix ≡ Some piece → IsFalse (is_boundary (without_last_slash cut.body) (piece_number piece)) → fault ≡ InvalidPrefix piece → IsRefused defaults text fault

-- what a text with magic says
abbrev pub magic_reading : Defaults → List ℕ → Result Spec Fault
magic_reading defaults text = cut_of text >>= λ cut. magic_of cut >>= λ asked. spec_of defaults asked cut.body

-- The spec that a text says, or why it says none: the same as a function.
unfoldable pub reading : Defaults → List ℕ → Result Spec Fault
reading defaults text =
    if is_empty text then Err Empty
    else if defaults.literal then Ok (literal_spec (signature_bits defaults.signature) text)
    else if bytes_eq text (colon ∷ []) then Ok nil_spec
    else if first_is is_colon text then magic_reading defaults text
    else spec_of defaults no_magic text

-- the defaults that ask for nothing
abbrev pub no_defaults : Defaults
no_defaults = record { signature = no_bits; search_mode = ShellGlob; literal = false }

-- ---- laws

-- A text has at most one cut.
abbrev pub OneCut : Type 0
OneCut = (a b : Cut) → IsCut a → IsCut b → text_of a ≡ text_of b → a ≡ b

-- The function gives just what the relation says, and each refusal.
abbrev pub ReadingIsExact : Type 0
ReadingIsExact = (d : Defaults) (text : List ℕ) → ((s : Spec) → Reads d text s ↔ (reading d text ≡ Ok s)) × ((fault : Fault) → IsRefused d text fault ↔ (reading d text ≡ Err fault))

-- The prefix length of what a text says is a boundary of its path.
abbrev pub ReadHasBoundary : Type 0
ReadHasBoundary = (d : Defaults) (text : List ℕ) (s : Spec) → reading d text ≡ Ok s → IsTrue (has_boundary s)

-- No piece of the text's long magic asks for a prefix length.
abbrev pub AsksNoPrefix : List ℕ → Type 0
AsksNoPrefix text = (cut : Cut) → IsCut cut → text ≡ text_of cut → IsFalse (list_any is_prefix_piece (long_pieces (unwrap_or cut.long [])))

-- Such a text has no prefix directory, and is not refused for one.
abbrev pub PrefixIsAsked : Type 0
PrefixIsAsked = (d : Defaults) (text : List ℕ) → AsksNoPrefix text → ((s : Spec) → reading d text ≡ Ok s → s.prefix_length ≡ 0) × ((piece : List ℕ) → reading d text ≢ Err (InvalidPrefix piece))
