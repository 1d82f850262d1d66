-- Brackets as sets of bytes: tokens whose brackets list each byte that they hold.
use Rattle.std.specs.Prelude.{◌≡◌, ◌==◌, ◌≤◌, ◌-◌, ℕ, zero, suc, Bool, List, [], ◌∷◌, ◌++◌, drop, get_or, length, map, if◌then◌else◌}
use Rattle.pathspec_glob.specs.Bytes.{slash}
use Rattle.pathspec_glob.specs.declared.Mode.{Mode}
use Rattle.pathspec_glob.specs.Tokens.{Item, OneByte, Token, Piece, tokens, tokens_from}
use Rattle.pathspec_glob.specs.Tokens.Item.{Literal}
use Rattle.pathspec_glob.specs.Tokens.OneByte.{Byte, Quoted, Any, Bracket, Dead}
use Rattle.pathspec_glob.specs.Tokens.Token.{One, Star, Deep}
use Rattle.pathspec_glob.specs.GlobRelation.{items_hold}
use Rattle.pathspec_glob.specs.GlobSteps.{TokenList}

-- An item for each number below an end that a set holds.
unfoldable pub literals_below : ℕ → (ℕ → Bool) → List Item
literals_below zero holds = []
literals_below (suc end) holds = if holds end then Literal end ∷ literals_below end holds else literals_below end holds

-- the bytes that a set holds, as items
abbrev pub literals : (ℕ → Bool) → List Item
literals holds = literals_below 256 holds

-- a rule for one byte, whose bracket lists each byte that its items hold
abbrev pub listed_single : OneByte → OneByte
listed_single (Byte b) = Byte b
listed_single (Quoted b) = Quoted b
listed_single Any = Any
listed_single (Bracket negated items) = Bracket negated (literals (items_hold items))
listed_single Dead = Dead

-- a token and a piece, whose brackets list each byte that they hold
abbrev pub listed : Token → Token
listed (One single) = One (listed_single single)
listed Star = Star
listed Deep = Deep

abbrev pub listed_piece : Piece → Piece
listed_piece piece = record { token = listed piece.token; size = piece.size }

-- The tokens of a pattern, whose brackets list each byte that they hold.
abbrev pub listed_tokens : Mode → List ℕ → List Token
listed_tokens mode pattern = map listed (tokens mode pattern)

-- the tokens of a pattern, whose brackets list each byte that they hold, with its mode
abbrev pub listed_token_list : Mode → List ℕ → TokenList
listed_token_list mode pattern = record { mode = mode; tokens = listed_tokens mode pattern }

-- The first bytes of a text were read, `size` of them: the new tokens and those of the rest are the old tokens and those of the text.
pub record ReadsOn (mode : Mode) (after_slash : Bool) (text : List ℕ) (old new : List Token) (size : ℕ) : Type 0 where
  pub some : 1 ≤ size
  pub within : size ≤ length text
  pub goes_on : new ++ map listed (tokens_from mode 0 (get_or text (size - 1) 0 == slash) (drop size text)) ≡ old ++ map listed (tokens_from mode 0 after_slash text)
