-- A compiled glob as clauses see it: the items and tokens of `Tokens`.
use Rattle.std.specs.Prelude.{ℕ, List, [], ◌∷◌, map, codes}
use Rattle.pathspec_glob.specs.declared.brackets.Class.{Class as Named}
use Rattle.pathspec_glob.specs.declared.brackets.Class.TheVariants as named
use Rattle.pathspec_glob.specs.declared.brackets.Item.{Item as Kept}
use Rattle.pathspec_glob.specs.declared.brackets.Item.TheVariants as kept
use Rattle.pathspec_glob.specs.declared.brackets.Front.{Front as Seen}
use Rattle.pathspec_glob.specs.declared.brackets.Front.TheVariants as seen
use Rattle.pathspec_glob.specs.declared.brackets.Read.{Read}
use Rattle.pathspec_glob.specs.declared.reading.Piece.{Piece as Taken}
use Rattle.pathspec_glob.specs.declared.tokens.LoneStar.{LoneStar}
use Rattle.pathspec_glob.specs.declared.tokens.LoneStar.TheVariants as form
use Rattle.pathspec_glob.specs.declared.tokens.OneByte.{OneByte as Tested}
use Rattle.pathspec_glob.specs.declared.tokens.OneByte.TheVariants as tested
use Rattle.pathspec_glob.specs.declared.tokens.Token.{Token as Part}
use Rattle.pathspec_glob.specs.declared.tokens.Token.TheVariants as part
use Rattle.pathspec_glob.specs.Tokens.{Item, Front, Items, OneByte, Token, Piece}
use Rattle.pathspec_glob.specs.Tokens.Item.{Literal, Range, Class}
use Rattle.pathspec_glob.specs.Tokens.Front.{Listed, Closed, Broken}
use Rattle.pathspec_glob.specs.Tokens.OneByte.{Byte, Quoted, Any, Bracket, Dead}
use Rattle.pathspec_glob.specs.Tokens.Token.{One, Star, Deep}
use Rattle.pathspec_glob.specs.Bytes.{slash}
use Rattle.pathspec_glob.specs.BitVecs.{words_hold}
use Rattle.pathspec_glob.specs.ByteSets.{literals}

-- the name of a class
abbrev pub class_name : Named → List ℕ
class_name named.Alnum = codes "alnum"
class_name named.Alpha = codes "alpha"
class_name named.Blank = codes "blank"
class_name named.Cntrl = codes "cntrl"
class_name named.Digit = codes "digit"
class_name named.Graph = codes "graph"
class_name named.Lower = codes "lower"
class_name named.Print = codes "print"
class_name named.Punct = codes "punct"
class_name named.Space = codes "space"
class_name named.Upper = codes "upper"
class_name named.Xdigit = codes "xdigit"

-- the item that an `Item` is
abbrev pub item_view : Kept → Item
item_view (kept.Literal byte) = Literal byte
item_view (kept.Range first last) = Range first last
item_view (kept.Class class) = Class (class_name class)

-- the items that a list of `Item` is
abbrev pub items_view : List Kept → List Item
items_view items = map item_view items

-- the items of a bracket that has been read, and what follows them
abbrev pub bracket_view : Read → Items
bracket_view read = record { items = items_view read.items.items; rest = read.rest.now }

-- the front of the unread part of a bracket
abbrev pub front_view : Seen → Front
front_view (seen.Listed item size) = Listed (item_view item) size
front_view seen.Closed = Closed
front_view seen.Broken = Broken

-- the rule for one byte that a `OneByte` is
abbrev pub one_byte_view : Tested → OneByte
one_byte_view (tested.Byte byte) = Byte byte
one_byte_view (tested.Quoted byte) = Quoted byte
one_byte_view tested.Any = Any
one_byte_view (tested.Bracket negated set) = Bracket negated (literals (words_hold set.words))
one_byte_view tested.Dead = Dead

-- the token that a `Token` is
abbrev pub token_view : Part → Token
token_view (part.One single) = One (one_byte_view single)
token_view part.Star = Star
token_view part.Deep = Deep

-- the tokens that a list of `Token` is
abbrev pub tokens_view : List Part → List Token
tokens_view parts = map token_view parts

-- the tokens that a `LoneStar` is
abbrev pub star_view : LoneStar → List Token
star_view form.Star = Star ∷ []
star_view form.Deep = Deep ∷ []
star_view form.DeepSlashStar = Deep ∷ One (Byte slash) ∷ Star ∷ []

-- the piece that a `Piece` is
abbrev pub piece_view : Taken → Piece
piece_view taken = record { token = token_view taken.token; size = taken.size }
