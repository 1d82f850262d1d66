-- When a glob matches a text (git's wildmatch).
use Rattle.std.specs.Prelude.{◌≡◌, ℕ, Bool, true, false, not, ◌&&◌, ◌||◌, List, [], ◌∷◌, ◌++◌, ◌==◌, nat_le, if◌then◌else◌, IsTrue, IsFalse, Option, Some, None}
use Rattle.std.specs.List.{list_any}
use Rattle.std.specs.Char.{eq_ignore_ascii_case, to_ascii_lowercase, to_ascii_uppercase}
use Rattle.pathspec_glob.specs.declared.Mode.{Mode}
use Rattle.pathspec_glob.specs.declared.Mode.TheVariants.{Shell, PathAware}
use Rattle.pathspec_glob.specs.declared.Case.{Case}
use Rattle.pathspec_glob.specs.declared.Case.TheVariants.{Sensitive, Fold}
use Rattle.pathspec_glob.specs.Bytes.{slash, is_empty}
use Rattle.pathspec_glob.specs.Tokens.{Item, class_of, OneByte, Token}
use Rattle.pathspec_glob.specs.Tokens.Item.{Literal, Range, Class}
use Rattle.pathspec_glob.specs.Tokens.OneByte.{Byte, Quoted, Any, Bracket, Dead}
use Rattle.pathspec_glob.specs.Tokens.Token.{One, Star, Deep}

-- ---- one byte

-- the bytes are one, up to case where it does not count
abbrev pub is_same_byte : Case → ℕ → ℕ → Bool
is_same_byte Sensitive x b = x == b
is_same_byte Fold x b = eq_ignore_ascii_case x b

-- the byte passes the test, where there is one
abbrev pub passes : Option (ℕ → Bool) → ℕ → Bool
passes None b = false
passes (Some test) b = test b

-- the item holds the byte
abbrev pub item_holds : ℕ → Item → Bool
item_holds b (Literal x) = x == b
item_holds b (Range low high) = nat_le low b && nat_le b high
item_holds b (Class name) = passes (class_of name) b

-- some item holds the byte
abbrev pub items_hold : List Item → ℕ → Bool
items_hold items b = list_any (item_holds b) items

-- items hold a byte; without case, they hold its lower or its upper form
abbrev pub bracket_holds : Case → List Item → ℕ → Bool
bracket_holds Sensitive items b = items_hold items b
bracket_holds Fold items b = items_hold items (to_ascii_lowercase b) || items_hold items (to_ascii_uppercase b)

-- whether the mode bars the byte from `?` and from brackets
abbrev pub is_barred : Mode → ℕ → Bool
is_barred Shell b = false
is_barred PathAware b = b == slash

-- A token of one byte takes this byte.
abbrev pub takes : Mode → Case → OneByte → ℕ → Bool
takes mode case (Byte x) b = is_same_byte case x b
takes mode case (Quoted x) b = is_same_byte case x b
takes mode case Any b = not (is_barred mode b)
takes mode case (Bracket negated items) b = not (is_barred mode b) && (if negated then not (bracket_holds case items b) else bracket_holds case items b)
takes mode case Dead b = false

-- ---- the relation

-- A deep token before a plain slash may stand for nothing, the slash with it, where the mode is PathAware.
abbrev pub IsPassedOver : Mode → Token → Type 0
IsPassedOver Shell t = ⊥
IsPassedOver PathAware t = t ≡ One (Byte slash)

-- The tokens match the whole text.
pub data Matches (mode : Mode) (case : Case) : List Token → List ℕ → Type 0 where
  -- no tokens match the empty text
  none : Matches mode case [] []
  -- a token for one byte takes the first, and the others match the rest
  one : {single : OneByte} {ts : List Token} {b : ℕ} {bs : List ℕ} → IsTrue (takes mode case single b) → Matches mode case ts bs → Matches mode case (One single ∷ ts) (b ∷ bs)
  -- star takes any bytes without a slash
  star : {ts : List Token} {text : List ℕ} (u v : List ℕ) → text ≡ u ++ v → IsFalse (list_any (λ b. b == slash) u) → Matches mode case ts v → Matches mode case (Star ∷ ts) text
  -- deep takes any bytes
  deep : {ts : List Token} {text : List ℕ} (u v : List ℕ) → text ≡ u ++ v → Matches mode case ts v → Matches mode case (Deep ∷ ts) text
  -- deep before a plain slash may be left out, the slash with it
  over : {t : Token} {ts : List Token} {text : List ℕ} → IsPassedOver mode t → Matches mode case ts text → Matches mode case (Deep ∷ t ∷ ts) text

-- ---- the relation as a function

-- some end of the text passes the test, where what stands before it may be left out
abbrev pub some_suffix : (ℕ → Bool) → (List ℕ → Bool) → List ℕ → Bool
some_suffix may_skip test [] = test []
some_suffix may_skip test (b ∷ bs) = test (b ∷ bs) || (may_skip b && some_suffix may_skip test bs)

-- whether deep before this token may stand for nothing with it
abbrev pub passes_over : Mode → Token → Bool
passes_over PathAware (One (Byte b)) = b == slash
passes_over _ _ = false

-- the first byte is taken, and the rest passes
abbrev pub takes_first : (ℕ → Bool) → (List ℕ → Bool) → List ℕ → Bool
takes_first takes rest [] = false
takes_first takes rest (b ∷ bs) = takes b && rest bs

-- whether the tokens match the whole text
unfoldable pub matches : Mode → Case → List Token → List ℕ → Bool
matches mode case [] text = is_empty text
matches mode case (One single ∷ ts) text = takes_first (takes mode case single) (matches mode case ts) text
matches mode case (Star ∷ ts) text = some_suffix (λ b. not (b == slash)) (matches mode case ts) text
matches mode case (Deep ∷ []) text = true
matches mode case (Deep ∷ t ∷ ts) text = some_suffix (λ b. true) (matches mode case (t ∷ ts)) text || (passes_over mode t && matches mode case ts text)
