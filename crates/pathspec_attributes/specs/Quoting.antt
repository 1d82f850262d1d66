-- Texts that are quoted in C style, as git reads them in a line of attributes.
use Rattle.std.specs.Prelude.{ℕ, ◌+◌, ◌-◌, ◌*◌, suc, zero, Bool, ◌&&◌, List, [], ◌∷◌, nat_le, ◌==◌, if◌then◌else◌, Option, Some, None}
use Rattle.std.specs.Option.{option_map, option_and_then}
use Rattle.pathspec_glob.specs.Bytes.{backslash}

-- `"`
abbrev pub quote : ℕ
quote = 34

-- the byte that a letter stands for behind a backslash
abbrev pub letter_byte : ℕ → Option ℕ
letter_byte b =
    if b == 97 then Some 7
    else if b == 98 then Some 8
    else if b == 116 then Some 9
    else if b == 110 then Some 10
    else if b == 118 then Some 11
    else if b == 102 then Some 12
    else if b == 114 then Some 13
    else if b == quote then Some quote
    else if b == backslash then Some backslash
    else None

-- from `0` to this digit
abbrev pub is_digit_to : ℕ → ℕ → Bool
is_digit_to last b = nat_le 48 b && nat_le b last

-- the byte that three octal digits write, where a text begins with such
abbrev pub octal_byte : List ℕ → Option ℕ
octal_byte (x ∷ y ∷ z ∷ rest) = if is_digit_to 51 x && is_digit_to 55 y && is_digit_to 55 z then Some ((x - 48) * 64 + (y - 48) * 8 + (z - 48)) else None
octal_byte (x ∷ y ∷ []) = None
octal_byte (x ∷ []) = None
octal_byte [] = None

-- the byte that an escape stands for, and how many bytes it takes behind the backslash
pub record Escape : Type 0 where
  pub byte : ℕ
  pub size : ℕ

-- an escape of this size
abbrev pub sized : ℕ → ℕ → Escape
sized size byte = record { byte = byte; size = size }

-- the first of two, where there is one
abbrev pub or_else : {X : Type 0} → Option X → Option X → Option X
or_else (Some x) other = Some x
or_else None other = other

-- the escape that stands behind a backslash: a letter, or three octal digits
abbrev pub escape_of : List ℕ → Option Escape
escape_of [] = None
escape_of (b ∷ bs) = or_else (option_map (sized 1) (letter_byte b)) (option_map (sized 3) (octal_byte (b ∷ bs)))

-- what a quoted text stands for, and what stands behind its closing quote
pub record Quoted : Type 0 where
  pub text : List ℕ
  pub rest : List ℕ

-- a byte before the others
abbrev pub onto : ℕ → Quoted → Quoted
onto b quoted = record { text = b ∷ quoted.text; rest = quoted.rest }

-- what stands for one byte at the front: a backslash with its escape, or the byte itself
abbrev pub unit_of : ℕ → List ℕ → Option Escape
unit_of b bs = if b == backslash then escape_of bs else Some (sized 0 b)

-- What the text behind an opening quote stands for, once some bytes are passed over. None where no quote closes it, or a backslash has no escape.
abbrev pub unquoted_behind : ℕ → List ℕ → Option Quoted
unquoted_behind passed [] = None
unquoted_behind (suc n) (b ∷ bs) = unquoted_behind n bs
unquoted_behind zero (b ∷ bs) =
    if b == quote then Some (record { text = []; rest = bs })
    else option_and_then (λ (e : Escape). option_map (onto e.byte) (unquoted_behind e.size bs)) (unit_of b bs)

-- what the text behind an opening quote stands for
abbrev pub unquoted : List ℕ → Option Quoted
unquoted text = unquoted_behind 0 text

-- the escape that a byte and a size are
abbrev pub escape_view : ℕ × ℕ → Escape
escape_view unit = record { byte = unit.0; size = unit.1 }
