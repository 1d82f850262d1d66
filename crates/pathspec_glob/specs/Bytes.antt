-- The bytes that specs are written with, and the tests on texts that the other modules share.
use Rattle.std.specs.Prelude.{ℕ, Bool, List, [], ◌∷◌, codes, nat_eq, if◌then◌else◌, true, false}
use Rattle.std.specs.List.{starts_with, list_any}
use Rattle.std.specs.Str.{str_to_ascii_lowercase}

-- the bytes by name
abbrev pub space : ℕ
space = 32

abbrev pub bang : ℕ
bang = 33

abbrev pub open_paren : ℕ
open_paren = 40

abbrev pub close_paren : ℕ
close_paren = 41

abbrev pub star : ℕ
star = 42

abbrev pub comma : ℕ
comma = 44

abbrev pub dash : ℕ
dash = 45

abbrev pub slash : ℕ
slash = 47

abbrev pub colon : ℕ
colon = 58

abbrev pub equals_sign : ℕ
equals_sign = 61

abbrev pub question_mark : ℕ
question_mark = 63

abbrev pub open_bracket : ℕ
open_bracket = 91

abbrev pub backslash : ℕ
backslash = 92

abbrev pub close_bracket : ℕ
close_bracket = 93

-- the byte is one of a list
abbrev pub is_one_of : List ℕ → ℕ → Bool
is_one_of bytes b = list_any (nat_eq b) bytes

-- the list has no element
abbrev pub is_empty : {X : Type 0} → List X → Bool
is_empty [] = true
is_empty (x ∷ xs) = false

-- the text has a first byte, and that one passes the test
abbrev pub first_is : (ℕ → Bool) → List ℕ → Bool
first_is test [] = false
first_is test (b ∷ bs) = test b

-- the text begins with this front
abbrev pub begins_with : List ℕ → List ℕ → Bool
begins_with text front = starts_with nat_eq text front

-- the text, or its ASCII lower form where case does not count
abbrev pub fold_case : Bool → List ℕ → List ℕ
fold_case ignore_case text = if ignore_case then str_to_ascii_lowercase text else text

-- `*`, `?`, `[` and `\`
abbrev pub is_wildcard : ℕ → Bool
is_wildcard b = is_one_of (codes "*?[\\") b
