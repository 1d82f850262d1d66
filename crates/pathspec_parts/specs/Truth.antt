-- Words of truth (git help config, "Values": boolean).
use Rattle.std.specs.Prelude.{◌≡◌, ◌≢◌, ◌↔◌, ℕ, ◌+◌, ◌-◌, ◌*◌, ◌^◌, Bool, true, false, not, ◌||◌, List, [], ◌∷◌, ◌++◌, drop, fold, codes, bytes_eq, nat_lt, nat_le, ◌==◌, if◌then◌else◌, Option, Some, None, IsTrue}
use Rattle.std.specs.List.{list_all, take_while, prefix_len}
use Rattle.std.specs.Char.{is_ascii_digit}
use Rattle.std.specs.Str.{str_to_ascii_lowercase}
use Rattle.pathspec_glob.specs.Bytes.{dash, is_one_of, is_empty, first_is}

-- `+`
abbrev pub plus : ℕ
plus = 43

-- the number that decimal digits write
abbrev pub decimal_value : List ℕ → ℕ
decimal_value digits = fold (λ n d. n * 10 + (d - 48)) 0 digits

-- the number, with its sign, lies from -2 ^ 63 to 2 ^ 63 - 1
abbrev pub fits_64 : Bool → ℕ → Bool
fits_64 negative n = if negative then nat_le n (2 ^ 63) else nat_lt n (2 ^ 63)

-- a word for true
abbrev pub is_yes : List ℕ → Bool
is_yes word = bytes_eq word (codes "yes") || bytes_eq word (codes "on") || bytes_eq word (codes "true")

-- a word for false
abbrev pub is_no : List ℕ → Bool
is_no word = bytes_eq word (codes "no") || bytes_eq word (codes "off") || bytes_eq word (codes "false") || is_empty word

-- the sign as it is written, where there is one
abbrev pub sign_text : Option Bool → List ℕ
sign_text None = []
sign_text (Some false) = plus ∷ []
sign_text (Some true) = dash ∷ []

-- the sign is a minus
abbrev pub is_negative : Option Bool → Bool
is_negative None = false
is_negative (Some negative) = negative

-- the unit of a number: none, or one of the letters `k`, `m` and `g`
abbrev pub is_unit : List ℕ → Bool
is_unit [] = true
is_unit (b ∷ []) = is_one_of (codes "kmg") b
is_unit (b ∷ c ∷ more) = false

-- What a word in lower case says, where it is a word of truth.
pub data Says (word : List ℕ) (value : Bool) : Type 0 where
  yes_word : IsTrue (is_yes word) → value ≡ true → Says word value
  no_word : IsTrue (is_no word) → value ≡ false → Says word value
  -- a sign or none, digits, and a unit or none; the number without its unit fits 64 bits, and it says whether it is not 0
  number : (sign : Option Bool) (digits unit : List ℕ) → word ≡ sign_text sign ++ digits ++ unit → digits ≢ [] → IsTrue (list_all is_ascii_digit digits) → IsTrue (is_unit unit)
      → IsTrue (fits_64 (is_negative sign) (decimal_value digits)) → value ≡ not (decimal_value digits == 0) → Says word value

-- the same as a function: what a number without its sign says
abbrev pub number_says : Bool → List ℕ → Option Bool
number_says negative text =
    let digits = take_while is_ascii_digit text in
    if is_empty digits || not (is_unit (drop (prefix_len is_ascii_digit text) text)) || not (fits_64 negative (decimal_value digits)) then None
    else Some (not (decimal_value digits == 0))

-- what a number says
abbrev pub signed_says : List ℕ → Option Bool
signed_says word = number_says (first_is (λ b. b == dash) word) (if first_is (is_one_of (plus ∷ dash ∷ [])) word then drop 1 word else word)

-- what a word in lower case says
abbrev pub lower_says : List ℕ → Option Bool
lower_says word = if is_yes word then Some true else if is_no word then Some false else signed_says word

-- Whether a word is true or false, where it is a word of truth. ASCII case does not count.
unfoldable pub truth_of : List ℕ → Option Bool
truth_of word = lower_says (str_to_ascii_lowercase word)

-- the answer is what the relation says of the word in lower case
abbrev pub IsTruth : List ℕ → Option Bool → Type 0
IsTruth word answer = (value : Bool) → Says (str_to_ascii_lowercase word) value ↔ (answer ≡ Some value)
