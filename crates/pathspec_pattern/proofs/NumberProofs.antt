-- A number's decimal digits write the number, and stand as they are in long magic.
use Rattle.std.proofs.Common.{◌≡◌, ℕ, ◌+◌, ◌*◌, ◌-◌, ◌<◌, ◌/◌, ◌%◌, ◌++◌, zero, suc, append_assoc, Bool, true, false, not, ◌&&◌, refl, sym, ◌∙◌, ap, List, [], ◌∷◌, map, ◌==◌, arith}
use Rattle.std.proofs.lemmas.Bool.{and_parts, and_from, agree_below_at}
use Rattle.std.proofs.lemmas.Int.Digits.{number_digits_of, all_below_base_digits_of, digits_of_step}
use Rattle.std.specs.Prelude.{fold}
use Rattle.std.specs.List.{list_all}
use Rattle.std.specs.Char.{is_ascii_digit}
use Rattle.std.specs.Int.Digits.{digits_of, number_from_digits_after, AllBelowBase}
use Rattle.pathspec_parts.specs.Bytes.{close_paren, comma, backslash, is_empty}
use Rattle.pathspec_parts.specs.Truth.{decimal_value}
use Rattle.pathspec_pattern.specs.Reading.{is_number}
use Rattle.pathspec_pattern.specs.LongText.{number_text}

-- the byte of a digit
abbrev pub digit_byte : ℕ → ℕ
digit_byte d = 48 + d

-- a byte that stands in a piece as it is
abbrev pub is_bare : ℕ → Bool
is_bare b = not (b == comma) && not (b == backslash) && not (b == close_paren)

-- the facts on a digit, by a table of the ten
digit_facts : (d : ℕ) → d < 10 → (is_ascii_digit (digit_byte d) && is_bare (digit_byte d)) ≡ true
digit_facts d h = agree_below_at (λ k. is_ascii_digit (digit_byte k) && is_bare (digit_byte k)) (λ k. true) 10 d refl h

digits_are : (ds : List ℕ) → AllBelowBase 10 ds → list_all is_ascii_digit (map digit_byte ds) ≡ true
digits_are [] h = refl
digits_are (d ∷ ds) h = and_from (is_ascii_digit (digit_byte d)) (list_all is_ascii_digit (map digit_byte ds)) (and_parts (is_ascii_digit (digit_byte d)) (is_bare (digit_byte d)) (digit_facts d h.0)).0 (digits_are ds h.1)

bare_are : (ds : List ℕ) → AllBelowBase 10 ds → list_all is_bare (map digit_byte ds) ≡ true
bare_are [] h = refl
bare_are (d ∷ ds) h = and_from (is_bare (digit_byte d)) (list_all is_bare (map digit_byte ds)) (and_parts (is_ascii_digit (digit_byte d)) (is_bare (digit_byte d)) (digit_facts d h.0)).1 (bare_are ds h.1)

-- the number that the bytes write is that of the digits
value_after : (n : ℕ) (ds : List ℕ) → fold (λ n d. n * 10 + (d - 48)) n (map digit_byte ds) ≡ number_from_digits_after 10 n ds
value_after n [] = refl
value_after n (d ∷ ds) =
    let step : n * 10 + (digit_byte d - 48) ≡ n * 10 + d = omega arith in
    ap (λ k. fold (λ n d. n * 10 + (d - 48)) k (map digit_byte ds)) step ∙ value_after (n * 10 + d) ds

-- The text of a number writes it.
pub number_back : (n : ℕ) → decimal_value (number_text n) ≡ n
number_back n = value_after 0 (digits_of 10 n) ∙ number_digits_of 10 n (omega arith)

some_digits : (n : ℕ) (ds : List ℕ) → (n == 0) ≡ false → number_from_digits_after 10 0 ds ≡ n → is_empty (map digit_byte ds) ≡ false
some_digits n [] z e = let no : true ≡ false = ap (λ k. k == 0) e ∙ z in cc
some_digits n (d ∷ ds) z e = refl

-- The text of a number other than 0 is a number.
pub number_is : (n : ℕ) → (n == 0) ≡ false → is_number (number_text n) ≡ true
number_is n z =
    let e = some_digits n (digits_of 10 n) z (number_digits_of 10 n (omega arith)) in
    let a = digits_are (digits_of 10 n) (all_below_base_digits_of 10 n (omega arith)) in
    rw e a

-- Its bytes stand in a piece as they are.
pub number_bare : (n : ℕ) → list_all is_bare (number_text n) ≡ true
number_bare n = bare_are (digits_of 10 n) (all_below_base_digits_of 10 n (omega arith))

-- ---- a number is written

map-last : (ds : List ℕ) (d : ℕ) → map digit_byte (ds ++ d ∷ []) ≡ map digit_byte ds ++ digit_byte d ∷ []
map-last [] d = refl
map-last (x ∷ ds) d = ap (λ t. digit_byte x ∷ t) (map-last ds d)

more_than_none : (n : ℕ) → (n == 0) ≡ false → 0 < n
more_than_none zero z = cc
more_than_none (suc n) z = omega arith

number_step : (n : ℕ) → (n == 0) ≡ false → number_text n ≡ number_text (n / 10) ++ digit_byte (n % 10) ∷ []
number_step n z = ap (map digit_byte) (digits_of_step 10 n (omega arith) (more_than_none n z)) ∙ map-last (digits_of 10 (n / 10)) (n % 10)

-- A number is written: what stands before its last digit, and that.
pub number-after : (old begun new : List ℕ) (n : ℕ) → (n == 0) ≡ false → begun ≡ old ++ number_text (n / 10) → new ≡ begun ++ digit_byte (n % 10) ∷ [] → new ≡ old ++ number_text n
number-after old begun new n z b w = w ∙ (ap (λ t. t ++ digit_byte (n % 10) ∷ []) b ∙ (append_assoc old (number_text (n / 10)) (digit_byte (n % 10) ∷ []) ∙ ap (λ t. old ++ t) (sym (number_step n z))))
