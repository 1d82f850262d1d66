-- The function of truth words is the relation.
use Rattle.std.proofs.Common.{◌≡◌, ◌≢◌, ℕ, ◌<◌, Bool, true, false, not, ◌||◌, cond, refl, sym, ◌∙◌, ap, List, [], ◌∷◌, ◌++◌, length, drop, arith, append_assoc, ◌==◌, inl, inr, Option, Some, None}
use Rattle.std.proofs.lemmas.Bool.{cases_Bool, and_parts, and_from, or_cases, or_parts, eqb-true, ne_eqb, leb-true, not-false}
use Rattle.std.proofs.lemmas.List.{take-append-drop, take_at, drop_at, take-map, drop-map}
use Rattle.std.proofs.Math.Numerals.{one-add}
use Rattle.std.specs.Str.{str_to_ascii_lowercase}
use Rattle.std.specs.Prelude.{codes, bytes_eq, nat_le}
use Rattle.std.specs.List.{list_all, take_while, prefix_len}
use Rattle.std.specs.Cmp.Lexicographic.{same_text}
use Rattle.std.specs.Char.{is_ascii_digit, to_ascii_lowercase}
use Rattle.std.proofs.lemmas.Bool.Decides.{nat_tests}
use Rattle.pathspec_glob.specs.Bytes.{dash, is_empty}
use Rattle.pathspec_parts.specs.Truth.{plus, decimal_value, fits_64, is_yes, is_no, sign_text, is_negative, is_unit, Says, number_says, signed_says, lower_says, truth_of, IsTruth}
use Rattle.pathspec_parts.specs.Truth.Says.{yes_word, no_word, number}

-- ---- what is no word

-- a digit is no byte above `9`
digit-ne_above : (d x : ℕ) → is_ascii_digit d ≡ true → 57 < x → (d == x) ≡ false
digit-ne_above d x h l = let p = and_parts (nat_le 48 d) (nat_le d 57) h in let u = leb-true d 57 p.1 in ne_eqb d x (λ e. omega (arith, u, e, l))

-- and none below `0`
digit-ne_below : (d x : ℕ) → is_ascii_digit d ≡ true → x < 48 → (d == x) ≡ false
digit-ne_below d x h l = let p = and_parts (nat_le 48 d) (nat_le d 57) h in let u = leb-true 48 d p.0 in ne_eqb d x (λ e. omega (arith, u, e, l))

-- a word that begins with a digit is no word for true
is_yes-digit : (d : ℕ) (rest : List ℕ) → is_ascii_digit d ≡ true → is_yes (d ∷ rest) ≡ false
is_yes-digit d rest h = rw (digit-ne_above d 121 h (omega arith), digit-ne_above d 111 h (omega arith), digit-ne_above d 116 h (omega arith)) refl

-- and none for false
is_no-digit : (d : ℕ) (rest : List ℕ) → is_ascii_digit d ≡ true → is_no (d ∷ rest) ≡ false
is_no-digit d rest h = rw (digit-ne_above d 110 h (omega arith), digit-ne_above d 111 h (omega arith), digit-ne_above d 102 h (omega arith)) refl

-- nor is the empty word one for true
is_yes-empty : (word : List ℕ) → is_empty word ≡ true → is_yes word ≡ false
is_yes-empty [] h = refl
is_yes-empty (b ∷ bs) h = cc

-- a word for false is none for true
is_yes-no : (word : List ℕ) → is_no word ≡ true → is_yes word ≡ false
is_yes-no word h = elim (or_cases (bytes_eq word (codes "no") || bytes_eq word (codes "off") || bytes_eq word (codes "false")) (is_empty word) h) [
  | inr e ↦ is_yes-empty word e
  | inl g ↦ elim (or_cases (bytes_eq word (codes "no") || bytes_eq word (codes "off")) (bytes_eq word (codes "false")) g) [
    | inr e ↦ rw (same_text word (codes "false") (sym e)) refl
    | inl k ↦ elim (or_cases (bytes_eq word (codes "no")) (bytes_eq word (codes "off")) k) [
      | inr e ↦ rw (same_text word (codes "off") (sym e)) refl
      | inl e ↦ rw (same_text word (codes "no") (sym e)) refl
    ]
  ]
]

-- ---- a number by its parts

-- the elements that pass at the front, where what follows them does not
prefix_len-digits : (p : ℕ → Bool) (digits rest : List ℕ) → list_all p digits ≡ true → prefix_len p rest ≡ 0 → prefix_len p (digits ++ rest) ≡ length digits
prefix_len-digits p [] rest a n = n
prefix_len-digits p (d ∷ ds) rest a n =
    let q = and_parts (p d) (list_all p ds) a in
    let ih = prefix_len-digits p ds rest q.1 n in
    rw q.0 (omega (arith, ih))

-- a unit has no digit
prefix_len-unit : (unit : List ℕ) → is_unit unit ≡ true → prefix_len is_ascii_digit unit ≡ 0
prefix_len-unit [] h = refl
prefix_len-unit (b ∷ c ∷ more) h = cc
prefix_len-unit (b ∷ []) h = elim (or_cases (b == 107) _ h) [
  | inl e ↦ rw (eqb-true b 107 e) refl
  | inr g ↦ elim (or_cases (b == 109) _ g) [
    | inl e ↦ rw (eqb-true b 109 e) refl
    | inr k ↦ elim (or_cases (b == 103) false k) [
      | inl e ↦ rw (eqb-true b 103 e) refl
      | inr e ↦ cc
    ]
  ]
]

-- what digits and a unit say
number_says-parts : (negative : Bool) (digits unit : List ℕ) → is_empty digits ≡ false → list_all is_ascii_digit digits ≡ true → is_unit unit ≡ true → fits_64 negative (decimal_value digits) ≡ true
    → number_says negative (digits ++ unit) ≡ Some (not (decimal_value digits == 0))
number_says-parts negative digits unit n a u f =
    rw (prefix_len-digits is_ascii_digit digits unit a (prefix_len-unit unit u), take_at digits unit (length digits) refl, drop_at digits unit (length digits) refl, n, u, f) refl

-- a sign is taken off, and digits are no other word
lower_says-number : (sign : Option Bool) (digits rest : List ℕ) → is_empty digits ≡ false → list_all is_ascii_digit digits ≡ true
    → lower_says (sign_text sign ++ digits ++ rest) ≡ number_says (is_negative sign) (digits ++ rest)
lower_says-number (Some true) digits rest n a = refl
lower_says-number (Some false) digits rest n a = refl
lower_says-number None [] rest n a = cc
lower_says-number None (d ∷ ds) rest n a =
    let h = (and_parts (is_ascii_digit d) (list_all is_ascii_digit ds) a).0 in
    rw (is_yes-digit d (ds ++ rest) h, is_no-digit d (ds ++ rest) h, digit-ne_below d dash h (omega arith), digit-ne_below d plus h (omega arith)) refl

-- digits that are there
not_empty : (digits : List ℕ) → digits ≢ [] → is_empty digits ≡ false
not_empty [] n = absurd (n refl)
not_empty (d ∷ ds) n = refl

-- what the relation says, the function says
says-test : (word : List ℕ) (value : Bool) → Says word value → lower_says word ≡ Some value
says-test word value (yes_word y e) = rw (y, e) refl
says-test word value (no_word n e) = rw (is_yes-no word n, n, e) refl
says-test word value (number sign digits unit w n a u f e) =
    ap lower_says w ∙ (lower_says-number sign digits unit (not_empty digits n) a ∙ (number_says-parts (is_negative sign) digits unit (not_empty digits n) a u f ∙ ap Some (sym e)))

-- ---- to the relation

-- the digits and what follows them are no number
abbrev pub is_no_number : Bool → List ℕ → List ℕ → Bool
is_no_number negative digits unit = is_empty digits || not (is_unit unit) || not (fits_64 negative (decimal_value digits))

-- what is taken while a test passes passes it
pub list_all-take_while : (p : ℕ → Bool) (text : List ℕ) → list_all p (take_while p text) ≡ true
list_all-take_while p [] = refl
list_all-take_while p (b ∷ bs) = elim (cases_Bool (p b)) [
  | inl y ↦ rw (y, one-add) (and_from (p b) (list_all p (take_while p bs)) y (list_all-take_while p bs))
  | inr n ↦ rw n refl
]

-- an answer is the other branch
only_some : (b : Bool) (x : Option Bool) (v value : Bool) → b ≡ false → cond b x (Some v) ≡ Some value → v ≡ value
only_some b x v value n h = let k = rw n at h in cc

-- the digits are there
has_digit : (digits : List ℕ) → is_empty digits ≡ false → digits ≢ []
has_digit [] n e = cc
has_digit (d ∷ ds) n e = cc

-- a word from its parts
cut_word : (word sign text digits unit : List ℕ) → word ≡ sign ++ text → digits ++ unit ≡ text → word ≡ sign ++ digits ++ unit
cut_word word sign text digits unit w t = rw (append_assoc sign digits unit, t) w

-- a number that the function read
number-from : (word : List ℕ) (value : Bool) (sign : Option Bool) (text : List ℕ) → word ≡ sign_text sign ++ text → number_says (is_negative sign) text ≡ Some value → Says word value
number-from word value sign text w h =
    let digits = take_while is_ascii_digit text in
    let unit = drop (prefix_len is_ascii_digit text) text in
    elim (cases_Bool (is_no_number (is_negative sign) digits unit)) [
      | inl y ↦ let k = rw y at h in cc
      | inr n ↦
          let p = or_parts (is_empty digits || not (is_unit unit)) (not (fits_64 (is_negative sign) (decimal_value digits))) n in
          let q = or_parts (is_empty digits) (not (is_unit unit)) p.0 in
          number sign digits unit (cut_word word (sign_text sign) text digits unit w (take-append-drop (prefix_len is_ascii_digit text) text)) (has_digit digits q.0) (list_all-take_while is_ascii_digit text) (not-false (is_unit unit) q.1)
          (not-false (fits_64 (is_negative sign) (decimal_value digits)) p.1) (sym (only_some _ _ _ _ n h))
    ]

-- with its sign
signed-from : (word : List ℕ) (value : Bool) → signed_says word ≡ Some value → Says word value
signed-from [] value h = number-from [] value None [] refl h
signed-from (b ∷ bs) value h = elim (cases_Bool (b == dash)) [
  | inl m ↦ number-from (b ∷ bs) value (Some true) bs (ap (λ x. x ∷ bs) (eqb-true b dash m)) (rw (eqb-true b dash m) at h)
  | inr nm ↦ elim (cases_Bool (b == plus)) [
    | inl p ↦ number-from (b ∷ bs) value (Some false) bs (ap (λ x. x ∷ bs) (eqb-true b plus p)) (rw (eqb-true b plus p) at h)
    | inr np ↦ number-from (b ∷ bs) value None (b ∷ bs) refl (rw (nm, np) at h)
  ]
]

-- what the function says, the relation says
test-says : (word : List ℕ) (value : Bool) → lower_says word ≡ Some value → Says word value
test-says word value h = elim (cases_Bool (is_yes word)) [
  | inl y ↦ yes_word y (let k = rw y at h in cc)
  | inr ny ↦ elim (cases_Bool (is_no word)) [
    | inl n ↦ no_word n (let k = rw (ny, n) at h in cc)
    | inr nn ↦ signed-from word value (rw (ny, nn) at h)
  ]
]

-- The function's answer is what the relation says.
pub truth_is_exact : (word : List ℕ) → IsTruth word (truth_of word)
unfolding truth_of
truth_is_exact word value = (says-test (str_to_ascii_lowercase word) value, test-says (str_to_ascii_lowercase word) value)

-- ---- words in any case

-- case does not make a digit
is_ascii_digit-lower : (b : ℕ) → is_ascii_digit (to_ascii_lowercase b) ≡ is_ascii_digit b
is_ascii_digit-lower b = grind (arith, nat_tests)

-- so as many digits stand at the front in lower case
prefix_len-lower : (text : List ℕ) → prefix_len is_ascii_digit (str_to_ascii_lowercase text) ≡ prefix_len is_ascii_digit text
prefix_len-lower [] = refl
prefix_len-lower (b ∷ bs) = rw (is_ascii_digit-lower b, prefix_len-lower bs) refl

-- and a digit is its own lower form
lower-digit : (d : ℕ) → is_ascii_digit d ≡ true → to_ascii_lowercase d ≡ d
lower-digit d h = let p = and_parts (nat_le 48 d) (nat_le d 57) h in let u = leb-true d 57 p.1 in grind (arith, nat_tests)

-- so are digits
lower-digits : (digits : List ℕ) → list_all is_ascii_digit digits ≡ true → str_to_ascii_lowercase digits ≡ digits
lower-digits [] a = refl
lower-digits (d ∷ ds) a =
    let q = and_parts (is_ascii_digit d) (list_all is_ascii_digit ds) a in
    rw (lower-digit d q.0, lower-digits ds q.1) refl

-- the digits of a text in lower case are its own
digits-lower : (text : List ℕ) → take_while is_ascii_digit (str_to_ascii_lowercase text) ≡ take_while is_ascii_digit text
digits-lower text = rw (prefix_len-lower text, take-map to_ascii_lowercase (prefix_len is_ascii_digit text) text) (lower-digits (take_while is_ascii_digit text) (list_all-take_while is_ascii_digit text))

-- what a number in any case says, by its digits and its unit
pub number_says-lower : (negative : Bool) (text digits unit : List ℕ) → digits ≡ take_while is_ascii_digit text → unit ≡ drop (prefix_len is_ascii_digit text) text
    → number_says negative (str_to_ascii_lowercase text) ≡ cond (is_no_number negative digits (str_to_ascii_lowercase unit)) None (Some (not (decimal_value digits == 0)))
number_says-lower negative text digits unit d u = rw (d, u, ← drop-map to_ascii_lowercase (prefix_len is_ascii_digit text) text, ← digits-lower text, prefix_len-lower text) refl
