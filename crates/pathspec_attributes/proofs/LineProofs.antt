-- The lines of a text, line after line.
use Rattle.std.proofs.Common.{◌≡◌, ℕ, ◌+◌, ◌-◌, ◌<◌, Bool, false, cond, inl, inr, refl, sym, ◌∙◌, ap, List, [], ◌∷◌, length, take, drop, ◌==◌, Some, None, arith}
use Rattle.std.proofs.lemmas.Bool.{cases_Bool, or_parts, false≢true}
use Rattle.std.proofs.lemmas.List.{length-drop, take_all}
use Rattle.std.proofs.lemmas.List.Splits.{slice_split_first}
use Rattle.std.proofs.Math.Numerals.{one-add}
use Rattle.std.specs.Option.{is_some}
use Rattle.std.specs.List.{slice_split, onto_first, before_first, after_first, list_any, position, position_or_len}
use Rattle.std.specs.Str.Lines.{lines, lines_of_parts, strip_carriage_return}
use Rattle.pathspec_glob.proofs.BracketProofs.{first-Some, position_any}

-- a line feed
abbrev pub is_end : ℕ → Bool
is_end b = b == 10

-- ---- parts

-- the parts after the first
abbrev others : List ℕ → List (List ℕ)
others [] = []
others (b ∷ bs) = cond (is_end b) (slice_split is_end bs) (others bs)

split-first : (text : List ℕ) → slice_split is_end text ≡ before_first is_end text ∷ others text
split-first [] = refl
split-first (b ∷ bs) = elim (cases_Bool (is_end b)) [
  | inl h ↦ rw h refl
  | inr h ↦ rw (h, one-add) (ap (onto_first b) (split-first bs))
]

-- without a line feed the text is the one part
split-none : (text : List ℕ) → list_any is_end text ≡ false → slice_split is_end text ≡ text ∷ []
split-none [] h = refl
split-none (b ∷ bs) h = let p = or_parts (is_end b) (list_any is_end bs) h in rw p.0 (ap (onto_first b) (split-none bs p.1))

-- ---- lines

-- the line before a line feed
lines-first : (text : List ℕ) → position_or_len is_end text < length text → lines text ≡ strip_carriage_return (before_first is_end text) ∷ lines (after_first is_end text)
lines-first text found =
    let after : List ℕ = after_first is_end text in
    let parts : slice_split is_end text ≡ before_first is_end text ∷ before_first is_end after ∷ others after = slice_split_first is_end text 0 found ∙ ap (λ ps. before_first is_end text ∷ ps) (split-first after) in
    ap lines_of_parts parts ∙ ap (λ ps. strip_carriage_return (before_first is_end text) ∷ lines_of_parts ps) (sym (split-first after))

pub lines-at : (text : List ℕ) (at : ℕ) → position is_end text ≡ Some at → lines text ≡ strip_carriage_return (take at text) ∷ lines (drop (at + 1) text)
lines-at text at is =
    let found : (position_or_len is_end text < length text) × (position_or_len is_end text ≡ at) = first-Some is_end text at is in
    rw (sym found.1) (lines-first text found.0)

-- all behind a place
behind-all : (text : List ℕ) (k : ℕ) → take (length text - k) (drop k text) ≡ drop k text
behind-all text k = take_all (length text - k) (drop k text) (omega (arith, length-drop k text))

-- and as the code takes it
pub line-at : (text line : List ℕ) (at : ℕ) → position is_end text ≡ Some at → line ≡ strip_carriage_return (take at text)
    → (lines text ≡ line ∷ lines (take (length text - (at + 1)) (drop (at + 1) text))) × (length (take (length text - (at + 1)) (drop (at + 1) text)) < length text)
line-at text line at is l =
    let found : (position_or_len is_end text < length text) × (position_or_len is_end text ≡ at) = first-Some is_end text at is in
    let behind : take (length text - (at + 1)) (drop (at + 1) text) ≡ drop (at + 1) text = behind-all text (at + 1) in
    let size : length (drop (at + 1) text) ≡ length text - (at + 1) = length-drop (at + 1) text in
    let within : length (drop (at + 1) text) < length text = omega (arith, size, found.0, found.1) in
    (lines-at text at is ∙ (ap (λ first. first ∷ lines (drop (at + 1) text)) (sym l) ∙ ap (λ rest. line ∷ lines rest) (sym behind)), rw behind within)

-- the last line, without a line feed
pub lines-last : (text : List ℕ) → position is_end text ≡ None → (length text == 0) ≡ false → lines text ≡ text ∷ lines []
lines-last text none some =
    let nowhere : list_any is_end text ≡ false = sym (position_any is_end text) ∙ ap is_some none in
    ap lines_of_parts (split-none text nowhere) ∙ rw some refl

pub line-last : (text : List ℕ) → position is_end text ≡ None → (length text == 0) ≡ false → (lines text ≡ text ∷ lines []) × (length {A = ℕ} [] < length text)
line-last text none some = (lines-last text none some, filled text some)
  where
    filled : (text : List ℕ) → (length text == 0) ≡ false → length {A = ℕ} [] < length text
    filled [] some = absurd (false≢true (sym some))
    filled (b ∷ bs) some = omega arith
