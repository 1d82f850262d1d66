-- A run of stars is one token, so no two tokens that take any number of bytes stand side by side.
use Rattle.std.proofs.Common.{◌≡◌, ℕ, zero, suc, ◌+◌, ◌-◌, Bool, true, false, not, ◌&&◌, ◌==◌, inl, inr, refl, ◌∙◌, ap, arith, List, [], ◌∷◌, length, take, drop, map, codes, Option, Some, None, if◌then◌else◌}
use Rattle.std.proofs.lemmas.Bool.{cases_Bool, and_parts, eqb-true}
use Rattle.std.proofs.Math.Numerals.{one-add}
use Rattle.std.specs.List.{prefix_len}
use Rattle.pathspec_glob.proofs.Words.{Mode, slash, star, question_mark, open_bracket, backslash, is_one_of, first_is, Items, Token, Piece, escaped_piece, bracket_with, bracket_piece, items_from, run_piece, piece_of, token_before, tokens_from, tokens, Byte, Quoted, Any, Bracket, Dead, One, Star, Deep, is_wide, listed, listed_tokens}
use Rattle.pathspec_glob.specs.GlobCells.{alternates_behind}

abbrev is_star : ℕ → Bool
is_star b = b == star

-- behind all that pass in front, none does
front-ends : (p : ℕ → Bool) (xs : List ℕ) → first_is p (drop (prefix_len p xs) xs) ≡ false
front-ends p [] = refl
front-ends p (x ∷ xs) = elim (cases_Bool (p x)) [
  | inl e ↦ rw (e, one-add) (front-ends p xs)
  | inr e ↦ rw e e
]

escaped-single : (rest : List ℕ) → is_wide (escaped_piece rest).token ≡ false
escaped-single [] = refl
escaped-single (x ∷ rest) = refl

bracket_with-single : (negated : Bool) (len : ℕ) (found : Option Items) → is_wide (bracket_with negated len found).token ≡ false
bracket_with-single negated len None = refl
bracket_with-single negated len (Some read) = refl

bracket-single : (rest : List ℕ) → is_wide (bracket_piece rest).token ≡ false
bracket-single rest =
    let negated : Bool = first_is (is_one_of (codes "!^")) rest in
    bracket_with-single negated (length rest) (items_from 0 true None (if negated then drop 1 rest else rest))

-- another byte than a star takes one
other-single : (mode : Mode) (after_slash : Bool) (b : ℕ) (rest : List ℕ) → is_star b ≡ false → is_wide (piece_of mode after_slash b rest).token ≡ false
other-single mode after_slash b rest h = elim (cases_Bool (b == backslash)) [
  | inl e ↦ rw e (escaped-single rest)
  | inr e ↦ rw e (elim (cases_Bool (b == question_mark)) [
    | inl i ↦ rw i refl
    | inr i ↦ rw i (elim (cases_Bool (b == open_bracket)) [
      | inl j ↦ rw j (bracket-single rest)
      | inr j ↦ rw (j, h) refl
    ])
  ])
]

-- a token before others that alternate
before-alternates : (token : Token) (others : List Token) (wide : Bool) → (wide && is_wide token) ≡ false → alternates_behind (is_wide token) others ≡ true → alternates_behind wide (token_before token others) ≡ true
before-alternates (One Dead) others wide apart rest = rw apart refl
before-alternates (One (Byte b)) others wide apart rest = rw apart rest
before-alternates (One (Quoted b)) others wide apart rest = rw apart rest
before-alternates (One Any) others wide apart rest = rw apart rest
before-alternates (One (Bracket negated items)) others wide apart rest = rw apart rest
before-alternates Star others wide apart rest = rw apart rest
before-alternates Deep others wide apart rest = rw apart rest

-- the first byte of what is left is a star only where no run stands before
abbrev IsApart : Bool → List ℕ → Type 0
IsApart wide text = (wide && first_is is_star text) ≡ false

apart-either : (wide : Bool) (text : List ℕ) → first_is is_star text ≡ false → IsApart wide text
apart-either true text h = h
apart-either false text h = refl

apart-none : (wide next : Bool) → next ≡ false → (wide && next) ≡ false
apart-none true next h = h
apart-none false next h = refl

apart-some : (wide next : Bool) → wide && true ≡ false → (wide && next) ≡ false
apart-some true next h = absurd (let no : ⊥ = cc in no)
apart-some false next h = refl

from-alternates : (mode : Mode) (skip : ℕ) (after_slash wide : Bool) (text : List ℕ) → IsApart wide (drop skip text) → alternates_behind wide (tokens_from mode skip after_slash text) ≡ true
unfolding tokens_from
from-alternates mode skip after_slash wide [] apart = refl
from-alternates mode (suc skip) after_slash wide (b ∷ bs) apart = from-alternates mode skip (b == slash) wide bs apart
from-alternates mode zero after_slash wide (b ∷ bs) apart =
    let piece : Piece = piece_of mode after_slash b bs in
    let rest : List Token = tokens_from mode (piece.size - 1) (b == slash) bs in
    elim (cases_Bool (is_star b)) [
      | inr e ↦
          let single : is_wide piece.token ≡ false = other-single mode after_slash b bs e in
          before-alternates piece.token rest wide (apart-none wide (is_wide piece.token) single)
          (from-alternates mode (piece.size - 1) (b == slash) (is_wide piece.token) bs (rw single refl))
      | inl e ↦
          let run : ℕ = prefix_len is_star bs in
          let whole : piece ≡ run_piece mode after_slash (1 + run) (star ∷ bs) = rw (eqb-true b star e) refl in
          let size : piece.size - 1 ≡ run = ap (λ p. p.size - 1) whole ∙ (let n : 1 + run - 1 ≡ run = omega arith in n) in
          before-alternates piece.token rest wide (apart-some wide (is_wide piece.token) (rw e at apart))
          (from-alternates mode (piece.size - 1) (b == slash) (is_wide piece.token) bs (rw size (apart-either (is_wide piece.token) (drop run bs) (front-ends is_star bs))))
    ]

is_wide-listed : (t : Token) → is_wide (listed t) ≡ is_wide t
is_wide-listed (One single) = refl
is_wide-listed Star = refl
is_wide-listed Deep = refl

listed-alternates : (wide : Bool) (ts : List Token) → alternates_behind wide (map listed ts) ≡ alternates_behind wide ts
listed-alternates wide [] = refl
listed-alternates wide (t ∷ ts) = rw (is_wide-listed t, listed-alternates (is_wide t) ts) refl

weaker : (wide : Bool) (ts : List Token) → alternates_behind wide ts ≡ true → alternates_behind false ts ≡ true
weaker wide [] h = refl
weaker wide (t ∷ ts) h = (and_parts (not (wide && is_wide t)) (alternates_behind (is_wide t) ts) h).1

drop-alternates : (wide : Bool) (n : ℕ) (ts : List Token) → alternates_behind wide ts ≡ true → alternates_behind false (drop n ts) ≡ true
drop-alternates wide zero ts h = weaker wide ts h
drop-alternates wide (suc n) [] h = refl
drop-alternates wide (suc n) (t ∷ ts) h = drop-alternates (is_wide t) n ts (and_parts (not (wide && is_wide t)) (alternates_behind (is_wide t) ts) h).1

take-alternates : (wide : Bool) (n : ℕ) (ts : List Token) → alternates_behind wide ts ≡ true → alternates_behind wide (take n ts) ≡ true
take-alternates wide zero ts h = refl
take-alternates wide (suc n) [] h = refl
take-alternates wide (suc n) (t ∷ ts) h =
    let both = and_parts (not (wide && is_wide t)) (alternates_behind (is_wide t) ts) h in
    rw (both.0, take-alternates (is_wide t) n ts both.1) refl

-- No two tokens that take any number of bytes stand side by side in a pattern,
pub all_alternates : (mode : Mode) (pattern : List ℕ) → alternates_behind false (listed_tokens mode pattern) ≡ true
all_alternates mode pattern = listed-alternates false (tokens mode pattern) ∙ from-alternates mode 0 true false pattern refl

-- nor in a part of one.
pub part-alternates : (mode : Mode) (pattern : List ℕ) (from count : ℕ) → alternates_behind false (take count (drop from (listed_tokens mode pattern))) ≡ true
part-alternates mode pattern from count =
    take-alternates false count (drop from (listed_tokens mode pattern))
    (drop-alternates false from (listed_tokens mode pattern) (all_alternates mode pattern))
