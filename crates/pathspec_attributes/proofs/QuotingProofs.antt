-- A quoted text, byte after byte.
use Rattle.std.proofs.Common.{◌≡◌, ℕ, zero, suc, ◌-◌, ◌≤◌, false, get_or, refl, sym, ◌∙◌, ap, List, [], ◌∷◌, ◌++◌, length, take, drop, ◌==◌, Option, Some, None, append_assoc, arith}
use Rattle.std.proofs.lemmas.List.{length-drop, take_all}
use Rattle.std.specs.Option.{option_map, option_and_then}
use Rattle.pathspec_attributes.specs.Quoting.{Escape, Quoted, onto, quote, unit_of, unquoted_behind}

-- bytes that are read, in front of those that are to come
abbrev pub in_front : List ℕ → Quoted → Quoted
in_front made quoted = record { text = made ++ quoted.text; rest = quoted.rest }

-- a text before the rest
abbrev before_rest : List ℕ → List ℕ → Option Quoted
before_rest rest text = Some (record { text = text; rest = rest })

-- to pass over bytes is to drop them
behind-drop : (n : ℕ) (text : List ℕ) → unquoted_behind n text ≡ unquoted_behind 0 (drop n text)
behind-drop zero text = refl
behind-drop (suc n) [] = refl
behind-drop (suc n) (b ∷ bs) = behind-drop n bs

-- one byte more
front-more : (made : List ℕ) (b : ℕ) (coming : Option Quoted) → option_map (in_front made) (option_map (onto b) coming) ≡ option_map (in_front (made ++ b ∷ [])) coming
front-more made b None = refl
front-more made b (Some quoted) = ap (before_rest quoted.rest) (sym (append_assoc made (b ∷ []) quoted.text))

-- the whole, by the bytes that are read and a byte with those behind it
module _ (whole : Option Quoted) (made : List ℕ) (b : ℕ) (bs : List ℕ) (h : whole ≡ option_map (in_front made) (unquoted_behind 0 (b ∷ bs))) where
  module _ (stays : (b == quote) ≡ false) where
    here : whole ≡ option_map (in_front made) (option_and_then (λ (e : Escape). option_map (onto e.byte) (unquoted_behind e.size bs)) (unit_of b bs))
    here = h ∙ rw stays refl

    -- what stands for one byte
    pub unquote-takes : (e : Escape) → unit_of b bs ≡ Some e → whole ≡ option_map (in_front (made ++ e.byte ∷ [])) (unquoted_behind 0 (drop e.size bs))
    unquote-takes e is = here ∙ (rw is (front-more made e.byte (unquoted_behind e.size bs) ∙ ap (option_map (in_front (made ++ e.byte ∷ []))) (behind-drop e.size bs)))

    -- a backslash without an escape
    pub unquote-refuses : unit_of b bs ≡ None → whole ≡ None
    unquote-refuses is = here ∙ rw is refl

-- as the code takes the rest
pub unquote-goes : (whole : Option Quoted) (made grown rest : List ℕ) (byte size : ℕ) → whole ≡ option_map (in_front made) (unquoted_behind 0 rest) → 1 ≤ length rest → (get_or rest 0 0 == quote) ≡ false
    → Some (record { byte = byte; size = size }) ≡ unit_of (get_or rest 0 0) (take (length rest - 1) (drop 1 rest)) → grown ≡ made ++ byte ∷ []
    → whole ≡ option_map (in_front grown) (unquoted_behind 0 (take (length (take (length rest - 1) (drop 1 rest)) - size) (drop size (take (length rest - 1) (drop 1 rest)))))
unquote-goes whole made grown [] byte size h some stays is g = absurd (omega (arith, some))
unquote-goes whole made grown (b ∷ bs) byte size h some stays is g =
    let all : take (length (b ∷ bs) - 1) bs ≡ bs = take_all (length (b ∷ bs) - 1) bs (omega arith) in
    let behind : take (length bs - size) (drop size bs) ≡ drop size bs = take_all (length bs - size) (drop size bs) (omega (arith, length-drop size bs)) in
    let e : Escape = record { byte = byte; size = size } in
    let unit : unit_of b bs ≡ Some e = sym (is ∙ ap (unit_of b) all) in
    unquote-takes whole made b bs h stays e unit
    ∙ (ap (λ (list : List ℕ). option_map (in_front list) (unquoted_behind 0 (drop size bs))) (sym g)
    ∙ ap (λ (list : List ℕ). option_map (in_front grown) (unquoted_behind 0 list)) (sym (ap (λ (list : List ℕ). take (length list - size) (drop size list)) all ∙ behind)))
