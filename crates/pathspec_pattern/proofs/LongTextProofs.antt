-- Keywords written one after the other, and escapes.
use Rattle.std.proofs.Common.{◌≡◌, ℕ, ◌+◌, ◌<◌, Bool, true, false, not, cond, refl, sym, ◌∙◌, ap, List, [], ◌∷◌, ◌++◌, length, take, map, arith, append_assoc, length-append, nat_lt, ◌==◌, Some}
use Rattle.std.proofs.lemmas.Bool.{and_parts, not-true, lt-ltb}
use Rattle.std.specs.Prelude.{codes}
use Rattle.std.specs.List.{join_with_byte, list_all, slice_get}
use Rattle.std.specs.Option.{option_map}
use Rattle.std.proofs.lemmas.Option.{slice_get-map}
use Rattle.std.proofs.lemmas.List.{take-map}
use Rattle.pathspec_parts.specs.Bytes.{comma, space, is_empty}
use Rattle.pathspec_parts.specs.Attributes.{Assignment}
use Rattle.pathspec_pattern.specs.LongText.{HoldsPieces, assignment_text, list_text, attributes_text, number_text, prefix_piece, prefix_text}
use Rattle.pathspec_pattern.proofs.JoinProofs.{join-more}

-- ---- keywords

-- one more after pieces that are there
join-after : (w : List ℕ) (ws : List (List ℕ)) (word : List ℕ) → join_with_byte comma ((w ∷ ws) ++ word ∷ []) ≡ join_with_byte comma (w ∷ ws) ++ comma ∷ word
join-after w [] word = refl
join-after w (v ∷ ws) word = ap (λ t. w ++ comma ∷ t) (join-after v ws word) ∙ sym (append_assoc w (comma ∷ join_with_byte comma (v ∷ ws)) (comma ∷ word))

filled-after : (ws : List (List ℕ)) (word : List ℕ) → list_all (λ w. not (is_empty w)) ws ≡ true → is_empty word ≡ false → list_all (λ w. not (is_empty w)) (ws ++ word ∷ []) ≡ true
filled-after [] word f e = rw e refl
filled-after (w ∷ ws) word f e = let p = and_parts (not (is_empty w)) (list_all (λ w. not (is_empty w)) ws) f in rw (p.0, filled-after ws word p.1 e) refl

filled-length : (w : List ℕ) → is_empty w ≡ false → 0 < length w
filled-length [] e = cc
filled-length (b ∷ w) e = omega arith

join-length : (w : List ℕ) (ws : List (List ℕ)) → is_empty w ≡ false → 0 < length (join_with_byte comma (w ∷ ws))
join-length w [] e = filled-length w e
join-length w (v ∷ ws) e = let l = length-append w (comma ∷ join_with_byte comma (v ∷ ws)) in let f = filled-length w e in omega (arith, l, f)

-- A piece is written after the others, with a comma between.
pub word-after : (old new : List ℕ) (words : List (List ℕ)) (word : List ℕ) → HoldsPieces old words → is_empty word ≡ false → new ≡ (old ++ cond (nat_lt 2 (length old)) (comma ∷ []) []) ++ word → HoldsPieces new (words ++ word ∷ [])
word-after old new [] word h e n =
    let bare : old ≡ codes ":(" = h.join_names in
    record { join_names = n ∙ (rw bare refl); filled = filled-after [] word h.filled e }
word-after old new (w ∷ ws) word h e n =
    let p = and_parts (not (is_empty w)) (list_all (λ w. not (is_empty w)) ws) h.filled in
    let size : length old ≡ 2 + length (join_with_byte comma (w ∷ ws)) = ap length h.join_names ∙ omega arith in
    let some = join-length w ws (not-true (is_empty w) p.0) in
    let more : nat_lt 2 (length old) ≡ true = lt-ltb 2 (length old) (omega (arith, size, some)) in
    let put : new ≡ (old ++ comma ∷ []) ++ word = n ∙ (rw more refl) in
    record {
      join_names = put ∙ (append_assoc old (comma ∷ []) word ∙ (ap (λ t. t ++ comma ∷ word) h.join_names ∙ ap (λ t. codes ":(" ++ t) (sym (join-after w ws word))));
      filled = filled-after (w ∷ ws) word h.filled e;
    }

-- ---- a list of attributes

-- a byte or nothing, and a text
cond-front : (first : Bool) (byte : ℕ) (x : List ℕ) → cond first [] (byte ∷ []) ++ x ≡ cond first x (byte ∷ x)
cond-front true byte x = refl
cond-front false byte x = refl

-- One more text is written after the others, with the byte between.
join_names-after : (byte : ℕ) (texts : List (List ℕ)) (n : ℕ) (x old so_far spaced new : List ℕ) → so_far ≡ old ++ join_with_byte byte (take n texts) → spaced ≡ so_far ++ cond (n == 0) [] (byte ∷ []) → new ≡ spaced ++ x → slice_get texts n ≡ Some x
    → new ≡ old ++ join_with_byte byte (take (n + 1) texts)
join_names-after byte texts n x old so_far spaced new s p w h =
    let before = join_with_byte byte (take n texts) in
    let grown : join_with_byte byte (take (n + 1) texts) ≡ before ++ cond (n == 0) x (byte ∷ x) = sym (join-more byte texts n x before (before ++ cond (n == 0) x (byte ∷ x)) refl refl h) in
    rw (w, p, s, grown) (append_assoc (old ++ before) (cond (n == 0) [] (byte ∷ [])) x ∙ (rw (cond-front (n == 0) byte x) (append_assoc old before (cond (n == 0) x (byte ∷ x)))))

-- the same of an assignment and a space
pub assignment-after : (all : List Assignment) (n : ℕ) (a : Assignment) (old so_far spaced new : List ℕ) → so_far ≡ old ++ list_text (take n all) → spaced ≡ so_far ++ cond (n == 0) [] (space ∷ []) → new ≡ spaced ++ assignment_text a → slice_get all n ≡ Some a
    → new ≡ old ++ list_text (take (n + 1) all)
assignment-after all n a old so_far spaced new s p w h =
    let texts = map assignment_text all in
    let at : slice_get texts n ≡ Some (assignment_text a) = slice_get-map assignment_text all n ∙ ap (option_map assignment_text) h in
    let front : (m : ℕ) → join_with_byte space (take m texts) ≡ list_text (take m all) = λ m. ap (join_with_byte space) (take-map assignment_text m all) in
    join_names-after space texts n (assignment_text a) old so_far spaced new (s ∙ ap (λ t. old ++ t) (sym (front n))) p w at ∙ ap (λ t. old ++ t) (front (n + 1))

-- A list of attributes is one more piece.
pub attributes-after : (all : List Assignment) (old begun listing new : List ℕ) (words : List (List ℕ)) → HoldsPieces old words → is_empty all ≡ false → begun ≡ old ++ cond (nat_lt 2 (length old)) (comma ∷ []) [] → listing ≡ begun ++ codes "attr:" → new ≡ listing ++ list_text all
    → HoldsPieces new (words ++ attributes_text all)
attributes-after [] old begun listing new words h f b l n = cc
attributes-after (a ∷ rest) old begun listing new words h f b l n =
    let gap = cond (nat_lt 2 (length old)) (comma ∷ []) [] in
    word-after old new words (codes "attr:" ++ list_text (a ∷ rest)) h refl (rw (n, l, b) (append_assoc (old ++ gap) (codes "attr:") (list_text (a ∷ rest))))

-- A prefix length is one more piece.
pub prefix-after : (n : ℕ) (old begun named new : List ℕ) (words : List (List ℕ)) → HoldsPieces old words → (n == 0) ≡ false → begun ≡ old ++ cond (nat_lt 2 (length old)) (comma ∷ []) [] → named ≡ begun ++ codes "prefix:" → new ≡ named ++ number_text n
    → HoldsPieces new (words ++ prefix_text n)
prefix-after n old begun named new words h z b l e =
    let gap = cond (nat_lt 2 (length old)) (comma ∷ []) [] in
    rw z (word-after old new words (prefix_piece n) h refl (rw (e, l, b) (append_assoc (old ++ gap) (codes "prefix:") (number_text n))))

-- a list that has elements
pub map-filled : {X : Type 0} (view : X → Assignment) (xs : List X) → (length xs == 0) ≡ false → is_empty (map view xs) ≡ false
map-filled view [] h = cc
map-filled view (x ∷ xs) h = refl

pub no_words : HoldsPieces (codes ":(") []
no_words = record { join_names = refl; filled = refl }
