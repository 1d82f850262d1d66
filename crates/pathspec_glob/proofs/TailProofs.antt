-- A tail pattern takes the texts that end with its rest.
use Rattle.std.proofs.Common.{◌≡◌, ℕ, zero, suc, ◌-◌, ◌≤◌, ◌&&◌, ◌||◌, Bool, true, false, not, refl, sym, ◌∙◌, ap, List, [], ◌∷◌, ◌++◌, length, take, drop, map, arith, ◌==◌, inl, inr}
use Rattle.std.proofs.lemmas.Bool.{and_parts, and_from, or_parts, eqb-true, cases_lt, false_from_ne_true, not-true, not_from_false}
use Rattle.std.proofs.lemmas.List.{append-nil, length-map, drop-map, drop_all, length-drop}
use Rattle.std.proofs.Math.Bool.{or-false, and-false, and_assoc}
use Rattle.std.specs.Prelude.{◌⊎◌, nat_eq, IsFalse}
use Rattle.std.specs.List.{list_any, list_all, ends_with, prefix_len}
use Rattle.std.specs.Cmp.Lexicographic.{pointwise}
use Rattle.std.specs.Char.{to_ascii_lowercase}
use Rattle.std.specs.Cmp.Derive.Mapped.{pointwise-map}
use Rattle.pathspec_glob.proofs.Words.{Mode, Shell, PathAware, Case, Sensitive, Fold, slash, star, question_mark, open_bracket, backslash, fold_case, is_wildcard, Token, piece_of, tokens, tokens_from, Byte, One, Star, Deep, matches, some_suffix, is_same_byte, folds, is_tail_pattern}
use Rattle.pathspec_glob.specs.GlobParts.{plain_tokens}

-- ---- the one end that has the rest's length

-- lists that agree are alike in length
length-pointwise : (E : ℕ → ℕ → Bool) (xs ys : List ℕ) → pointwise E xs ys ≡ true → length xs ≡ length ys
length-pointwise E [] [] h = refl
length-pointwise E [] (y ∷ ys) h = cc
length-pointwise E (x ∷ xs) [] h = cc
length-pointwise E (x ∷ xs) (y ∷ ys) h = ap suc (length-pointwise E xs ys (and_parts (E x y) (pointwise E xs ys) h).1)

-- lists of other lengths do not agree
pointwise-apart : (E : ℕ → ℕ → Bool) (xs ys : List ℕ) → (length xs ≡ length ys → ⊥) → pointwise E xs ys ≡ false
pointwise-apart E xs ys n = false_from_ne_true (pointwise E xs ys) (λ h. n (length-pointwise E xs ys h))

-- some end agrees with the rest where the end of its length does, and what stands before may be skipped
some_suffix-pointwise : (E : ℕ → ℕ → Bool) (skip : ℕ → Bool) (test : List ℕ → Bool) (rest text : List ℕ) → ((v : List ℕ) → test v ≡ pointwise E rest v)
    → some_suffix skip test text ≡ (list_all skip (take (length text - length rest) text) && pointwise E rest (drop (length text - length rest) text))
some_suffix-pointwise E skip test rest [] t = let n : 0 - length rest ≡ 0 = omega arith in rw n (t [])
some_suffix-pointwise E skip test rest (b ∷ bs) t =
    let ih = some_suffix-pointwise E skip test rest bs t in
    elim (cases_lt (length bs) (length rest)) [
      | inl l ↦
          let n : suc (length bs) - length rest ≡ 0 = omega arith in
          let m : length bs - length rest ≡ 0 = omega arith in
          let off : pointwise E rest bs ≡ false = pointwise-apart E rest bs (λ e. omega arith) in
          rw (t (b ∷ bs), ih, n, m, off, and-false) (or-false (pointwise E rest (b ∷ bs)))
      | inr g ↦
          let n : suc (length bs) - length rest ≡ suc (length bs - length rest) = omega arith in
          let off : pointwise E rest (b ∷ bs) ≡ false = pointwise-apart E rest (b ∷ bs) (λ e. omega arith) in
          rw (t (b ∷ bs), ih, n, off) (sym (and_assoc (skip b) (list_all skip (take (length bs - length rest) bs)) (pointwise E rest (drop (length bs - length rest) bs))))
    ]

-- ---- tokens of bytes without a wildcard

-- a byte that is no wildcard is a token of its own
pub plain_piece : (mode : Mode) (after_slash : Bool) (b : ℕ) (rest : List ℕ) → is_wildcard b ≡ false → piece_of mode after_slash b rest ≡ record { token = One (Byte b); size = 1 }
plain_piece mode after_slash b rest h =
    let p = or_parts (b == star) ((b == question_mark) || ((b == open_bracket) || ((b == backslash) || false))) h in
    let q = or_parts (b == question_mark) ((b == open_bracket) || ((b == backslash) || false)) p.1 in
    let r = or_parts (b == open_bracket) ((b == backslash) || false) q.1 in
    let t = or_parts (b == backslash) false r.1 in
    rw (t.0, q.0, r.0, p.0) refl

-- whether what follows the bytes stands after a slash, or where they stood
abbrev pub slash_before_rest : Bool → List ℕ → Bool
slash_before_rest after_slash [] = after_slash
slash_before_rest after_slash (b ∷ bs) = slash_before_rest (b == slash) bs

-- a front without a wildcard is its bytes, and the rest is read after it
pub tokens_from-plain : (mode : Mode) (after_slash : Bool) (front rest : List ℕ) → list_any is_wildcard front ≡ false
    → tokens_from mode 0 after_slash (front ++ rest) ≡ plain_tokens front ++ tokens_from mode 0 (slash_before_rest after_slash front) rest
unfolding tokens_from
tokens_from-plain mode after_slash [] rest h = refl
tokens_from-plain mode after_slash (b ∷ front) rest h =
    let p = or_parts (is_wildcard b) (list_any is_wildcard front) h in
    rw (plain_piece mode after_slash b (front ++ rest) p.0) (ap (λ ts. One (Byte b) ∷ ts) (tokens_from-plain mode (b == slash) front rest p.1))

-- ---- tokens of a tail pattern

-- a rest without a wildcard begins with no star
no_star : (rest : List ℕ) → list_any is_wildcard rest ≡ false → prefix_len (λ c. c == star) rest ≡ 0
no_star [] h = refl
no_star (b ∷ rest) h = let p = or_parts (b == star) _ (or_parts (is_wildcard b) (list_any is_wildcard rest) h).0 in rw p.0 refl

abbrev pub tail_token : Mode → Token
tail_token Shell = Deep
tail_token PathAware = Star

-- a pattern without a wildcard is its bytes
pub tokens_from-whole : (mode : Mode) (after_slash : Bool) (rest : List ℕ) → list_any is_wildcard rest ≡ false → tokens_from mode 0 after_slash rest ≡ map (λ b. One (Byte b)) rest
unfolding tokens_from
tokens_from-whole mode after_slash rest h = ap (tokens_from mode 0 after_slash) (sym (append-nil rest)) ∙ (tokens_from-plain mode after_slash rest [] h ∙ append-nil (map (λ b. One (Byte b)) rest))

-- the tokens of a tail pattern
pub tokens-tail : (mode : Mode) (rest : List ℕ) → list_any is_wildcard rest ≡ false → tokens mode (star ∷ rest) ≡ tail_token mode ∷ map (λ b. One (Byte b)) rest
unfolding tokens_from
tokens-tail Shell rest h = rw (no_star rest h) (ap (λ ts. Deep ∷ ts) (tokens_from-whole Shell false rest h))
tokens-tail PathAware rest h = rw (no_star rest h) (ap (λ ts. Star ∷ ts) (tokens_from-whole PathAware false rest h))

-- bytes match the text that agrees with them
matches-plain : (mode : Mode) (case : Case) (rest v : List ℕ) → matches mode case (map (λ b. One (Byte b)) rest) v ≡ pointwise (is_same_byte case) rest v
unfolding matches
matches-plain mode case [] [] = refl
matches-plain mode case [] (c ∷ v) = refl
matches-plain mode case (b ∷ rest) [] = refl
matches-plain mode case (b ∷ rest) (c ∷ v) = rw (matches-plain mode case rest v) refl

-- all may be skipped
any_skip : (text : List ℕ) → list_all (λ b. true) text ≡ true
any_skip [] = refl
any_skip (b ∷ text) = any_skip text

-- a front of a text without a slash has none
no_slash-take : (n : ℕ) (text : List ℕ) → list_any (λ b. b == slash) text ≡ false → list_all (λ b. not (b == slash)) (take n text) ≡ true
no_slash-take zero text h = refl
no_slash-take (suc n) [] h = refl
no_slash-take (suc n) (b ∷ text) h = let p = or_parts (b == slash) (list_any (λ b. b == slash) text) h in and_from (not (b == slash)) _ (not_from_false (b == slash) p.0) (no_slash-take n text p.1)

-- deep in a shell glob takes any bytes
matches-shell : (case : Case) (rest text : List ℕ) → matches Shell case (Deep ∷ map (λ b. One (Byte b)) rest) text ≡ pointwise (is_same_byte case) rest (drop (length text - length rest) text)
unfolding matches
matches-shell case [] text = rw (drop_all (length text - 0) text (omega arith)) refl
matches-shell case (b ∷ rest) text =
    or-false _ ∙ (some_suffix-pointwise (is_same_byte case) (λ b. true) _ (b ∷ rest) text (matches-plain Shell case (b ∷ rest)) ∙ rw (any_skip (take (length text - length (b ∷ rest)) text)) refl)

-- star takes bytes without a slash
matches-star : (case : Case) (rest text : List ℕ)
    → matches PathAware case (Star ∷ map (λ b. One (Byte b)) rest) text ≡ (list_all (λ b. not (b == slash)) (take (length text - length rest) text) && pointwise (is_same_byte case) rest (drop (length text - length rest) text))
unfolding matches
matches-star case rest text = some_suffix-pointwise (is_same_byte case) (λ b. not (b == slash)) _ rest text (matches-plain PathAware case rest)

-- agreeing up to case is agreeing in lower case
ends_with-fold_case : (case : Case) (rest text : List ℕ) → pointwise (is_same_byte case) rest (drop (length text - length rest) text) ≡ ends_with nat_eq (fold_case (folds case) text) (fold_case (folds case) rest)
ends_with-fold_case Sensitive rest text = refl
ends_with-fold_case Fold rest text =
    rw (length-map text to_ascii_lowercase, length-map rest to_ascii_lowercase, drop-map to_ascii_lowercase (length text - length rest) text, pointwise-map to_ascii_lowercase nat_eq rest (drop (length text - length rest) text)) refl

-- both modes at once
matches-tail : (mode : Mode) (case : Case) (rest text : List ℕ) → (mode ≡ Shell) ⊎ IsFalse (list_any (λ b. b == slash) text)
    → matches mode case (tail_token mode ∷ map (λ b. One (Byte b)) rest) text ≡ ends_with nat_eq (fold_case (folds case) text) (fold_case (folds case) rest)
matches-tail Shell case rest text m = matches-shell case rest text ∙ ends_with-fold_case case rest text
matches-tail PathAware case rest text (inl e) = cc
matches-tail PathAware case rest text (inr h) = matches-star case rest text ∙ (rw (no_slash-take (length text - length rest) text h) refl ∙ ends_with-fold_case case rest text)

-- The same as an equation of tests.
pub matches-ends_with : (mode : Mode) (case : Case) (pattern text : List ℕ) → is_tail_pattern pattern ≡ true → (mode ≡ Shell) ⊎ IsFalse (list_any (λ b. b == slash) text)
    → matches mode case (tokens mode pattern) text ≡ ends_with nat_eq (fold_case (folds case) text) (fold_case (folds case) (drop 1 pattern))
matches-ends_with mode case [] text t m = cc
matches-ends_with mode case (b ∷ rest) text t m =
    let p = and_parts (b == star) (not (list_any is_wildcard rest)) t in
    rw (eqb-true b star p.0, tokens-tail mode rest (not-true (list_any is_wildcard rest) p.1)) (matches-tail mode case rest text m)

-- what agrees with the end of a text is no longer than it
tail-agrees : (E : ℕ → ℕ → Bool) (rest text : List ℕ) (n : ℕ) → pointwise E rest (drop n text) ≡ true → length rest ≤ length text
tail-agrees E rest text n h = let same : length rest ≡ length (drop n text) = length-pointwise E rest (drop n text) h in omega (arith, same, length-drop n text)

-- a text that a tail pattern takes is as long as its rest, at least
pub tail-fits : (mode : Mode) (case : Case) (pattern text : List ℕ) → is_tail_pattern pattern ≡ true → matches mode case (tokens mode pattern) text ≡ true → length (drop 1 pattern) ≤ length text
tail-fits mode case [] text t h = cc
tail-fits Shell case (b ∷ rest) text t h =
    let p = and_parts (b == star) (not (list_any is_wildcard rest)) t in
    tail-agrees (is_same_byte case) rest text (length text - length rest)
    (sym (matches-shell case rest text) ∙ (rw (eqb-true b star p.0, tokens-tail Shell rest (not-true (list_any is_wildcard rest) p.1)) at h))
tail-fits PathAware case (b ∷ rest) text t h =
    let p = and_parts (b == star) (not (list_any is_wildcard rest)) t in
    let both = sym (matches-star case rest text) ∙ (rw (eqb-true b star p.0, tokens-tail PathAware rest (not-true (list_any is_wildcard rest) p.1)) at h) in
    tail-agrees (is_same_byte case) rest text (length text - length rest)
    (and_parts (list_all (λ b. not (b == slash)) (take (length text - length rest) text)) (pointwise (is_same_byte case) rest (drop (length text - length rest) text)) both).1
