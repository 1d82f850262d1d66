-- A glob matches a text where its head takes the front, its tail the end, and what stands between matches the rest.
use Rattle.std.proofs.Common.{◌≡◌, ℕ, zero, suc, ◌+◌, ◌-◌, ◌≤◌, ◌<◌, Bool, true, false, ◌&&◌, ◌||◌, not, refl, sym, ◌∙◌, ap, arith, add-one, get_or, List, [], ◌∷◌, ◌++◌, length, take, drop, inl, inr, ◌==◌, if◌then◌else◌}
use Rattle.std.proofs.lemmas.Bool.{cases_Bool, cases_lt, eqb-true, false_from_ne_true, and_parts, not-true, or_right}
use Rattle.std.proofs.Math.Bool.{or-false, and-false, and-true}
use Rattle.std.proofs.Math.Seq.{drop-length}
use Rattle.std.proofs.lemmas.List.{append_assoc, drop_more, take_all}
use Rattle.std.specs.Prelude.{bytes_eq, nat_eq}
use Rattle.std.specs.Char.{to_ascii_lowercase}
use Rattle.std.specs.Cmp.Lexicographic.{pointwise}
use Rattle.std.specs.Cmp.Derive.Mapped.{pointwise-map}
use Rattle.std.specs.List.{list_all}
use Rattle.pathspec_glob.proofs.Words.{Mode, Shell, PathAware, Case, Sensitive, Fold, is_empty, slash, fold_case, Token, Byte, One, Star, Deep, is_same_byte, takes, takes_first, matches, some_suffix, passes_over, takes_byte, takes_at, is_wide_at, may_pass_over_at, folds}
use Rattle.pathspec_glob.specs.GlobParts.{head_of, middle_of, tail_of, plain_tokens, takes_each, tests_each, first_token_takes}
use Rattle.pathspec_glob.proofs.AcceptProofs.{from-place}
use Rattle.pathspec_glob.proofs.GlobProofs.{passed}
use Rattle.pathspec_glob.proofs.PartProofs.{is_single, stands, head-singles, tail-singles, tail-stands, parts-all}

-- bytes that are the same one by one, up to case where it does not count
pointwise-folded : (case : Case) (own text : List ℕ) → pointwise (is_same_byte case) own text ≡ bytes_eq (fold_case (folds case) own) (fold_case (folds case) text)
pointwise-folded Sensitive own text = refl
pointwise-folded Fold own text = sym (pointwise-map to_ascii_lowercase nat_eq own text)

module _ (mode : Mode) (case : Case) where
  -- tokens that take a text one by one are as many as its bytes
  length-takes_each : (ts : List Token) (text : List ℕ) → takes_each mode case ts text ≡ true → length text ≡ length ts
  length-takes_each [] [] h = refl
  length-takes_each [] (b ∷ bs) h = cc
  length-takes_each (t ∷ ts) [] h = cc
  length-takes_each (t ∷ ts) (b ∷ bs) h = ap suc (length-takes_each ts bs (and_parts (takes_byte mode case t b) (takes_each mode case ts bs) h).1)

  pub takes_each-apart : (ts : List Token) (text : List ℕ) → (length text ≡ length ts → ⊥) → takes_each mode case ts text ≡ false
  takes_each-apart ts text n = false_from_ne_true (takes_each mode case ts text) (λ h. n (length-takes_each ts text h))

  -- one token and one byte of them
  pub takes_each-step : (ts : List Token) (text : List ℕ) (place : ℕ) → place < length text → length text ≡ length ts
      → takes_each mode case (drop place ts) (drop place text) ≡ (takes_at mode case (drop place ts) (get_or text place 0) && takes_each mode case (drop (place + 1) ts) (drop (place + 1) text))
  takes_each-step ts text place h len =
      let token : drop place ts ≡ get_or ts place Star ∷ drop (place + 1) ts = rw (add-one place) (from-place ts place (omega arith)) in
      let byte : drop place text ≡ get_or text place 0 ∷ drop (place + 1) text = drop_more text place 0 h in
      rw (token, byte) refl

  pub tests_each-step : (ts : List Token) (text : List ℕ) (place : ℕ) → place < length text → length text ≡ length ts
      → tests_each mode case (drop place ts) (drop place text) ≡ suc (if takes_at mode case (drop place ts) (get_or text place 0) then tests_each mode case (drop (place + 1) ts) (drop (place + 1) text) else 0)
  tests_each-step ts text place h len =
      let token : drop place ts ≡ get_or ts place Star ∷ drop (place + 1) ts = rw (add-one place) (from-place ts place (omega arith)) in
      let byte : drop place text ≡ get_or text place 0 ∷ drop (place + 1) text = drop_more text place 0 h in
      rw (token, byte) refl

  -- tokens that want bytes of their own take just these bytes
  takes_pointwise : (own text : List ℕ) → takes_each mode case (plain_tokens own) text ≡ pointwise (is_same_byte case) own text
  takes_pointwise [] [] = refl
  takes_pointwise [] (b ∷ bs) = refl
  takes_pointwise (x ∷ own) [] = refl
  takes_pointwise (x ∷ own) (b ∷ bs) = rw (takes_pointwise own bs) refl

  pub takes_plain : (own text : List ℕ) → takes_each mode case (plain_tokens own) text ≡ bytes_eq (fold_case (folds case) own) (fold_case (folds case) text)
  takes_plain own text = takes_pointwise own text ∙ pointwise-folded case own text

  pub tests_each-none : (ts : List Token) → tests_each mode case ts [] ≡ 0
  tests_each-none [] = refl
  tests_each-none (t ∷ ts) = refl

  -- a text that is shorter is taken by no end and no front of it
  pub front_short : (ts : List Token) (text : List ℕ) → length text < length ts → takes_each mode case ts (take (length ts) text) ≡ false
  front_short ts text h = rw (take_all (length ts) text (omega arith)) (takes_each-apart ts text (λ e. omega arith))

  pub end_short : (ts : List Token) (text : List ℕ) → length text < length ts → takes_each mode case ts (drop (length text - length ts) text) ≡ false
  end_short ts text h = let n : length text - length ts ≡ 0 = omega arith in rw n (takes_each-apart ts text (λ e. omega arith))

  -- ---- a head

  front-cases : (t f m : Bool) → (t && (f && m)) ≡ ((t && f) && m)
  front-cases t f m = grind (arith, or-false)

  pub head-splits : (hs ts : List Token) → list_all is_single hs ≡ true → (text : List ℕ)
      → matches mode case (hs ++ ts) text ≡ (takes_each mode case hs (take (length hs) text) && matches mode case ts (drop (length hs) text))
  unfolding matches
  head-splits [] ts h text = refl
  head-splits (One s ∷ hs) ts h [] = refl
  head-splits (One s ∷ hs) ts h (b ∷ bs) =
      rw (head-splits hs ts h bs) (front-cases (takes mode case s b) (takes_each mode case hs (take (length hs) bs)) (matches mode case ts (drop (length hs) bs)))
  head-splits (Star ∷ hs) ts h text = cc
  head-splits (Deep ∷ hs) ts h text = cc

  -- ---- a tail

  -- tokens for one byte each take a text one by one
  plain-matches : (ss : List Token) → list_all is_single ss ≡ true → (text : List ℕ) → matches mode case ss text ≡ takes_each mode case ss text
  unfolding matches
  plain-matches [] h text = refl
  plain-matches (One s ∷ ss) h [] = refl
  plain-matches (One s ∷ ss) h (b ∷ bs) = rw (plain-matches ss h bs) refl
  plain-matches (Star ∷ ss) h text = cc
  plain-matches (Deep ∷ ss) h text = cc

  -- they take the end of a text
  abbrev ends : List Token → List ℕ → Bool
  ends ss text = takes_each mode case ss (drop (length text - length ss) text)

  -- they take the end, and what stands before it passes
  abbrev before : List Token → (List ℕ → Bool) → List ℕ → Bool
  before ss f text = ends ss text && f (take (length text - length ss) text)

  some-front : (n : ℕ) (text : List ℕ) → n ≤ length text → 0 < n → is_empty (take n text) ≡ false
  some-front zero text h g = absurd (let no : ⊥ = omega arith in no)
  some-front (suc n) [] h g = absurd (let no : ⊥ = omega arith in no)
  some-front (suc n) (b ∷ bs) h g = refl

  tail-alone : (ss : List Token) (text : List ℕ) → takes_each mode case ss text ≡ before ss is_empty text
  tail-alone ss text = elim (cases_lt (length ss) (length text)) [
    | inr g ↦
        let n : length text - length ss ≡ 0 = omega arith in
        rw n (sym (and-true (takes_each mode case ss text)))
    | inl l ↦
        let off : takes_each mode case ss text ≡ false = takes_each-apart ss text (λ e. omega arith) in
        rw (off, some-front (length text - length ss) text (omega arith) (omega arith)) (sym (and-false (ends ss text)))
  ]

  one-cases : (t e m : Bool) → (t && (e && m)) ≡ (e && (t && m))
  one-cases t e m = grind (arith, or-false)

  -- one byte more before what ends so
  one-before : (ss : List Token) (take1 : ℕ → Bool) (f : List ℕ → Bool) (text : List ℕ)
      → takes_first take1 (before ss f) text ≡ before ss (takes_first take1 f) text
  one-before ss take1 f [] = let n : 0 - length ss ≡ 0 = omega arith in rw n (sym (and-false (takes_each mode case ss [])))
  one-before ss take1 f (b ∷ bs) = elim (cases_lt (length bs) (length ss)) [
    | inl l ↦
        let n : suc (length bs) - length ss ≡ 0 = omega arith in
        let m : length bs - length ss ≡ 0 = omega arith in
        let off : takes_each mode case ss bs ≡ false = takes_each-apart ss bs (λ e. omega arith) in
        rw (n, m, off, and-false (take1 b)) (sym (and-false (takes_each mode case ss (b ∷ bs))))
    | inr g ↦
        let n : suc (length bs) - length ss ≡ suc (length bs - length ss) = omega arith in
        rw n (one-cases (take1 b) (takes_each mode case ss (drop (length bs - length ss) bs)) (f (take (length bs - length ss) bs)))
  ]

  any-cases : (e a k w : Bool) → ((e && a) || (k && (e && w))) ≡ (e && (a || (k && w)))
  any-cases e a k w = grind (arith, or-false)

  none-cases : (x k y : Bool) → (x || (k && (false && y))) ≡ x
  none-cases x k y = grind (arith, or-false)

  -- any number of bytes more
  any-before : (ss : List Token) (skip : ℕ → Bool) (f : List ℕ → Bool) (text : List ℕ)
      → some_suffix skip (before ss f) text ≡ before ss (some_suffix skip f) text
  any-before ss skip f [] = let n : 0 - length ss ≡ 0 = omega arith in rw n refl
  any-before ss skip f (b ∷ bs) =
      let ih = any-before ss skip f bs in
      elim (cases_lt (length bs) (length ss)) [
        | inl l ↦
            let n : suc (length bs) - length ss ≡ 0 = omega arith in
            let m : length bs - length ss ≡ 0 = omega arith in
            let off : takes_each mode case ss bs ≡ false = takes_each-apart ss bs (λ e. omega arith) in
            rw (ih, n, m, off) (none-cases (takes_each mode case ss (b ∷ bs) && f []) (skip b) (some_suffix skip f []))
        | inr g ↦
            let n : suc (length bs) - length ss ≡ suc (length bs - length ss) = omega arith in
            let front = take (length bs - length ss) bs in
            rw (ih, n) (any-cases (takes_each mode case ss (drop (length bs - length ss) bs)) (f (b ∷ front)) (skip b) (some_suffix skip f front))
      ]

  suffix-same : (skip : ℕ → Bool) (f g : List ℕ → Bool) → ((v : List ℕ) → f v ≡ g v) → (text : List ℕ) → some_suffix skip f text ≡ some_suffix skip g text
  suffix-same skip f g same [] = same []
  suffix-same skip f g same (b ∷ bs) = rw (same (b ∷ bs), suffix-same skip f g same bs) refl

  first-same : (take1 : ℕ → Bool) (f g : List ℕ → Bool) → ((v : List ℕ) → f v ≡ g v) → (text : List ℕ) → takes_first take1 f text ≡ takes_first take1 g text
  first-same take1 f g same [] = refl
  first-same take1 f g same (b ∷ bs) = rw (same bs) refl

  -- deep at the end of what stands before
  deep-end : (text : List ℕ) → some_suffix (λ b. true) is_empty text ≡ true
  deep-end [] = refl
  deep-end (b ∷ bs) = deep-end bs

  deep-alone : (ss : List Token) → list_all is_single ss ≡ true → may_pass_over_at mode (Deep ∷ ss) ≡ false → (text : List ℕ)
      → matches mode case (Deep ∷ ss) text ≡ before ss (λ v. true) text
  unfolding matches
  deep-alone [] h off text =
      let n : length text - 0 ≡ length text = omega arith in
      rw (n, drop-length text) refl
  deep-alone (s ∷ ss) h off text =
      let same : (v : List ℕ) → matches mode case (s ∷ ss) v ≡ before (s ∷ ss) is_empty v = λ v. plain-matches (s ∷ ss) h v ∙ tail-alone (s ∷ ss) v in
      rw (off, or-false (some_suffix (λ b. true) (matches mode case (s ∷ ss)) text), suffix-same (λ b. true) (matches mode case (s ∷ ss)) (before (s ∷ ss) is_empty) same text, any-before (s ∷ ss) (λ b. true) is_empty text, deep-end (take (length text - suc (length ss)) text)) refl

  deep-cases : (e a p m : Bool) → ((e && a) || (p && (e && m))) ≡ (e && (a || (p && m)))
  deep-cases e a p m = grind (arith, or-false)

  stands-behind : (t : Token) (ts ss : List Token) → stands mode (t ∷ ts) ss ≡ true → stands mode ts ss ≡ true
  stands-behind t [] ss h = refl
  stands-behind t (u ∷ ts) ss h = h

  -- Tokens match where a tail behind them takes the end, and they match what stands before.
  pub tail-splits : (ts ss : List Token) → list_all is_single ss ≡ true → stands mode ts ss ≡ true → (text : List ℕ)
      → matches mode case (ts ++ ss) text ≡ before ss (matches mode case ts) text
  unfolding matches
  tail-splits [] ss h s text = plain-matches ss h text ∙ tail-alone ss text
  tail-splits (One single ∷ ts) ss h s text =
      first-same (takes mode case single) (matches mode case (ts ++ ss)) (before ss (matches mode case ts)) (tail-splits ts ss h (stands-behind (One single) ts ss s)) text
      ∙ one-before ss (takes mode case single) (matches mode case ts) text
  tail-splits (Star ∷ ts) ss h s text =
      suffix-same (λ b. not (b == slash)) (matches mode case (ts ++ ss)) (before ss (matches mode case ts)) (tail-splits ts ss h (stands-behind Star ts ss s)) text
      ∙ any-before ss (λ b. not (b == slash)) (matches mode case ts) text
  tail-splits (Deep ∷ []) ss h s text = deep-alone ss h (not-true (may_pass_over_at mode (Deep ∷ ss)) s) text
  tail-splits (Deep ∷ t ∷ ts) ss h s text =
      rw (
        suffix-same (λ b. true) (matches mode case (t ∷ (ts ++ ss))) (before ss (matches mode case (t ∷ ts))) (tail-splits (t ∷ ts) ss h s) text,
        any-before ss (λ b. true) (matches mode case (t ∷ ts)) text,
        tail-splits ts ss h (stands-behind t ts ss s) text,
      )
      (deep-cases (ends ss text) (some_suffix (λ b. true) (matches mode case (t ∷ ts)) (take (length text - length ss) text)) (passes_over mode t) (matches mode case ts (take (length text - length ss) text)))

  -- ---- all parts

  -- a tail stands behind more tokens, too
  stands-behind_head : (hs ms ss : List Token) → list_all is_single hs ≡ true → stands mode ms ss ≡ true → stands mode (hs ++ ms) ss ≡ true
  stands-behind_head [] ms ss h s = s
  stands-behind_head (One single ∷ []) [] [] h s = refl
  stands-behind_head (One single ∷ []) [] (u ∷ ss) h s = refl
  stands-behind_head (One single ∷ []) (m ∷ ms) ss h s = s
  stands-behind_head (One single ∷ t ∷ hs) ms ss h s = stands-behind_head (t ∷ hs) ms ss h s
  stands-behind_head (Star ∷ hs) ms ss h s = cc
  stands-behind_head (Deep ∷ hs) ms ss h s = cc

  -- the head takes a front, and what stands behind it passes
  abbrev after : List Token → (List ℕ → Bool) → List ℕ → Bool
  after hs f text = takes_each mode case hs (take (length hs) text) && f (drop (length hs) text)

  pub parts-match : (ts : List Token) (text : List ℕ)
      → matches mode case ts text ≡ before (tail_of mode ts) (after (head_of ts) (matches mode case (middle_of mode ts))) text
  parts-match ts text =
      let head = head_of ts in
      let middle = middle_of mode ts in
      let tail = tail_of mode ts in
      let front = take (length text - length tail) text in
      ap (λ x. matches mode case x text) (sym (append_assoc head middle tail ∙ parts-all mode ts))
      ∙ tail-splits (head ++ middle) tail (tail-singles mode ts) (stands-behind_head head middle tail (head-singles ts) (tail-stands mode ts)) text
      ∙ ap (λ x. ends tail text && x) (head-splits head middle (head-singles ts) front)

  -- ---- one token for any number of bytes

  star-alone : (text : List ℕ) → some_suffix (λ b. not (b == slash)) (matches mode case []) text ≡ list_all (λ b. not (b == slash)) text
  unfolding matches
  star-alone [] = refl
  star-alone (b ∷ bs) = rw (star-alone bs) refl

  pub wide-alone : (ts : List Token) (text : List ℕ) → length ts ≡ 1 → is_wide_at ts ≡ true → matches mode case ts text ≡ first_token_takes ts text
  unfolding matches
  wide-alone [] text one h = cc
  wide-alone (One s ∷ ts) text one h = cc
  wide-alone (Star ∷ []) text one h = star-alone text
  wide-alone (Deep ∷ []) text one h = refl
  wide-alone (Star ∷ t ∷ ts) text one h = absurd (let no : ⊥ = omega arith in no)
  wide-alone (Deep ∷ t ∷ ts) text one h = absurd (let no : ⊥ = omega arith in no)

-- ---- deep, a slash that it may stand for nothing with, and star

same-slash : (case : Case) → is_same_byte case slash slash ≡ true
same-slash Sensitive = refl
same-slash Fold = refl

slash-taken : (case : Case) (b : ℕ) → (is_same_byte case slash b || not (b == slash)) ≡ true
slash-taken case b = elim (cases_Bool (b == slash)) [
  | inl e ↦ rw (eqb-true b slash e, same-slash case) refl
  | inr e ↦ or_right (is_same_byte case slash b) (not (b == slash)) (rw e refl)
]

byte-cases : (t a s n : Bool) → (t || n) ≡ true → (s || a) ≡ true → (((t && a) || s) || (n && a)) ≡ true
byte-cases t a s n h k = grind (arith, or-false, h, k)

-- star takes what stands behind the last slash of a text, or all of it
behind-slash : (case : Case) (text : List ℕ)
    → (some_suffix (λ b. true) (matches PathAware case (One (Byte slash) ∷ Star ∷ [])) text || list_all (λ b. not (b == slash)) text) ≡ true
unfolding matches
behind-slash case [] = refl
behind-slash case (b ∷ bs) =
    rw (star-alone PathAware case bs)
    (byte-cases (is_same_byte case slash b) (list_all (λ b. not (b == slash)) bs) (some_suffix (λ b. true) (matches PathAware case (One (Byte slash) ∷ Star ∷ [])) bs) (not (b == slash)) (slash-taken case b) (behind-slash case bs))

-- so the three take any text
any-taken : (mode : Mode) (case : Case) (t next : Token) (ts : List Token) (text : List ℕ) → may_pass_over_at mode (t ∷ next ∷ ts) ≡ true
    → matches mode case (t ∷ next ∷ Star ∷ []) text ≡ first_token_takes (t ∷ next ∷ ts) text
unfolding matches
any-taken mode case (One s) next ts text over = cc
any-taken mode case Star next ts text over = cc
any-taken Shell case Deep next ts text over = cc
any-taken PathAware case Deep next ts text over = rw (passed PathAware next over, star-alone PathAware case text) (behind-slash case text)

-- as deep alone does
pub deep-slash_star : (mode : Mode) (case : Case) (ts : List Token) (text : List ℕ) → length ts ≡ 3 → drop 2 ts ≡ Star ∷ drop 3 ts → may_pass_over_at mode ts ≡ true
    → matches mode case ts text ≡ first_token_takes ts text
deep-slash_star mode case [] text three third over = cc
deep-slash_star mode case (t ∷ []) text three third over = cc
deep-slash_star mode case (t ∷ u ∷ []) text three third over = absurd (let no : ⊥ = omega arith in no)
deep-slash_star mode case (t ∷ u ∷ v ∷ []) text three third over = ap (λ ts. matches mode case (t ∷ u ∷ ts) text) third ∙ any-taken mode case t u (v ∷ []) text over
deep-slash_star mode case (t ∷ u ∷ v ∷ w ∷ ts) text three third over = absurd (let no : ⊥ = omega arith in no)
