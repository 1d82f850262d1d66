-- The byte that every text ends with that a pattern matches as a glob.
use Rattle.std.proofs.Common.{◌≡◌, ℕ, zero, suc, ◌+◌, ◌-◌, ◌<◌, ◌≤◌, ◌==◌, Bool, true, false, not, ◌&&◌, ◌||◌, inl, inr, refl, sym, ◌∙◌, ap, subst, arith, List, [], ◌∷◌, drop, length, get_or, IfSome, Option, Some, None, if◌then◌else◌}
use Rattle.std.proofs.lemmas.Bool.{and_parts, or_cases, or_parts, cases_Bool, eqb-true, eq-eqb, not-true}
use Rattle.std.proofs.Math.Bool.{and-false}
use Rattle.std.specs.Prelude.{codes}
use Rattle.std.specs.List.{prefix_len}
use Rattle.pathspec_glob.proofs.Words.{Mode, Shell, PathAware, Case, backslash, close_bracket, first_is, is_one_of, is_wildcard, open_bracket, question_mark, slash, star, Token, OneByte, Item, Items, Front, bracket_piece, bracket_with, bytes_of, front_of, item_before, items_from, items_with, run_token, single_of, token_before, tokens, tokens_from, Listed, Closed, Broken, Byte, Quoted, Any, Bracket, Dead, One, Star, Deep, is_same_byte, matches, passes_over, some_suffix, takes, last_byte, is_own_end, ends_with_byte, MatchHasOwnEnd}
use Rattle.pathspec_glob.proofs.TailProofs.{plain_piece}

-- ---- tokens of which the last takes one byte alone, or none

abbrev wants : ℕ → Token → Bool
wants byte (One (Byte b)) = b == byte
wants byte (One (Quoted b)) = b == byte
wants byte (One Dead) = true
wants byte _ = false

abbrev ends_in : ℕ → List Token → Bool
ends_in byte [] = false
ends_in byte (t ∷ []) = wants byte t
ends_in byte (t ∷ u ∷ ts) = ends_in byte (u ∷ ts)

-- ---- texts that such tokens match

-- the last byte of a text with one byte more before it
last-more : (case : Case) (x : ℕ) (text : List ℕ) (byte : ℕ) → ends_with_byte case text byte ≡ true → ends_with_byte case (x ∷ text) byte ≡ true
last-more case x [] byte h = cc
last-more case x (y ∷ ys) byte h =
    let n : suc (suc (length ys)) - 1 ≡ suc (suc (length ys) - 1) = omega arith in
    rw n h

module _ (mode : Mode) (case : Case) (byte : ℕ) (no_slash : (byte == slash) ≡ false) where
  -- some end of a text ends as the text does
  suffix-ends : (skip : ℕ → Bool) (test : List ℕ → Bool) → ((v : List ℕ) → test v ≡ true → ends_with_byte case v byte ≡ true)
      → (text : List ℕ) → some_suffix skip test text ≡ true → ends_with_byte case text byte ≡ true
  suffix-ends skip test h [] e = h [] e
  suffix-ends skip test h (b ∷ bs) e = elim (or_cases (test (b ∷ bs)) (skip b && some_suffix skip test bs) e) [
    | inl t ↦ h (b ∷ bs) t
    | inr r ↦ last-more case b bs byte (suffix-ends skip test h bs (and_parts (skip b) (some_suffix skip test bs) r).1)
  ]

  single-ends : (single : OneByte) (x : ℕ) → wants byte (One single) ≡ true → takes mode case single x ≡ true → is_same_byte case byte x ≡ true
  single-ends (Byte b) x w h = subst (λ c. is_same_byte case c x ≡ true) (eqb-true b byte w) h
  single-ends (Quoted b) x w h = subst (λ c. is_same_byte case c x ≡ true) (eqb-true b byte w) h
  single-ends Any x w h = cc
  single-ends (Bracket negated items) x w h = cc
  single-ends Dead x w h = cc

  -- a token that may be passed over is a slash
  over-wants : (m : Mode) (t : Token) → passes_over m t ≡ true → wants byte t ≡ true → false ≡ true
  over-wants PathAware (One (Byte b)) p w =
      let e : b ≡ byte = eqb-true b byte w in
      sym no_slash ∙ (ap (λ c. c == slash) (sym e) ∙ p)
  over-wants PathAware (One (Quoted b)) p w = cc
  over-wants PathAware (One Any) p w = cc
  over-wants PathAware (One (Bracket negated items)) p w = cc
  over-wants PathAware (One Dead) p w = cc
  over-wants PathAware Star p w = cc
  over-wants PathAware Deep p w = cc
  over-wants Shell t p w = cc

  matched-ends : (ts : List Token) (text : List ℕ) → ends_in byte ts ≡ true → matches mode case ts text ≡ true → ends_with_byte case text byte ≡ true
  unfolding matches
  matched-ends [] text e h = cc
  matched-ends (One single ∷ []) [] e h = cc
  matched-ends (One single ∷ []) (x ∷ []) e h = single-ends single x e (and_parts (takes mode case single x) true h).0
  matched-ends (One single ∷ []) (x ∷ y ∷ ys) e h = let no : false ≡ true = (and_parts (takes mode case single x) false h).1 in cc
  matched-ends (One single ∷ u ∷ ts) [] e h = cc
  matched-ends (One single ∷ u ∷ ts) (x ∷ text) e h =
      last-more case x text byte (matched-ends (u ∷ ts) text e (and_parts (takes mode case single x) (matches mode case (u ∷ ts) text) h).1)
  matched-ends (Star ∷ []) text e h = cc
  matched-ends (Star ∷ u ∷ ts) text e h = suffix-ends (λ b. not (b == slash)) (matches mode case (u ∷ ts)) (λ v. matched-ends (u ∷ ts) v e) text h
  matched-ends (Deep ∷ []) text e h = cc
  matched-ends (Deep ∷ u ∷ []) text e h = elim (or_cases (some_suffix (λ b. true) (matches mode case (u ∷ [])) text) (passes_over mode u && matches mode case [] text) h) [
    | inl s ↦ suffix-ends (λ b. true) (matches mode case (u ∷ [])) (λ v. matched-ends (u ∷ []) v e) text s
    | inr o ↦ let no = over-wants mode u (and_parts (passes_over mode u) (matches mode case [] text) o).0 e in cc
  ]
  matched-ends (Deep ∷ u ∷ w ∷ ts) text e h = elim (or_cases (some_suffix (λ b. true) (matches mode case (u ∷ w ∷ ts)) text) (passes_over mode u && matches mode case (w ∷ ts) text) h) [
    | inl s ↦ suffix-ends (λ b. true) (matches mode case (u ∷ w ∷ ts)) (λ v. matched-ends (u ∷ w ∷ ts) v e) text s
    | inr o ↦ matched-ends (w ∷ ts) text e (and_parts (passes_over mode u) (matches mode case (w ∷ ts) text) o).1
  ]

-- ---- patterns whose last byte stands for itself

-- the last byte of a list
abbrev LastIs : ℕ → List ℕ → Type 0
LastIs byte [] = ⊥
LastIs byte (b ∷ []) = b ≡ byte
LastIs byte (b ∷ c ∷ cs) = LastIs byte (c ∷ cs)

last-is : (b : ℕ) (bs : List ℕ) → LastIs (last_byte (b ∷ bs)) (b ∷ bs)
last-is b [] = refl
last-is b (c ∷ cs) =
    let n : suc (suc (length cs)) - 1 ≡ suc (suc (length cs) - 1) = omega arith in
    subst (λ n. LastIs (get_or (b ∷ c ∷ cs) n 0) (c ∷ cs)) (sym n) (last-is c cs)

module _ (byte : ℕ) (plain : is_wildcard byte ≡ false) (open_end : (byte == close_bracket) ≡ false) where
  -- a list with another last byte doesn't pass whole
  run-short : (test : ℕ → Bool) → test byte ≡ false → (bs : List ℕ) → LastIs byte bs → prefix_len test bs < length bs
  run-short test off [] is = absurd is
  run-short test off (b ∷ []) is = let e : test b ≡ false = ap test is ∙ off in rw e (omega arith)
  run-short test off (b ∷ c ∷ cs) is =
      let more = run-short test off (c ∷ cs) is in
      elim (cases_Bool (test b)) [
        | inl t ↦ rw t (omega (arith, more))
        | inr f ↦ rw f (omega arith)
      ]

  -- no bracket closes with the last byte
  lone-open : (first : Bool) (last : Option ℕ) (b : ℕ) → b ≡ byte → items_from zero first last (b ∷ []) ≡ None
  lone-open first last b is =
      let shut : (b == close_bracket) ≡ false = ap (λ x. x == close_bracket) is ∙ open_end in
      elim (cases_Bool (b == backslash)) [
        | inl t ↦ rw (shut, t) refl
        | inr f ↦ rw (shut, f, and-false, and-false, and-false) refl
      ]

  listed-left : (item : Item) (o : Option Items) (read : Items) → ((r : Items) → o ≡ Some r → 1 ≤ length r.rest) → item_before item o ≡ Some read → 1 ≤ length read.rest
  listed-left item None read more e = cc
  listed-left item (Some others) read more e = subst (λ o. IfSome o (λ (r : Items). 1 ≤ length r.rest)) e (more others refl)

  items-left : (skip : ℕ) (first : Bool) (last : Option ℕ) (bs : List ℕ) (read : Items) → LastIs byte bs → items_from skip first last bs ≡ Some read → 1 ≤ length read.rest
  items-left skip first last [] read is h = absurd is
  items-left (suc k) first last (b ∷ []) read is h = cc
  items-left (suc k) first last (b ∷ c ∷ cs) read is h = items-left k first last (c ∷ cs) read is h
  items-left zero first last (b ∷ []) read is h = let none = sym (lone-open first last b is) ∙ h in cc
  items-left zero first last (b ∷ c ∷ cs) read is h = at (λ skip next r. items-left skip false next (c ∷ cs) r is) (front_of first last (b ∷ c ∷ cs)) h
    where
      at : ((skip : ℕ) (next : Option ℕ) (r : Items) → items_from skip false next (c ∷ cs) ≡ Some r → 1 ≤ length r.rest)
          → (front : Front) → items_with front (c ∷ cs) (items_from (bytes_of front - 1) false (single_of front) (c ∷ cs)) ≡ Some read → 1 ≤ length read.rest
      at more (Listed item size) e = listed-left item (items_from (size - 1) false (single_of (Listed item size)) (c ∷ cs)) read (more (size - 1) (single_of (Listed item size))) e
      at more Closed e = let some : 1 ≤ length (c ∷ cs) = omega arith in subst (λ o. IfSome o (λ (r : Items). 1 ≤ length r.rest)) e some
      at more Broken e = cc

  -- ---- tokens of such a pattern

  abbrev reads : Mode → ℕ → Bool → List ℕ → Type 0
  reads mode skip after_slash pattern = ends_in byte (tokens_from mode skip after_slash pattern) ≡ true

  -- a token before those that end so
  before-ends : (t : Token) (others : List Token) → ends_in byte others ≡ true → ends_in byte (token_before t others) ≡ true
  before-ends t [] h = cc
  before-ends (One (Byte b)) (u ∷ ts) h = h
  before-ends (One (Quoted b)) (u ∷ ts) h = h
  before-ends (One Any) (u ∷ ts) h = h
  before-ends (One (Bracket negated items)) (u ∷ ts) h = h
  before-ends (One Dead) (u ∷ ts) h = refl
  before-ends Star (u ∷ ts) h = h
  before-ends Deep (u ∷ ts) h = h

  bracket-ends : (negated : Bool) (len : ℕ) (o : Option Items) (rest : ℕ → List Token) → 1 ≤ len → ((r : Items) → o ≡ Some r → 1 ≤ length r.rest)
      → ((skip : ℕ) → skip < len → ends_in byte (rest skip) ≡ true) → ends_in byte (token_before (bracket_with negated len o).token (rest ((bracket_with negated len o).size - 1))) ≡ true
  bracket-ends negated len None rest some left more = refl
  bracket-ends negated len (Some read) rest some left more =
      let l = left read refl in
      before-ends (One (Bracket negated read.items)) (rest (len + 1 - length read.rest - 1)) (more (len + 1 - length read.rest - 1) (omega (arith, l, some)))

  negated-left : (negated : Bool) (c : ℕ) (cs : List ℕ) (read : Items) → LastIs byte (c ∷ cs) → items_from 0 true None (if negated then drop 1 (c ∷ cs) else c ∷ cs) ≡ Some read → 1 ≤ length read.rest
  negated-left true c [] read is h = cc
  negated-left true c (d ∷ cs) read is h = items-left 0 true None (d ∷ cs) read is h
  negated-left false c cs read is h = items-left 0 true None (c ∷ cs) read is h

  star_off : (byte == star) ≡ false
  star_off = (or_parts (byte == star) ((byte == question_mark) || ((byte == open_bracket) || ((byte == backslash) || false))) plain).0

  escaped-ends : (mode : Mode) (c : ℕ) (cs : List ℕ) → LastIs byte (c ∷ cs) → ((skip : ℕ) (after_slash : Bool) → skip < length (c ∷ cs) → reads mode skip after_slash (c ∷ cs))
      → (after_slash : Bool) → ends_in byte (token_before (One (Quoted c)) (tokens_from mode 1 after_slash (c ∷ cs))) ≡ true
  unfolding tokens_from
  escaped-ends mode c [] is more after_slash = eq-eqb c byte is
  escaped-ends mode c (d ∷ cs) is more after_slash = before-ends (One (Quoted c)) (tokens_from mode 1 after_slash (c ∷ d ∷ cs)) (more 1 after_slash (omega arith))

  bracket : (mode : Mode) (c : ℕ) (cs : List ℕ) → LastIs byte (c ∷ cs) → ((skip : ℕ) (after_slash : Bool) → skip < length (c ∷ cs) → reads mode skip after_slash (c ∷ cs))
      → ends_in byte (token_before (bracket_piece (c ∷ cs)).token (tokens_from mode ((bracket_piece (c ∷ cs)).size - 1) false (c ∷ cs))) ≡ true
  bracket mode c cs is more =
      let negated = first_is (is_one_of (codes "!^")) (c ∷ cs) in
      bracket-ends negated (length (c ∷ cs)) (items_from 0 true None (if negated then drop 1 (c ∷ cs) else c ∷ cs)) (λ skip. tokens_from mode skip false (c ∷ cs)) (omega arith) (λ r o. negated-left negated c cs r is o) (λ skip l. more skip false l)

  run : (mode : Mode) (after_slash : Bool) (c : ℕ) (cs : List ℕ) → LastIs byte (c ∷ cs) → ((skip : ℕ) (after_slash : Bool) → skip < length (c ∷ cs) → reads mode skip after_slash (c ∷ cs))
      → reads mode 0 after_slash (star ∷ c ∷ cs)
  unfolding tokens_from
  run mode after_slash c cs is more =
      let text = star ∷ c ∷ cs in
      let size = prefix_len (λ x. x == star) text in
      let short : size < length text = run-short (λ x. x == star) star_off text is in
      before-ends (run_token mode after_slash size (drop size text)) (tokens_from mode (size - 1) false (c ∷ cs)) (more (size - 1) false (omega (arith, short)))

  read-ends : (mode : Mode) (pattern : List ℕ) → LastIs byte pattern → (skip : ℕ) (after_slash : Bool) → skip < length pattern → reads mode skip after_slash pattern
  unfolding tokens_from
  read-ends mode [] is skip after_slash l = absurd is
  read-ends mode (b ∷ []) is (suc k) after_slash l = absurd (omega (arith, l))
  read-ends mode (b ∷ []) is zero after_slash l =
      let own : is_wildcard b ≡ false = ap is_wildcard is ∙ plain in
      rw (plain_piece mode after_slash b [] own) (eq-eqb b byte is)
  read-ends mode (b ∷ c ∷ cs) is (suc k) after_slash l = read-ends mode (c ∷ cs) is k (b == slash) (omega (arith, l))
  read-ends mode (b ∷ c ∷ cs) is zero after_slash l =
      let more : (skip : ℕ) (after : Bool) → skip < length (c ∷ cs) → reads mode skip after (c ∷ cs) = read-ends mode (c ∷ cs) is in
      let some : 1 ≤ length (c ∷ cs) = omega arith in
      elim (cases_Bool (b == backslash)) [
        | inl t ↦ subst (λ x. reads mode 0 after_slash (x ∷ c ∷ cs)) (sym (eqb-true b backslash t)) (escaped-ends mode c cs is more false)
        | inr f ↦ elim (cases_Bool (b == question_mark)) [
          | inl q ↦ subst (λ x. reads mode 0 after_slash (x ∷ c ∷ cs)) (sym (eqb-true b question_mark q)) (before-ends (One Any) (tokens_from mode 0 false (c ∷ cs)) (more 0 false some))
          | inr q ↦ elim (cases_Bool (b == open_bracket)) [
            | inl o ↦ subst (λ x. reads mode 0 after_slash (x ∷ c ∷ cs)) (sym (eqb-true b open_bracket o)) (bracket mode c cs is more)
            | inr o ↦ elim (cases_Bool (b == star)) [
              | inl s ↦ subst (λ x. reads mode 0 after_slash (x ∷ c ∷ cs)) (sym (eqb-true b star s)) (run mode after_slash c cs is more)
              | inr s ↦ rw (f, q, o, s) (before-ends (One (Byte b)) (tokens_from mode 0 (b == slash) (c ∷ cs)) (more 0 (b == slash) some))
            ]
          ]
        ]
      ]

own-parts : (b : ℕ) → is_own_end b ≡ true → (is_wildcard b ≡ false) × ((b == close_bracket) ≡ false) × ((b == slash) ≡ false)
own-parts b h =
    let p = or_parts (is_wildcard b) ((b == close_bracket) || (b == slash)) (not-true (is_wildcard b || ((b == close_bracket) || (b == slash))) h) in
    let q = or_parts (b == close_bracket) (b == slash) p.1 in
    (p.0, q.0, q.1)

-- Every text that a pattern matches ends with the pattern's last byte, where that stands for itself.
pub own-ends : MatchHasOwnEnd
own-ends [] byte is mode case text h = cc
own-ends (b ∷ bs) byte is mode case text h = at (is_own_end (last_byte (b ∷ bs))) refl is
  where
    at : (own : Bool) → is_own_end (last_byte (b ∷ bs)) ≡ own → (if own then Some (last_byte (b ∷ bs)) else None) ≡ Some byte → ends_with_byte case text byte ≡ true
    at false e o = cc
    at true e o =
        let last = last_byte (b ∷ bs) in
        let p = own-parts last e in
        let ends : ends_in last (tokens mode (b ∷ bs)) ≡ true = read-ends last p.0 p.1 mode (b ∷ bs) (last-is b bs) 0 true (omega arith) in
        let found : ends_with_byte case text last ≡ true = matched-ends mode case last p.2 (tokens mode (b ∷ bs)) text ends h in
        let same : last ≡ byte = cc in
        subst (λ x. ends_with_byte case text x ≡ true) same found
