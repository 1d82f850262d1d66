-- Patterns as tokens: how many bytes a token takes, what follows it, and that there are few.
use Rattle.std.proofs.Common.{◌≡◌, ℕ, zero, suc, ◌+◌, ◌-◌, ◌<◌, ◌≤◌, ◌==◌, Bool, true, false, inl, inr, refl, ap, subst, sym, ◌∙◌, List, [], ◌∷◌, ◌++◌, length, get_or, drop, map, codes, Option, Some, None, if◌then◌else◌, arith, append_assoc, append-nil}
use Rattle.std.specs.List.{prefix_len}
use Rattle.std.proofs.lemmas.Bool.{cases_Bool}
use Rattle.std.proofs.lemmas.List.{length-map}
use Rattle.std.proofs.lemmas.List.Sums.{prefix_len-le-length}
use Rattle.std.proofs.Math.ListN.{drop_of_length-le}
use Rattle.std.proofs.Math.Numerals.{one-add, add-one}
use Rattle.pathspec_glob.proofs.Words.{Mode, Shell, PathAware, slash, star, question_mark, open_bracket, backslash, is_one_of, first_is, Items, Front, Token, Piece, front_of, single_of, bytes_of, items_with, items_from, escaped_piece, bracket_with, bracket_piece, is_deep, run_token, run_piece, piece_of, token_before, tokens_from, tokens, Listed, Closed, Broken, Byte, Quoted, Any, Bracket, Dead, One, Star, Deep, items_hold, literals, listed, listed_piece, listed_tokens, ReadsOn}
use Rattle.pathspec_glob.proofs.ByteSetProofs.{literals-same}

-- a bracket's items end before the bytes do
items_with-shorter : (front : Front) (bs : List ℕ) (others : Option Items) (read : Items) → ((o : Items) → others ≡ Some o → length o.rest < length bs) → items_with front bs others ≡ Some read → length read.rest < suc (length bs)
items_with-shorter (Listed item size) bs None read below e = absurd (let no : ⊥ = cc in no)
items_with-shorter (Listed item size) bs (Some o) read below e =
    let whole : Items = record { items = item ∷ o.items; rest = o.rest } in
    let same : whole ≡ read = cc in
    let len : length o.rest ≡ length read.rest = ap (λ r. length r.rest) same in
    let less : length o.rest < length bs = below o refl in
    omega arith
items_with-shorter Closed bs others read below e =
    let whole : Items = record { items = []; rest = bs } in
    let same : whole ≡ read = cc in
    let len : length bs ≡ length read.rest = ap (λ r. length r.rest) same in
    omega arith
items_with-shorter Broken bs others read below e = absurd (let no : ⊥ = cc in no)

pub items-shorter : (skip : ℕ) (first : Bool) (last : Option ℕ) (text : List ℕ) (read : Items) → items_from skip first last text ≡ Some read → length read.rest < length text
items-shorter skip first last [] read e = absurd (let no : ⊥ = cc in no)
items-shorter (suc skip) first last (b ∷ bs) read e =
    let less : length read.rest < length bs = items-shorter skip first last bs read e in
    omega arith
items-shorter zero first last (b ∷ bs) read e =
    let front : Front = front_of first last (b ∷ bs) in
    items_with-shorter front bs (items_from (bytes_of front - 1) false (single_of front) bs) read (λ o is. items-shorter (bytes_of front - 1) false (single_of front) bs o is) e

-- a piece takes a byte at least, and at most those that are there, where so many follow the first
pub record Within (piece : Piece) (more : ℕ) : Type 0 where
  pub some : 1 ≤ piece.size
  pub all : piece.size ≤ more + 1

escaped-within : (rest : List ℕ) → Within (escaped_piece rest) (length rest)
escaped-within [] = record { some = omega arith; all = omega arith }
escaped-within (x ∷ rest) = record { some = omega arith; all = omega arith }

bracket_with-within : (negated : Bool) (len : ℕ) (found : Option Items) → ((read : Items) → found ≡ Some read → length read.rest ≤ len) → Within (bracket_with negated len found) len
bracket_with-within negated len None below = record { some = omega arith; all = omega arith }
bracket_with-within negated len (Some read) below =
    let left : length read.rest ≤ len = below read refl in
    record { some = omega arith; all = omega arith }

-- the rest after a negation is no longer than with it
listed-within : (negated : Bool) (rest : List ℕ) (read : Items) → items_from 0 true None (if negated then drop 1 rest else rest) ≡ Some read → length read.rest ≤ length rest
listed-within true [] read e = absurd (let no : ⊥ = cc in no)
listed-within true (b ∷ rest) read e =
    let less : length read.rest < length rest = items-shorter 0 true None rest read e in
    omega arith
listed-within false rest read e =
    let less : length read.rest < length rest = items-shorter 0 true None rest read e in
    omega arith

pub bracket-within : (rest : List ℕ) → Within (bracket_piece rest) (length rest)
bracket-within rest =
    let negated : Bool = first_is (is_one_of (codes "!^")) rest in
    bracket_with-within negated (length rest) (items_from 0 true None (if negated then drop 1 rest else rest)) (listed-within negated rest)

pub run-within : (mode : Mode) (after_slash : Bool) (b : ℕ) (rest : List ℕ) → b == star ≡ true → Within (run_piece mode after_slash (prefix_len (λ c. c == star) (b ∷ rest)) (b ∷ rest)) (length rest)
run-within mode after_slash b rest is =
    let stars : ℕ → Bool = λ c. c == star in
    let least : prefix_len stars rest ≤ length rest = prefix_len-le-length stars rest in
    let size : prefix_len stars (b ∷ rest) ≡ 1 + prefix_len stars rest = rw is refl in
    record { some = omega arith; all = omega arith }

pub piece-within : (mode : Mode) (after_slash : Bool) (b : ℕ) (rest : List ℕ) → Within (piece_of mode after_slash b rest) (length rest)
piece-within mode after_slash b rest = elim (cases_Bool (b == backslash)) [
  | inl h ↦ rw h (escaped-within rest)
  | inr h ↦ rw h (elim (cases_Bool (b == question_mark)) [
    | inl i ↦ rw i (record { some = omega arith; all = omega arith })
    | inr i ↦ rw i (elim (cases_Bool (b == open_bracket)) [
      | inl j ↦ rw j (bracket-within rest)
      | inr j ↦ rw j (elim (cases_Bool (b == star)) [
        | inl k ↦ rw k (rw k at (run-within mode after_slash b rest k))
        | inr k ↦ rw k (record { some = omega arith; all = omega arith })
      ])
    ])
  ])
]

-- a run of stars, read after its first
pub run-read : (mode : Mode) (after_slash : Bool) (rest : List ℕ) (more : ℕ) (token : Token) → more ≡ prefix_len (λ c. c == star) rest → token ≡ run_token mode after_slash (more + 1) (drop more rest)
    → record { token = token; size = more + 1 } ≡ run_piece mode after_slash (prefix_len (λ c. c == star) (star ∷ rest)) (star ∷ rest)
run-read mode after_slash rest more token count is = rw (← count, one-add, is, add-one) refl

-- a bracket whose items are a set's
pub bracket-listed : (rest listed : List ℕ) (negated : Bool) (read : Items) (set : ℕ → Bool) → negated ≡ first_is (is_one_of (codes "!^")) rest → listed ≡ (if negated then drop 1 rest else rest)
    → Some read ≡ items_from 0 true None listed → ((b : ℕ) → b < 256 → set b ≡ items_hold read.items b)
    → record { token = One (Bracket negated (literals set)); size = length rest + 1 - length read.rest } ≡ listed_piece (bracket_piece rest)
bracket-listed rest listed negated read set is from found same =
    let items : items_from 0 true None (if negated then drop 1 rest else rest) ≡ Some read = sym (found ∙ ap (items_from 0 true None) from) in
    let whole : bracket_piece rest ≡ record { token = One (Bracket negated read.items); size = length rest + 1 - length read.rest } =
    ap (λ n. bracket_with n (length rest) (items_from 0 true None (if n then drop 1 rest else rest))) (sym is) ∙ ap (bracket_with negated (length rest)) items in
    rw (literals-same 256 set (items_hold read.items) same) (ap listed_piece (sym whole))

-- a run lists nothing
pub run-listed : (mode : Mode) (after_slash : Bool) (run : ℕ) (text : List ℕ) → run_piece mode after_slash run text ≡ listed_piece (run_piece mode after_slash run text)
run-listed Shell after_slash run text = refl
run-listed PathAware after_slash run text = elim (cases_Bool (is_deep after_slash run (drop run text))) [ inl e ↦ rw e refl | inr e ↦ rw e refl ]

-- and goes on
pub run-stands : (mode : Mode) (after_slash : Bool) (run : ℕ) (text : List ℕ) (others : List Token) → let token = (listed_piece (run_piece mode after_slash run text)).token in token_before token others ≡ token ∷ others
run-stands Shell after_slash run text others = refl
run-stands PathAware after_slash run text others = elim (cases_Bool (is_deep after_slash run (drop run text))) [ inl e ↦ rw e refl | inr e ↦ rw e refl ]

-- what follows bytes that belong to a token
skipped : (mode : Mode) (k b : ℕ) (bs : List ℕ) → tokens_from mode k (b == slash) bs ≡ tokens_from mode 0 (get_or (b ∷ bs) k 0 == slash) (drop k bs)
unfolding tokens_from
skipped mode zero b bs = refl
skipped mode (suc k) b [] = refl
skipped mode (suc k) b (c ∷ cs) = skipped mode k c cs

-- a token and what follows it
pub tokens-next : (mode : Mode) (after_slash : Bool) (b : ℕ) (bs : List ℕ) (size : ℕ) (token : Token) → record { token = token; size = size } ≡ piece_of mode after_slash b bs
    → tokens_from mode 0 after_slash (b ∷ bs) ≡ token_before token (tokens_from mode 0 (get_or (b ∷ bs) (size - 1) 0 == slash) (drop size (b ∷ bs)))
unfolding tokens_from
tokens-next mode after_slash b bs zero token is =
    let within = subst (λ p. Within p (length bs)) (sym is) (piece-within mode after_slash b bs) in
    let some : 1 ≤ zero = within.some in
    absurd (omega arith)
tokens-next mode after_slash b bs (suc k) token is =
    let less : suc k - 1 ≡ k = omega arith in
    ap (λ p. token_before p.token (tokens_from mode (p.size - 1) (b == slash) bs)) (sym is) ∙ rw less (ap (token_before token) (skipped mode k b bs))

-- the front of a text that isn't empty is read: its token and what follows it
pub tokens-read : (mode : Mode) (after_slash : Bool) (text : List ℕ) (size : ℕ) (token : Token) → 1 ≤ length text → record { token = token; size = size } ≡ piece_of mode after_slash (get_or text 0 0) (drop 1 text)
    → tokens_from mode 0 after_slash text ≡ token_before token (tokens_from mode 0 (get_or text (size - 1) 0 == slash) (drop size text))
tokens-read mode after_slash [] size token some is = absurd (omega arith)
tokens-read mode after_slash (b ∷ bs) size token some is = tokens-next mode after_slash b bs size token is

-- brackets that list each byte end a pattern where theirs do
before-listed : (token : Token) (others : List Token) → map listed (token_before token others) ≡ token_before (listed token) (map listed others)
before-listed (One Dead) others = refl
before-listed (One (Byte b)) others = refl
before-listed (One (Quoted b)) others = refl
before-listed (One Any) others = refl
before-listed (One (Bracket negated items)) others = refl
before-listed Star others = refl
before-listed Deep others = refl

-- the same of tokens whose brackets list each byte
listed-read : (mode : Mode) (after_slash : Bool) (text : List ℕ) (size : ℕ) (token : Token) → 1 ≤ length text → record { token = token; size = size } ≡ listed_piece (piece_of mode after_slash (get_or text 0 0) (drop 1 text))
    → map listed (tokens_from mode 0 after_slash text) ≡ token_before token (map listed (tokens_from mode 0 (get_or text (size - 1) 0 == slash) (drop size text)))
listed-read mode after_slash text size token some is =
    let piece : Piece = piece_of mode after_slash (get_or text 0 0) (drop 1 text) in
    let P : Piece → Type 0 = λ p. map listed (tokens_from mode 0 after_slash text) ≡ token_before p.token (map listed (tokens_from mode 0 (get_or text (p.size - 1) 0 == slash) (drop p.size text))) in
    subst P (sym is) (ap (map listed) (tokens-read mode after_slash text piece.size piece.token some refl) ∙ before-listed piece.token _)

-- a dead token is the last
pub tokens-last : (mode : Mode) (after_slash : Bool) (all whole : List Token) (text : List ℕ) (size : ℕ) (token : Token) → all ++ map listed (tokens_from mode 0 after_slash text) ≡ whole → 1 ≤ length text
    → record { token = token; size = size } ≡ listed_piece (piece_of mode after_slash (get_or text 0 0) (drop 1 text)) → ((others : List Token) → token_before token others ≡ token ∷ []) → all ++ token ∷ [] ≡ whole
tokens-last mode after_slash all whole text size token so_far some is last =
    ap (λ ts. all ++ ts) (sym (listed-read mode after_slash text size token some is ∙ last _)) ∙ so_far

-- another is not
pub tokens-more : (mode : Mode) (after_slash : Bool) (all whole : List Token) (text : List ℕ) (size : ℕ) (token : Token) → all ++ map listed (tokens_from mode 0 after_slash text) ≡ whole → 1 ≤ length text
    → record { token = token; size = size } ≡ listed_piece (piece_of mode after_slash (get_or text 0 0) (drop 1 text)) → ((others : List Token) → token_before token others ≡ token ∷ others)
    → (all ++ token ∷ []) ++ map listed (tokens_from mode 0 (get_or text (size - 1) 0 == slash) (drop size text)) ≡ whole
tokens-more mode after_slash all whole text size token so_far some is more =
    append_assoc all (token ∷ []) _ ∙ ap (λ ts. all ++ ts) (sym (listed-read mode after_slash text size token some is ∙ more _)) ∙ so_far

-- so a text is read on by one of them
pub reads-on : (mode : Mode) (after_slash : Bool) (b : ℕ) (rest : List ℕ) (old : List Token) (size : ℕ) (token : Token) → record { token = token; size = size } ≡ listed_piece (piece_of mode after_slash b rest)
    → ((others : List Token) → token_before token others ≡ token ∷ others) → ReadsOn mode after_slash (b ∷ rest) old (old ++ token ∷ []) size
reads-on mode after_slash b rest old size token is more =
    let own = piece-within mode after_slash b rest in
    let listed : Within (listed_piece (piece_of mode after_slash b rest)) (length rest) = record { some = own.some; all = own.all } in
    let within = subst (λ piece. Within piece (length rest)) (sym is) listed in
    record {
      some = within.some;
      within = omega (arith, within.all);
      goes_on = tokens-more mode after_slash old _ (b ∷ rest) size token refl (omega arith) is more;
    }

-- no text has no tokens
none-left : (mode : Mode) (after_slash : Bool) (text : List ℕ) → text ≡ [] → map listed (tokens_from mode 0 after_slash text) ≡ []
unfolding tokens_from
none-left mode after_slash [] none = refl
none-left mode after_slash (b ∷ bs) none = cc

-- and to its end by a dead one
pub reads-all : (mode : Mode) (after_slash : Bool) (b : ℕ) (rest : List ℕ) (old : List Token) (size : ℕ) (token : Token) → record { token = token; size = size } ≡ listed_piece (piece_of mode after_slash b rest)
    → ((others : List Token) → token_before token others ≡ token ∷ []) → ReadsOn mode after_slash (b ∷ rest) old (old ++ token ∷ []) (length rest + 1)
reads-all mode after_slash b rest old size token is last =
    let ended : drop (length rest + 1) (b ∷ rest) ≡ [] = drop_of_length-le (b ∷ rest) {i = length rest + 1} (omega arith) in
    record {
      some = omega arith;
      within = omega arith;
      goes_on = ap (λ ts. (old ++ token ∷ []) ++ ts) (none-left mode _ _ ended) ∙ append-nil (old ++ token ∷ []) ∙ tokens-last mode after_slash old _ (b ∷ rest) size token refl (omega arith) is last;
    }

-- after the last byte there are none
pub tokens-all : (mode : Mode) (after_slash : Bool) (all whole : List Token) (text : List ℕ) → all ++ map listed (tokens_from mode 0 after_slash text) ≡ whole → length text < 1 → all ≡ whole
unfolding tokens_from
tokens-all mode after_slash all whole [] so_far none = sym (append-nil all) ∙ so_far
tokens-all mode after_slash all whole (b ∷ bs) so_far none = absurd (omega arith)

-- at most a token for each byte
token_before-few : (token : Token) (others : List Token) (len : ℕ) → length others ≤ len → length (token_before token others) ≤ suc len
token_before-few (One Dead) others len few = omega arith
token_before-few (One (Byte b)) others len few = omega arith
token_before-few (One (Quoted b)) others len few = omega arith
token_before-few (One Any) others len few = omega arith
token_before-few (One (Bracket negated items)) others len few = omega arith
token_before-few Star others len few = omega arith
token_before-few Deep others len few = omega arith

few_from : (mode : Mode) (skip : ℕ) (after_slash : Bool) (text : List ℕ) → length (tokens_from mode skip after_slash text) ≤ length text
unfolding tokens_from
few_from mode skip after_slash [] = omega arith
few_from mode (suc skip) after_slash (b ∷ bs) =
    let few : length (tokens_from mode skip (b == slash) bs) ≤ length bs = few_from mode skip (b == slash) bs in
    omega arith
few_from mode zero after_slash (b ∷ bs) =
    let piece : Piece = piece_of mode after_slash b bs in
    token_before-few piece.token (tokens_from mode (piece.size - 1) (b == slash) bs) (length bs) (few_from mode (piece.size - 1) (b == slash) bs)

-- A pattern has at most as many tokens as bytes.
pub few_tokens : (mode : Mode) (pattern : List ℕ) → length (tokens mode pattern) ≤ length pattern
few_tokens mode pattern = few_from mode 0 true pattern

-- and no more where its brackets list each byte
pub few_listed : (mode : Mode) (pattern : List ℕ) → length (listed_tokens mode pattern) ≤ length pattern
few_listed mode pattern = let few = few_tokens mode pattern in let same = length-map (tokens mode pattern) listed in omega arith
