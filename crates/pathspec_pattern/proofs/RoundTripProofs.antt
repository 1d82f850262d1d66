-- The long text of an expressible spec reads as the spec.
use Rattle.std.proofs.Common.{◌≡◌, ◌≢◌, ℕ, ◌-◌, ◌<◌, Bool, true, false, not, ◌&&◌, ◌⊎◌, inl, inr, refl, sym, ◌∙◌, ap, subst, List, [], ◌∷◌, ◌++◌, length, map, Option, Some, None, Result, Ok, Err, ◌==◌, cond, append_assoc, arith, length-append}
use Rattle.std.proofs.lemmas.Bool.{and_parts, and_from, or_parts, cases_Bool, eqb-true, both_ways, not-true, not_from_false, agree_below_at}
use Rattle.std.proofs.lemmas.List.{append-nil}
use Rattle.std.proofs.lemmas.List.Folds.{list_all-append}
use Rattle.std.proofs.Math.Seq.{take-append_seam, drop-append_seam}
use Rattle.std.specs.Prelude.{codes, bit_or, unwrap_or}
use Rattle.std.specs.List.{list_any, list_all, join_with_byte, filter}
use Rattle.pathspec_pattern.specs.declared.SearchMode.{SearchMode}
use Rattle.pathspec_pattern.specs.declared.SearchMode.TheVariants.{ShellGlob, Literal, PathAwareGlob}
use Rattle.pathspec_parts.specs.Bytes.{space, slash, colon, open_paren, close_paren, comma, backslash, is_empty, first_is}
use Rattle.pathspec_pattern.specs.Results.{◌>>=◌}
use Rattle.pathspec_pattern.specs.Faults.{Fault}
use Rattle.pathspec_parts.specs.Attributes.{Assignment}
use Rattle.pathspec_pattern.specs.Specs.{Spec, top, icase, exclude, must_be_dir, has, wants_directory, is_boundary}
use Rattle.pathspec_parts.specs.Paths.{ends_with_slash, without_last_slash}
use Rattle.pathspec_pattern.specs.Reading.{cuts, backslashes_after, long_pieces_from, long_pieces, keyword_of, Magic, with_piece, with_pieces, Cut, IsCut, text_of, magic_of, spec_of, body_spec, prefix_length_of, piece_number, nil_spec, Reads, reading, no_defaults}
use Rattle.pathspec_pattern.specs.Reading.Reads.{magic}
use Rattle.pathspec_pattern.specs.LongText.{with_escapes, state_text, attributes_text, mode_text, prefix_text, prefix_piece, number_text, bit_text, keywords, long_text, assignment_text, list_text}
use Rattle.pathspec_pattern.specs.RoundTrips.{is_expressible_assignment, IsExpressible, RoundTrip, LongTextIsInjective}
use Rattle.pathspec_pattern.proofs.AttributeTextProofs.{list_text-lacks, join-lacks, assignments_of-list_text, filter-all, backslash-lacks}
use Rattle.pathspec_pattern.proofs.ReadingProofs.{reading_is_exact}
use Rattle.pathspec_pattern.proofs.NumberProofs.{is_bare, number_back, number_is, number_bare}

-- ---- the pieces of joined keywords

-- no comma of the text cuts, where n backslashes stand directly before it, and none stands at its end
abbrev is_uncut : ℕ → List ℕ → Bool
is_uncut n [] = n == 0
is_uncut n (b ∷ bs) = not (cuts n b) && is_uncut (backslashes_after n b) bs

-- two uncut texts joined are uncut
is_uncut-append : (n : ℕ) (x y : List ℕ) → is_uncut n x ≡ true → is_uncut 0 y ≡ true → is_uncut n (x ++ y) ≡ true
is_uncut-append n [] y h k = rw (eqb-true n 0 h) k
is_uncut-append n (b ∷ x) y h k =
    let q = and_parts (not (cuts n b)) (is_uncut (backslashes_after n b) x) h in
    and_from (not (cuts n b)) (is_uncut (backslashes_after n b) (x ++ y)) q.0 (is_uncut-append (backslashes_after n b) x y q.1 k)

-- an uncut text is one piece
pieces-uncut : (n : ℕ) (x : List ℕ) → is_uncut n x ≡ true → long_pieces_from n x ≡ x ∷ []
pieces-uncut n [] h = refl
pieces-uncut n (b ∷ x) h =
    let q = and_parts (not (cuts n b)) (is_uncut (backslashes_after n b) x) h in
    rw (not-true (cuts n b) q.0, pieces-uncut (backslashes_after n b) x q.1) refl

-- and a comma after it cuts
pieces-comma : (n : ℕ) (x rest : List ℕ) → is_uncut n x ≡ true → long_pieces_from n (x ++ comma ∷ rest) ≡ x ∷ long_pieces_from 0 rest
pieces-comma n [] rest h = rw (eqb-true n 0 h) refl
pieces-comma n (b ∷ x) rest h =
    let q = and_parts (not (cuts n b)) (is_uncut (backslashes_after n b) x) h in
    rw (not-true (cuts n b) q.0, pieces-comma (backslashes_after n b) x rest q.1) refl

-- so uncut texts that are joined by commas are the pieces
pieces-join : (x : List ℕ) (xs : List (List ℕ)) → list_all (is_uncut 0) (x ∷ xs) ≡ true → long_pieces_from 0 (join_with_byte comma (x ∷ xs)) ≡ x ∷ xs
pieces-join x [] h = pieces-uncut 0 x (and_parts (is_uncut 0 x) true h).0
pieces-join x (y ∷ xs) h =
    let q = and_parts (is_uncut 0 x) (list_all (is_uncut 0) (y ∷ xs)) h in
    pieces-comma 0 x (join_with_byte comma (y ∷ xs)) q.0 ∙ ap (λ t. x ∷ t) (pieces-join y xs q.1)

-- not empty
abbrev is_filled : List ℕ → Bool
is_filled piece = not (is_empty piece)

-- and none is dropped where none is empty
long_pieces-join : (xs : List (List ℕ)) → list_all (is_uncut 0) xs ≡ true → list_all is_filled xs ≡ true → long_pieces (join_with_byte comma xs) ≡ xs
long_pieces-join [] h k = refl
long_pieces-join (x ∷ xs) h k = ap (filter is_filled) (pieces-join x xs h) ∙ filter-all is_filled (x ∷ xs) k

-- ---- the piece of a list of attributes

-- an escaped text is uncut
is_uncut-with_escapes : (t : List ℕ) → list_any (λ b. b == backslash) t ≡ false → is_uncut 0 (with_escapes t) ≡ true
is_uncut-with_escapes [] h = refl
is_uncut-with_escapes (b ∷ t) h =
    let q = or_parts (b == backslash) (list_any (λ b. b == backslash) t) h in
    let ih = is_uncut-with_escapes t q.1 in
    elim (cases_Bool (b == comma)) [
      | inl c ↦ rw (eqb-true b comma c) ih
      | inr n ↦ rw (n, q.0, n) ih
    ]

-- so are uncut texts that are joined by spaces
is_uncut-join : (xs : List (List ℕ)) → list_all (is_uncut 0) xs ≡ true → is_uncut 0 (join_with_byte space xs) ≡ true
is_uncut-join [] h = refl
is_uncut-join (x ∷ []) h = (and_parts (is_uncut 0 x) true h).0
is_uncut-join (x ∷ y ∷ xs) h =
    let q = and_parts (is_uncut 0 x) (list_all (is_uncut 0) (y ∷ xs)) h in
    is_uncut-append 0 x (space ∷ join_with_byte space (y ∷ xs)) q.0 (is_uncut-join (y ∷ xs) q.1)

-- the texts of assignments are uncut
are_uncut : (list : List Assignment) → list_all is_expressible_assignment list ≡ true → list_all (is_uncut 0) (map assignment_text list) ≡ true
are_uncut [] h = refl
are_uncut (a ∷ list) h =
    let q = and_parts (is_expressible_assignment a) (list_all is_expressible_assignment list) h in
    and_from (is_uncut 0 (assignment_text a)) (list_all (is_uncut 0) (map assignment_text list)) (is_uncut-with_escapes (state_text a.name a.state) (backslash-lacks a q.0)) (are_uncut list q.1)

-- ---- the keywords of a spec as pieces

-- a closing parenthesis
abbrev is_close : ℕ → Bool
is_close b = b == close_paren

-- a piece that stands in parentheses as it is
abbrev is_piece : List ℕ → Bool
is_piece t = is_filled t && is_uncut 0 t && not (list_any is_close t)

-- what all of two lists pass, all of both joined pass
list_all-append_true : (p : List ℕ → Bool) (xs ys : List (List ℕ)) → list_all p xs ≡ true → list_all p ys ≡ true → list_all p (xs ++ ys) ≡ true
list_all-append_true p xs ys h k = list_all-append p xs ys ∙ and_from (list_all p xs) (list_all p ys) h k

-- what passes a test passes a weaker one
list_all-weaker : (p r : List ℕ → Bool) (xs : List (List ℕ)) → ((x : List ℕ) → p x ≡ true → r x ≡ true) → list_all p xs ≡ true → list_all r xs ≡ true
list_all-weaker p r [] w h = refl
list_all-weaker p r (x ∷ xs) w h = let q = and_parts (p x) (list_all p xs) h in and_from (r x) (list_all r xs) (w x q.0) (list_all-weaker p r xs w q.1)

-- the word of a bit is a piece
are_pieces-bit : (b : Bool) (word : List ℕ) → is_piece word ≡ true → list_all is_piece (cond b (word ∷ []) []) ≡ true
are_pieces-bit true word h = and_from (is_piece word) true h refl
are_pieces-bit false word h = refl

-- so is that of a mode
are_pieces-mode : (mode : SearchMode) → list_all is_piece (mode_text mode) ≡ true
are_pieces-mode ShellGlob = refl
are_pieces-mode Literal = refl
are_pieces-mode PathAwareGlob = refl

-- bytes that stand in a piece as they are
bare_piece : (t : List ℕ) → list_all is_bare t ≡ true → (is_uncut 0 t ≡ true) × (list_any is_close t ≡ false)
bare_piece [] h = (refl, refl)
bare_piece (b ∷ t) h =
    let q = and_parts (is_bare b) (list_all is_bare t) h in
    let r = and_parts (not (b == comma) && not (b == backslash)) (not (b == close_paren)) q.0 in
    let c = and_parts (not (b == comma)) (not (b == backslash)) r.0 in
    let ih = bare_piece t q.1 in
    let e = not-true (b == comma) c.0 in
    let f = not-true (b == backslash) c.1 in
    let g = not-true (b == close_paren) r.1 in
    (rw (e, f) ih.0, rw g ih.1)

-- so that of a prefix length is a piece
is_piece-prefix : (n : ℕ) → is_piece (prefix_piece n) ≡ true
is_piece-prefix n =
    let b = bare_piece (number_text n) (number_bare n) in
    rw (b.0, b.1) refl

are_pieces-prefix : (n : ℕ) → list_all is_piece (prefix_text n) ≡ true
are_pieces-prefix n = elim (cases_Bool (n == 0)) [
  | inl z ↦ rw z refl
  | inr z ↦ rw z (and_from (is_piece (prefix_piece n)) true (is_piece-prefix n) refl)
]

-- and that of a list of attributes
are_pieces-attributes : (list : List Assignment) → list_all is_expressible_assignment list ≡ true → list_all is_piece (attributes_text list) ≡ true
are_pieces-attributes [] h = refl
are_pieces-attributes (a ∷ list) h =
    let t = list_text (a ∷ list) in
    let u = is_uncut-join (map assignment_text (a ∷ list)) (are_uncut (a ∷ list) h) in
    let c = list_text-lacks close_paren (a ∷ list) refl refl refl refl refl refl h in
    and_from (is_uncut 0 t && not (list_any is_close t)) true (and_from (is_uncut 0 t) (not (list_any is_close t)) u (not_from_false (list_any is_close t) c)) refl

-- so all keywords of a spec are pieces
are_pieces : (s : Spec) → list_all is_expressible_assignment s.attributes ≡ true → list_all is_piece (keywords s) ≡ true
are_pieces s h =
    let t = bit_text top s.signature (codes "top") in
    let e = bit_text exclude s.signature (codes "exclude") in
    let i = bit_text icase s.signature (codes "icase") in
    list_all-append_true is_piece ((((t ++ e) ++ i) ++ mode_text s.mode) ++ prefix_text s.prefix_length) (attributes_text s.attributes)
    (list_all-append_true is_piece (((t ++ e) ++ i) ++ mode_text s.mode) (prefix_text s.prefix_length)
    (list_all-append_true is_piece ((t ++ e) ++ i) (mode_text s.mode)
    (list_all-append_true is_piece (t ++ e) i
    (list_all-append_true is_piece t e (are_pieces-bit (has top s.signature) (codes "top") refl) (are_pieces-bit (has exclude s.signature) (codes "exclude") refl))
    (are_pieces-bit (has icase s.signature) (codes "icase") refl))
    (are_pieces-mode s.mode))
    (are_pieces-prefix s.prefix_length))
    (are_pieces-attributes s.attributes h)

-- ---- what the pieces say

-- the step of the next lemma, by the result of the first piece
with_pieces-then : (r : Result Magic Fault) (xs ys : List (List ℕ)) → ((n : Magic) → with_pieces n (xs ++ ys) ≡ (with_pieces n xs >>= λ m. with_pieces m ys))
    → (r >>= λ n. with_pieces n (xs ++ ys)) ≡ ((r >>= λ n. with_pieces n xs) >>= λ m. with_pieces m ys)
with_pieces-then (Ok n) xs ys h = h n
with_pieces-then (Err e) xs ys h = refl

-- joined pieces go on from what the first ones said
with_pieces-append : (m : Magic) (xs ys : List (List ℕ)) → with_pieces m (xs ++ ys) ≡ (with_pieces m xs >>= λ n. with_pieces n ys)
with_pieces-append m [] ys = refl
with_pieces-append m (x ∷ xs) ys = with_pieces-then (with_piece m x (keyword_of x)) xs ys (λ n. with_pieces-append n xs ys)

-- pieces that say n leave the rest to n
with_pieces-onto : (m n : Magic) (xs ys : List (List ℕ)) → with_pieces m xs ≡ Ok n → with_pieces m (xs ++ ys) ≡ with_pieces n ys
with_pieces-onto m n xs ys h = with_pieces-append m xs ys ∙ ap (λ r. r >>= λ k. with_pieces k ys) h

-- the signature that the bits' keywords add up to
abbrev word_of : Bool → Bool → Bool → ℕ
word_of t e i = bit_or (bit_or (cond t top 0) (cond e exclude 0)) (cond i icase 0)

-- magic by its parts
abbrev said : ℕ → Option SearchMode → Option (List ℕ) → List Assignment → Magic
said signature mode prefix list = record { signature = signature; mode = mode; attributes = list; prefix = prefix }

-- the keywords of bits say them
bits_said : (t e i : Bool) → with_pieces (said 0 None None []) ((cond t (codes "top" ∷ []) [] ++ cond e (codes "exclude" ∷ []) []) ++ cond i (codes "icase" ∷ []) []) ≡ Ok (said (word_of t e i) None None [])
bits_said true true true = refl
bits_said true true false = refl
bits_said true false true = refl
bits_said true false false = refl
bits_said false true true = refl
bits_said false true false = refl
bits_said false false true = refl
bits_said false false false = refl

-- what a mode's keyword says
abbrev picked_mode : SearchMode → Option SearchMode
picked_mode ShellGlob = None
picked_mode Literal = Some Literal
picked_mode PathAwareGlob = Some PathAwareGlob

-- the keyword of a mode picks it
mode_said : (w : ℕ) (mode : SearchMode) → with_pieces (said w None None []) (mode_text mode) ≡ Ok (said w (picked_mode mode) None [])
mode_said w ShellGlob = refl
mode_said w Literal = refl
mode_said w PathAwareGlob = refl

-- and the mode that was picked, or the default, is the mode
mode_back : (mode : SearchMode) → unwrap_or (picked_mode mode) ShellGlob ≡ mode
mode_back ShellGlob = refl
mode_back Literal = refl
mode_back PathAwareGlob = refl

-- the piece of a prefix length
abbrev asked_prefix : ℕ → Option (List ℕ)
asked_prefix n = cond (n == 0) None (Some (prefix_piece n))

-- the piece asks for it
prefix_said : (w : ℕ) (mode : Option SearchMode) (n : ℕ) → with_pieces (said w mode None []) (prefix_text n) ≡ Ok (said w mode (asked_prefix n) [])
prefix_said w mode n = elim (cases_Bool (n == 0)) [
  | inl z ↦ rw z refl
  | inr z ↦ let i = number_is n z in rw (z, i) refl
]

-- and the length that it asks for is that length, where it is a boundary
prefix_back : (path : List ℕ) (n : ℕ) → is_boundary path n ≡ true → prefix_length_of (asked_prefix n) path ≡ Ok n
prefix_back path n h = elim (cases_Bool (n == 0)) [
  | inl z ↦ rw z (ap Ok (sym (eqb-true n 0 z)))
  | inr z ↦ let b : piece_number (prefix_piece n) ≡ n = number_back n in rw z (rw (b, h) refl)
]

-- the keyword of attributes lists them
attributes_said : (w : ℕ) (mode : Option SearchMode) (prefix : Option (List ℕ)) (list : List Assignment) → list_all is_expressible_assignment list ≡ true → with_pieces (said w mode prefix []) (attributes_text list) ≡ Ok (said w mode prefix list)
attributes_said w mode prefix [] h = refl
attributes_said w mode prefix (a ∷ list) h = rw (assignments_of-list_text a list h) refl

-- what the keywords of a spec say
abbrev said_of : Spec → Magic
said_of s = said (word_of (has top s.signature) (has exclude s.signature) (has icase s.signature)) (picked_mode s.mode) (asked_prefix s.prefix_length) s.attributes

-- the keywords of a spec say its known bits but the directory's, its mode, its prefix length and its attributes
keywords_said : (s : Spec) → list_all is_expressible_assignment s.attributes ≡ true
    → with_pieces (said 0 None None []) (keywords s) ≡ Ok (said_of s)
keywords_said s h =
    let t = bit_text top s.signature (codes "top") in
    let e = bit_text exclude s.signature (codes "exclude") in
    let i = bit_text icase s.signature (codes "icase") in
    let w = word_of (has top s.signature) (has exclude s.signature) (has icase s.signature) in
    with_pieces-onto (said 0 None None []) (said w (picked_mode s.mode) (asked_prefix s.prefix_length) []) ((((t ++ e) ++ i) ++ mode_text s.mode) ++ prefix_text s.prefix_length) (attributes_text s.attributes)
    (with_pieces-onto (said 0 None None []) (said w (picked_mode s.mode) None []) (((t ++ e) ++ i) ++ mode_text s.mode) (prefix_text s.prefix_length)
    (with_pieces-onto (said 0 None None []) (said w None None []) ((t ++ e) ++ i) (mode_text s.mode) (bits_said (has top s.signature) (has exclude s.signature) (has icase s.signature)) ∙ mode_said w s.mode)
    ∙ prefix_said w (picked_mode s.mode) s.prefix_length)
    ∙ attributes_said w (picked_mode s.mode) (asked_prefix s.prefix_length) s.attributes h

-- a signature of known bits is the bits that it has
abbrev signature_back : ℕ → ℕ
signature_back n = bit_or (bit_or 0 (word_of (has top n) (has exclude n) (has icase n))) (cond (has must_be_dir n) must_be_dir 0)

-- by a table of the sixteen
signature_is_bits : (n : ℕ) → n < 16 → signature_back n ≡ n
signature_is_bits n h = eqb-true (signature_back n) n (agree_below_at (λ k. signature_back k == k) (λ k. true) 16 n refl h)

-- ---- the body

-- a last slash stands at the length of what is before it
last_at : (path : List ℕ) → length (path ++ slash ∷ []) - 1 ≡ length path
last_at path = omega (arith, length-append path (slash ∷ []))

-- a path with a slash after it ends with one
ends_with_slash-append : (path : List ℕ) → ends_with_slash (path ++ slash ∷ []) ≡ true
ends_with_slash-append path = rw (last_at path, drop-append_seam path (slash ∷ [])) refl

-- a path, and a slash where one is asked for
abbrev body_text : List ℕ → Bool → List ℕ
body_text path slashed = path ++ cond slashed (slash ∷ []) []

-- the body ends with a slash just where one was put there
ends_with_slash-body : (path : List ℕ) (slashed : Bool) → (slashed ≡ true) ⊎ (ends_with_slash path ≡ false) → ends_with_slash (body_text path slashed) ≡ slashed
ends_with_slash-body path true h = ends_with_slash-append path
ends_with_slash-body path false (inl h) = absurd (both_ways false refl h)
ends_with_slash-body path false (inr h) = rw (append-nil path) h

-- and without it, it is the path
without_last_slash-body : (path : List ℕ) (slashed : Bool) → (slashed ≡ true) ⊎ (ends_with_slash path ≡ false) → without_last_slash (body_text path slashed) ≡ path
without_last_slash-body path true h = rw (ends_with_slash-append path, last_at path) (take-append_seam path (slash ∷ []))
without_last_slash-body path false (inl h) = absurd (both_ways false refl h)
without_last_slash-body path false (inr h) = rw (append-nil path, h) refl

-- ---- the whole text

-- the keywords with commas between them
abbrev long_of : Spec → List ℕ
long_of s = join_with_byte comma (keywords s)

-- the body of a spec's long text
abbrev body_of : Spec → List ℕ
body_of s = body_text s.path (wants_directory s)

-- the cut of the long text of a spec that is not nil
abbrev cut_for : Spec → Cut
cut_for s = record { short = []; ended = false; long = Some (long_of s); body = body_of s }

-- a test that fails always fails first
first_is-never : (xs : List ℕ) → first_is (λ b. false) xs ≡ false
first_is-never [] = refl
first_is-never (x ∷ xs) = refl

-- joined pieces hold no `)`
join-lacks_close : (xs : List (List ℕ)) → list_all is_piece xs ≡ true → list_any is_close (join_with_byte comma xs) ≡ false
join-lacks_close xs h = join-lacks close_paren comma xs refl (list_all-weaker is_piece (λ t. not (list_any is_close t)) xs (λ t k. (and_parts (is_filled t && is_uncut 0 t) (not (list_any is_close t)) k).1) h)

-- it is a cut
is_cut_for : (s : Spec) → list_all is_expressible_assignment s.attributes ≡ true → IsCut (cut_for s)
is_cut_for s h = record { short = refl; long = join-lacks_close (keywords s) (are_pieces s h); body = first_is-never (body_of s) }

-- the magic of this cut says what the spec has
magic_said : (s : Spec) → list_all is_expressible_assignment s.attributes ≡ true
    → magic_of (cut_for s) ≡ Ok (said_of s)
unfolding magic_of
magic_said s h =
    let p = are_pieces s h in
    let u = list_all-weaker is_piece (is_uncut 0) (keywords s) (λ t k. (and_parts (is_filled t) (is_uncut 0 t) (and_parts (is_filled t && is_uncut 0 t) (not (list_any is_close t)) k).0).1) p in
    let f = list_all-weaker is_piece is_filled (keywords s) (λ t k. (and_parts (is_filled t) (is_uncut 0 t) (and_parts (is_filled t && is_uncut 0 t) (not (list_any is_close t)) k).0).0) p in
    ap (with_pieces (said 0 None None [])) (long_pieces-join (keywords s) u f) ∙ keywords_said s h

-- specs with equal parts are equal
spec_by_parts : (p q : List ℕ) (a b : ℕ) (m n : SearchMode) (list : List Assignment) (x y : Bool) (k l : ℕ) → p ≡ q → a ≡ b → m ≡ n → x ≡ y → k ≡ l
    → ◌≡◌ {A = Spec} (record { path = p; signature = a; mode = m; attributes = list; nil = x; prefix_length = k }) (record { path = q; signature = b; mode = n; attributes = list; nil = y; prefix_length = l })
spec_by_parts p q a b m n list x y k l e f g h i = cc

-- the spec of this cut is the spec
body_back : (s : Spec) → IsExpressible s → s.nil ≡ false → body_spec no_defaults (said_of s) (body_of s) s.prefix_length ≡ s
body_back s w n =
    let e = ends_with_slash-body s.path (wants_directory s) w.parts.path in
    spec_by_parts (without_last_slash (body_of s)) s.path (bit_or (bit_or 0 (word_of (has top s.signature) (has exclude s.signature) (has icase s.signature))) (cond (ends_with_slash (body_of s)) must_be_dir 0)) s.signature
    (unwrap_or (picked_mode s.mode) ShellGlob) s.mode s.attributes false s.nil s.prefix_length s.prefix_length
    (without_last_slash-body s.path (wants_directory s) w.parts.path)
    (ap (λ b. bit_or (bit_or 0 (word_of (has top s.signature) (has exclude s.signature) (has icase s.signature))) (cond b must_be_dir 0)) e ∙ signature_is_bits s.signature w.parts.bits)
    (mode_back s.mode) (sym n) refl

-- and its prefix length is a boundary
spec_back : (s : Spec) → IsExpressible s → s.nil ≡ false → spec_of no_defaults (said_of s) (body_of s) ≡ Ok s
unfolding spec_of
spec_back s w n =
    let p = without_last_slash-body s.path (wants_directory s) w.parts.path in
    let b = prefix_back s.path s.prefix_length w.prefix in
    ap (λ r. r >>= λ k. Ok (body_spec no_defaults (said_of s) (body_of s) k)) (ap (prefix_length_of (asked_prefix s.prefix_length)) p ∙ b) ∙ ap Ok (body_back s w n)

-- the long text is the text of this cut
long_text-cut : (s : Spec) → s.nil ≡ false → long_text s ≡ text_of (cut_for s)
unfolding long_text
long_text-cut s n = rw n (ap (λ t. colon ∷ open_paren ∷ t) (append_assoc (long_of s ++ close_paren ∷ []) s.path (cond (wants_directory s) (slash ∷ []) [])))

-- it is longer than `:`
not_alone : (b : ℕ) (rest : List ℕ) → colon ∷ b ∷ rest ≢ colon ∷ []
not_alone b rest e = cc

-- a long text is cut as it was made
reads_long : (s : Spec) → IsExpressible s → s.nil ≡ false → Reads no_defaults (text_of (cut_for s)) s
reads_long s w n = magic refl (not_alone open_paren _) (cut_for s) (is_cut_for s w.parts.assignments) refl _ (magic_said s w.parts.assignments) (spec_back s w n)

-- the nil spec reads back
nil_back : reading no_defaults (long_text nil_spec) ≡ Ok nil_spec
unfolding reading long_text
nil_back = refl

-- The long text of an expressible spec reads as the spec.
pub round_trip : RoundTrip
round_trip s w = elim (cases_Bool s.nil) [
  | inl n ↦ subst (λ x. reading no_defaults (long_text x) ≡ Ok x) (sym (w.parts.nil n)) nil_back
  | inr n ↦ ap (reading no_defaults) (long_text-cut s n) ∙ ((reading_is_exact no_defaults (text_of (cut_for s))).0 s).0 (reads_long s w n)
]

-- equal results have equal values
same_ok : (s t : Spec) → ◌≡◌ {A = Result Spec Fault} (Ok s) (Ok t) → s ≡ t
same_ok s t e = cc

-- Two expressible specs are equal exactly where their long texts are.
pub long_text_is_injective : LongTextIsInjective
long_text_is_injective s t w v = (λ e. ap long_text e, λ e. same_ok s t (sym (round_trip s w) ∙ (ap (reading no_defaults) e ∙ round_trip t v)))

-- The long text says the spec, in the words of the relation.
pub long_text_reads : (s : Spec) → IsExpressible s → Reads no_defaults (long_text s) s
long_text_reads s w = ((reading_is_exact no_defaults (long_text s)).0 s).1 (round_trip s w)
