-- What a text says comes back from its long text, and nothing else does.
use Rattle.std.proofs.Common.{◌≡◌, ℕ, ◌<◌, Bool, true, false, not, ◌&&◌, ◌⊎◌, inl, inr, refl, sym, ◌∙◌, ap, subst, List, [], ◌∷◌, map, length, take, drop, ◌-◌, ltb, Some, None, Result, Ok, Err, ◌==◌, cond, arith}
use Rattle.std.proofs.lemmas.Bool.{and_parts, and_from, cases_Bool, both_ways, not-true, not_from_false, eq-eqb, ltb-true, cond-false}
use Rattle.std.proofs.lemmas.Nat.{or_lt, and_or_self}
use Rattle.std.specs.Prelude.{codes, bit_and, bit_or, unwrap_or}
use Rattle.std.specs.List.{list_any, list_all, filter, slice_split, before_first, after_first}
use Rattle.pathspec_pattern.specs.declared.defaults.Defaults.{Defaults}
use Rattle.pathspec_parts.specs.Bytes.{space, bang, dash, slash, equals_sign, is_one_of, is_empty, first_is, begins_with}
use Rattle.pathspec_pattern.specs.Results.{all_ok, ◌>>=◌}
use Rattle.pathspec_pattern.specs.Faults.{Fault}
use Rattle.pathspec_pattern.specs.Faults.Fault.{EmptyAttributes, InvalidName, InvalidValueByte, LiteralWithGlob, SecondAttributes, InvalidPrefix}
use Rattle.pathspec_parts.specs.Attributes.{State, Assignment, is_attribute_name}
use Rattle.pathspec_pattern.specs.AttributeLists.{WrittenByte, name_of, assignment_with_state, assignment_with_value, value_of, written_bytes, byte_of_written, is_value_byte, assignment_of, assignments_of, parts}
use Rattle.pathspec_parts.specs.Attributes.State.{Set, Unset, Value, Unspecified}
use Rattle.pathspec_pattern.specs.AttributeLists.WrittenByte.{Plain, Escaped, LoneBackslash}
use Rattle.pathspec_pattern.specs.Signatures.{signature_bits}
use Rattle.pathspec_pattern.specs.Specs.{Spec, top, exclude, must_be_dir, has, has_boundary}
use Rattle.pathspec_parts.specs.Paths.{ends_with_slash, without_last_slash}
use Rattle.pathspec_pattern.specs.Reading.{Keyword, keyword_of, Magic, with_piece, with_pieces, same_mode, long_pieces, Cut, short_bits, magic_of, spec_of, body_spec, prefix_length_of, is_number, no_magic, nil_spec, Reads, no_defaults}
use Rattle.pathspec_pattern.specs.Reading.Keyword.{Flag, Mode, Ignored, Attributes, PrefixLength, Unknown}
use Rattle.pathspec_pattern.specs.Reading.Reads.{verbatim, nothing, plain, magic}
use Rattle.pathspec_pattern.specs.LongText.{long_text}
use Rattle.pathspec_pattern.specs.RoundTrips.{is_expressible_state, is_set, is_expressible_assignment, IsExpressible, RoundTripIsExact, ParsedIsExpressible, ParsedRoundTrips}
use Rattle.pathspec_pattern.proofs.ReadingProofs.{reading_is_exact, said_boundary, same_ok}
use Rattle.pathspec_pattern.proofs.PrefixPieceProofs.{keyword_by}
use Rattle.pathspec_pattern.proofs.RoundTripProofs.{round_trip}
use Rattle.pathspec_pattern.proofs.ResultProofs.{bind_ok}

-- ---- results

-- where one of a value and a fault is a value, the test held
cond_ok : {A : Type 0} (t : Bool) (x y : A) (e : Fault) → cond t (Ok x) (Err e) ≡ Ok y → (t ≡ true) × (x ≡ y)
cond_ok true x y e h = (refl, let q : x ≡ y = cc in q)
cond_ok false x y e h = absurd (let q : ⊥ = cc in q)

-- values of a list are a first and others
all_ok-cons : {A : Type 0} (r : Result A Fault) (rs : List (Result A Fault)) (ys : List A) → all_ok (r ∷ rs) ≡ Ok ys → (y : A) × (zs : List A) × (r ≡ Ok y) × (all_ok rs ≡ Ok zs) × (ys ≡ y ∷ zs)
all_ok-cons (Ok y) rs ys h = let b = bind_ok (all_ok rs) (λ xs. Ok (y ∷ xs)) ys h in (y, b.0, refl, b.1, sym (same_ok (y ∷ b.0) ys b.2))
all_ok-cons (Err e) rs ys h = absurd (let q : ⊥ = cc in q)

-- what each value passes, all pass
all_ok-passes : {X A : Type 0} (f : X → Result A Fault) (q : X → Bool) (p : A → Bool) (xs : List X) (ys : List A) → ((x : X) (y : A) → q x ≡ true → f x ≡ Ok y → p y ≡ true)
    → list_all q xs ≡ true → all_ok (map f xs) ≡ Ok ys → list_all p ys ≡ true
all_ok-passes f q p [] ys w h e = subst (λ zs. list_all p zs ≡ true) (same_ok [] ys e) refl
all_ok-passes f q p (x ∷ xs) ys w h e =
    let k = and_parts (q x) (list_all q xs) h in
    let c = all_ok-cons (f x) (map f xs) ys e in
    subst (λ zs. list_all p zs ≡ true) (sym c.4) (and_from (p c.0) (list_all p c.1) (w x c.0 k.0 c.2) (all_ok-passes f q p xs c.1 w k.1 c.3))

-- ---- attributes

-- a byte that a unit stands for is one of values
byte_said : (w : List ℕ) (unit : WrittenByte) (b : ℕ) → byte_of_written w unit ≡ Ok b → is_value_byte b ≡ true
byte_said w (Plain c) b h = let k = cond_ok (is_value_byte c) c b (InvalidValueByte c) h in subst (λ (x : ℕ). is_value_byte x ≡ true) k.1 k.0
byte_said w (Escaped c) b h = let k = cond_ok (is_value_byte c) c b (InvalidValueByte c) h in subst (λ (x : ℕ). is_value_byte x ≡ true) k.1 k.0
byte_said w LoneBackslash b h = absurd (let q : ⊥ = cc in q)

-- all pass a test that never fails
all_true : (units : List WrittenByte) → list_all (λ u. true) units ≡ true
all_true [] = refl
all_true (u ∷ units) = all_true units

-- so a value that is written has only such bytes
value_said : (w v : List ℕ) → value_of w ≡ Ok v → list_all is_value_byte v ≡ true
value_said w v h = all_ok-passes (byte_of_written w) (λ u. true) is_value_byte (written_bytes false w) v (λ u b t e. byte_said w u b e) (all_true (written_bytes false w)) h

-- a name with its state, where both can be said
named_said : (state : State) (name : List ℕ) (a : Assignment) → is_expressible_state state ≡ true → (is_set state && is_empty name) ≡ false → assignment_with_state state name ≡ Ok a → is_expressible_assignment a ≡ true
named_said state name a w n h =
    let k = bind_ok (name_of name) (λ m. Ok (record { name = m; state = state })) a h in
    let c = cond_ok (is_attribute_name name) name k.0 (InvalidName name) k.1 in
    let e : ◌≡◌ {A = Assignment} (record { name = name; state = state }) a = ap (λ m. record { name = m; state = state }) c.1 ∙ same_ok (record { name = k.0; state = state }) a k.2 in
    subst (λ x. is_expressible_assignment x ≡ true) e
    (and_from (is_attribute_name name && is_expressible_state state) (not (is_set state && is_empty name)) (and_from (is_attribute_name name) (is_expressible_state state) c.0 w) (not_from_false (is_set state && is_empty name) n))

-- the assignment of a part by the tests that are made
abbrev assignment_by : Bool → Bool → Bool → List ℕ → Result Assignment Fault
assignment_by b d e part =
    cond b (assignment_with_state Unspecified (drop 1 part)) (cond d (assignment_with_state Unset (drop 1 part)) (cond e (assignment_with_value (before_first (λ b. b == equals_sign) part) (after_first (λ b. b == equals_sign) part)) (assignment_with_state Set part)))

-- each of the four kinds of part gives an assignment that can be said
assignment_by-said : (b d e : Bool) (part : List ℕ) (a : Assignment) → is_empty part ≡ false → assignment_by b d e part ≡ Ok a → is_expressible_assignment a ≡ true
assignment_by-said true d e part a n h = named_said Unspecified (drop 1 part) a refl refl h
assignment_by-said false true e part a n h = named_said Unset (drop 1 part) a refl refl h
assignment_by-said false false true part a n h =
    let name = before_first (λ b. b == equals_sign) part in
    let written = after_first (λ b. b == equals_sign) part in
    let k = bind_ok (value_of written) (λ v. assignment_with_state (Value v) name) a h in
    named_said (Value k.0) name a (value_said written k.0 k.1) refl k.2
assignment_by-said false false false part a n h = named_said Set part a refl n h

-- so does a part that is not empty
assignment_said : (part : List ℕ) (a : Assignment) → not (is_empty part) ≡ true → assignment_of part ≡ Ok a → is_expressible_assignment a ≡ true
unfolding assignment_of
assignment_said part a n h =
    assignment_by-said (first_is (λ b. b == bang) part) (first_is (λ b. b == dash) part) (list_any (λ b. b == equals_sign) part) part a (not-true (is_empty part) n) h

-- what a filter keeps passes
filter-passes : (p : List ℕ → Bool) (xs : List (List ℕ)) → list_all p (filter p xs) ≡ true
filter-passes p [] = refl
filter-passes p (x ∷ xs) = elim (cases_Bool (p x)) [
  | inl h ↦ rw h (and_from (p x) (list_all p (filter p xs)) h (filter-passes p xs))
  | inr h ↦ rw h (filter-passes p xs)
]

-- so do the parts of a list
parts_said : (empty : Bool) (parts : List (List ℕ)) (list : List Assignment) → list_all (λ part. not (is_empty part)) parts ≡ true → cond empty (Err EmptyAttributes) (all_ok (map assignment_of parts)) ≡ Ok list
    → list_all is_expressible_assignment list ≡ true
parts_said true parts list f h = absurd (let q : ⊥ = cc in q)
parts_said false parts list f h = all_ok-passes assignment_of (λ part. not (is_empty part)) is_expressible_assignment parts list assignment_said f h

-- The assignments that a list gives can be said.
assignments_said : (text : List ℕ) (list : List Assignment) → assignments_of text ≡ Ok list → list_all is_expressible_assignment list ≡ true
unfolding assignments_of
assignments_said text list h = parts_said (is_empty text) (parts text) list (filter-passes (λ part. not (is_empty part)) (slice_split (λ b. b == space) text)) h

-- ---- magic

-- magic of known bits, and of attributes that can be said
record IsKnown (m : Magic) : Type 0 where
  pub signature : m.signature < 16
  pub attributes : list_all is_expressible_assignment m.attributes ≡ true

-- a keyword adds known bits
abbrev is_known_keyword : Keyword → Bool
is_known_keyword (Flag flag) = ltb flag 16
is_known_keyword _ = true

-- each piece is one
known_keyword : (piece : List ℕ) → is_known_keyword (keyword_of piece) ≡ true
known_keyword piece = keyword_by (λ k. is_known_keyword k ≡ true) piece refl refl refl refl refl refl refl (last (begins_with piece (codes "prefix:")))
  where
    last : (b : Bool) → is_known_keyword (cond b (PrefixLength (drop 7 piece)) Unknown) ≡ true
    last true = refl
    last false = refl

-- a piece leaves magic known
known_after : (m n : Magic) (piece : List ℕ) (k : Keyword) → IsKnown m → is_known_keyword k ≡ true → with_piece m piece k ≡ Ok n → IsKnown n
known_after m n piece (Flag flag) w f h =
    let made : IsKnown (record m { signature = bit_or m.signature flag }) = record { signature = or_lt 4 m.signature flag w.signature (ltb-true flag 16 f); attributes = w.attributes } in
    subst IsKnown (same_ok (record m { signature = bit_or m.signature flag }) n h) made
known_after m n piece (Mode mode) w f h =
    let c = cond_ok (same_mode (unwrap_or m.mode mode) mode) (record m { mode = Some mode }) n (LiteralWithGlob piece) h in
    let made : IsKnown (record m { mode = Some mode }) = record { signature = w.signature; attributes = w.attributes } in
    subst IsKnown c.1 made
known_after m n piece Ignored w f h = subst IsKnown (same_ok m n h) w
known_after m n piece (Attributes list) w f h = known_listed m n piece list (is_empty m.attributes) w h
  where
    known_listed : (m n : Magic) (piece list : List ℕ) (free : Bool) → IsKnown m → cond free (assignments_of list >>= λ assignments. Ok (record m { attributes = assignments })) (Err (SecondAttributes piece)) ≡ Ok n → IsKnown n
    known_listed m n piece list true w h =
        let k = bind_ok (assignments_of list) (λ assignments. Ok (record m { attributes = assignments })) n h in
        let made : IsKnown (record m { attributes = k.0 }) = record { signature = w.signature; attributes = assignments_said list k.0 k.1 } in
        subst IsKnown (same_ok (record m { attributes = k.0 }) n k.2) made
    known_listed m n piece list false w h = absurd (let q : ⊥ = cc in q)
known_after m n piece (PrefixLength digits) w f h =
    let c = cond_ok (is_number digits) (record m { prefix = Some piece }) n (InvalidPrefix piece) h in
    let made : IsKnown (record m { prefix = Some piece }) = record { signature = w.signature; attributes = w.attributes } in
    subst IsKnown c.1 made
known_after m n piece Unknown w f h = absurd (let q : ⊥ = cc in q)

-- so do pieces
known_pieces : (m n : Magic) (pieces : List (List ℕ)) → IsKnown m → with_pieces m pieces ≡ Ok n → IsKnown n
known_pieces m n [] w h = subst IsKnown (same_ok m n h) w
known_pieces m n (piece ∷ pieces) w h =
    let k = bind_ok (with_piece m piece (keyword_of piece)) (λ next. with_pieces next pieces) n h in
    known_pieces k.0 n pieces (known_after m k.0 piece (keyword_of piece) w (known_keyword piece) k.1) k.2

-- the bits of short magic are known
known_short : (x y : Bool) → bit_or (cond x top 0) (cond y exclude 0) < 16
known_short true true = omega arith
known_short true false = omega arith
known_short false true = omega arith
known_short false false = omega arith

-- so the magic of a cut is known
known_magic : (cut : Cut) (said : Magic) → magic_of cut ≡ Ok said → IsKnown said
unfolding magic_of
known_magic cut said h =
    let start : IsKnown (record { signature = short_bits cut.short; mode = None; attributes = []; prefix = None }) =
    record { signature = known_short (list_any (λ b. b == slash) cut.short) (list_any (is_one_of (codes "^!")) cut.short); attributes = refl } in
    known_pieces (record { signature = short_bits cut.short; mode = None; attributes = []; prefix = None }) said (long_pieces (unwrap_or cut.long [])) start h

-- ---- the spec

-- so is the bit that a last slash asks for
known_slash : (b : Bool) → cond b must_be_dir 0 < 16
known_slash true = omega arith
known_slash false = omega arith

-- a last slash asks for a directory, and no other is left
slash_said : (n : ℕ) (body : List ℕ) (b : Bool) → ends_with_slash body ≡ b → (has must_be_dir (bit_or n (cond b must_be_dir 0)) ≡ true) ⊎ (ends_with_slash (without_last_slash body) ≡ false)
slash_said n body true h = inl (eq-eqb (bit_and (bit_or n must_be_dir) must_be_dir) must_be_dir (and_or_self must_be_dir n))
slash_said n body false h = inr (ap ends_with_slash (cond-false (ends_with_slash body) (take (length body - 1) body) body h) ∙ h)

-- known magic and a body say an expressible spec
expressible_body : (d : Defaults) (said : Magic) (body : List ℕ) (n : ℕ) → signature_bits d.signature < 16 → IsKnown said → has_boundary (body_spec d said body n) ≡ true → IsExpressible (body_spec d said body n)
expressible_body d said body n h w b = record {
  prefix = b;
  parts = record {
    bits = or_lt 4 (bit_or (signature_bits d.signature) said.signature) (cond (ends_with_slash body) must_be_dir 0) (or_lt 4 (signature_bits d.signature) said.signature h w.signature) (known_slash (ends_with_slash body));
    assignments = w.attributes;
    path = slash_said (bit_or (signature_bits d.signature) said.signature) body (ends_with_slash body) refl;
    nil = λ n. absurd (both_ways false refl n);
  };
}

-- and so the spec that they say
expressible_spec : (d : Defaults) (said : Magic) (body : List ℕ) (s : Spec) → signature_bits d.signature < 16 → IsKnown said → spec_of d said body ≡ Ok s → IsExpressible s
unfolding spec_of
expressible_spec d said body s h w e =
    let k = bind_ok (prefix_length_of said.prefix (without_last_slash body)) (λ n. Ok (body_spec d said body n)) s e in
    let same = same_ok (body_spec d said body k.0) s k.2 in
    subst IsExpressible same (expressible_body d said body k.0 h w (subst (λ t. has_boundary t ≡ true) (sym same) (said_boundary d said body s e)))

-- the nil spec is expressible
expressible_nil : IsExpressible nil_spec
expressible_nil = record { parts = record { bits = omega arith; assignments = refl; path = inr refl; nil = λ n. refl }; prefix = refl }

-- so each way to read a text gives an expressible spec
expressible_read : (d : Defaults) (text : List ℕ) (s : Spec) → d.literal ≡ false → signature_bits d.signature < 16 → Reads d text s → IsExpressible s
expressible_read d text s l h (verbatim v n e) = absurd (both_ways d.literal l v)
expressible_read d text s l h (nothing v t e) = subst IsExpressible (sym e) expressible_nil
expressible_read d text s l h (plain v n c e) = expressible_spec d no_magic text s h (record { signature = omega arith; attributes = refl }) e
expressible_read d text s l h (magic v n cut c t said g e) = expressible_spec d said cut.body s h (known_magic cut said g) e

-- What a text says is expressible.
pub parsed_is_expressible : ParsedIsExpressible
parsed_is_expressible d text s l h e = expressible_read d text s l h (((reading_is_exact d text).0 s).1 e)

-- What a text says comes back from its long text.
pub parsed_round_trips : ParsedRoundTrips
parsed_round_trips d text s l h e = round_trip s (parsed_is_expressible d text s l h e)

-- Just the expressible specs come back from their long text.
pub round_trip_is_exact : RoundTripIsExact
round_trip_is_exact s = (parsed_is_expressible no_defaults (long_text s) s refl (omega arith), round_trip s)
