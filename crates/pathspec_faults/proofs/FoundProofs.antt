-- What is found in a text stands there.
use Rattle.std.proofs.Common.{◌≡◌, ℕ, ◌+◌, ◌-◌, ◌%◌, ◌<◌, Bool, true, false, not, ◌&&◌, ◌⊎◌, inl, inr, refl, sym, ◌∙◌, ap, subst, List, [], ◌∷◌, ◌++◌, length, take, drop, Option, Some, None, ◌==◌, append_assoc, arith}
use Rattle.std.proofs.lemmas.Bool.{cases_Bool, eqb-true, and_parts, false≢true}
use Rattle.std.proofs.lemmas.List.{append-nil, take-append-drop, length-append, length-drop}
use Rattle.std.proofs.lemmas.List.Splits.{join_with_byte-slice_split}
use Rattle.std.proofs.lemmas.Slice.Eq.{bytes_eq-Decides}
use Rattle.std.proofs.Math.Numerals.{one-add, add-one}
use Rattle.std.specs.Prelude.{nat_eq, bytes_eq, codes}
use Rattle.std.specs.List.{join_with_byte, slice_split, onto_first, before_first, after_first, position_or_len, list_any, ends_with}
use Rattle.std.specs.Option.{option_or}
use Rattle.std.specs.declared.ops.Range.{Range}
use Rattle.pathspec_parts.specs.Bytes.{space, backslash, comma, open_paren, begins_with}
use Rattle.pathspec_parts.specs.Paths.{without_last_slash, ends_with_slash}
use Rattle.pathspec_pattern.specs.Reading.{long_pieces_from, backslashes_after, cuts}
use Rattle.pathspec_faults.specs.PlaceLaws.{HoldsBytes}
use Rattle.pathspec_faults.specs.Places.{Wanted, bytes_from, place_if_equal, first_place, is_space, is_equals_sign, is_marked, place_of_byte, place_in_assignment, place_in_name, place_in_part, place_in_list, place_in_attributes, place_in_piece, place_in_pieces, is_open, is_close, long_text_of, place_in_magic, place_of_first, place_at_end, place_of_path}
use Rattle.pathspec_faults.specs.Places.Wanted.{Piece, Name, Value, ValueByte}

-- the bytes that are looked for
abbrev pub bytes_of : Wanted → List ℕ
bytes_of (Piece piece) = piece
bytes_of (Name name) = name
bytes_of (Value value) = value
bytes_of (ValueByte byte) = byte ∷ []

-- A place that is found in a text with these neighbours holds the bytes.
abbrev pub IsSound : (ℕ → List ℕ → Option (Range ℕ)) → List ℕ → Type 0
IsSound place bytes = (front text back : List ℕ) (r : Range ℕ) → place (length front) text ≡ Some r → HoldsBytes (front ++ text ++ back) r bytes

none_some : {A : Type 0} (x : A) → None ≡ Some x → ⊥
none_some x h = cc

some_same : {A : Type 0} (x y : A) → Some x ≡ Some y → x ≡ y
some_same x y h = cc

pub or_found : {A : Type 0} (o p : Option A) (x : A) → option_or o p ≡ Some x → (o ≡ Some x) ⊎ ((o ≡ None) × (p ≡ Some x))
or_found None p x h = inr (refl, h)
or_found (Some y) p x h = inl h

-- the same text, cut elsewhere
recut : (text other : List ℕ) (r : Range ℕ) (bytes : List ℕ) → text ≡ other → HoldsBytes text r bytes → HoldsBytes other r bytes
recut text other r bytes e h = subst (λ (t : List ℕ). HoldsBytes t r bytes) e h

-- the middle of a text
pub middle : (front bytes back : List ℕ) → HoldsBytes (front ++ bytes ++ back) (bytes_from (length front) (length bytes)) bytes
middle front bytes back = record { before = front; after = back; text_is = refl; range_is = refl }

-- the range at which that is
middle_at : (front bytes back : List ℕ) (r : Range ℕ) → bytes_from (length front) (length bytes) ≡ r → HoldsBytes (front ++ bytes ++ back) r bytes
middle_at front bytes back r e = record { before = front; after = back; text_is = refl; range_is = sym e }

if_equal-sound : (wanted : List ℕ) → IsSound (place_if_equal wanted) wanted
if_equal-sound wanted front text back r h = elim (cases_Bool (bytes_eq text wanted)) [
  | inl y ↦
      let found : Some (bytes_from (length front) (length text)) ≡ Some r = rw y at h in
      let same : text ≡ wanted = (bytes_eq-Decides text wanted).0 y in
      let range : bytes_from (length front) (length wanted) ≡ r = ap (λ x. bytes_from (length front) (length x)) (sym same) ∙ some_same _ r found in
      recut (front ++ wanted ++ back) (front ++ text ++ back) r wanted (ap (λ x. front ++ x ++ back) (sym same)) (middle_at front wanted back r range)
  | inr n ↦ let found : None ≡ Some r = rw n at h in absurd (none_some r found)
]

-- a text behind one more byte
step_front : (front : List ℕ) (b : ℕ) (bs back : List ℕ) → (front ++ b ∷ []) ++ bs ++ back ≡ front ++ (b ∷ bs) ++ back
step_front front b bs back = simp append_assoc

step_length : (front : List ℕ) (b : ℕ) → length (front ++ b ∷ []) ≡ length front + 1
step_length front b = length-append front (b ∷ [])

byte-sound : (byte : ℕ) (e : Bool) (front text back : List ℕ) (r : Range ℕ) → place_of_byte byte e (length front) text ≡ Some r → HoldsBytes (front ++ text ++ back) r (byte ∷ [])
byte-sound byte e front [] back r h = absurd (none_some r h)
byte-sound byte e front (b ∷ bs) back r h = elim (cases_Bool (b == backslash && not e)) [
  | inl s ↦
      let next : place_of_byte byte true (length front + 1) bs ≡ Some r = rw s at h in
      let there = byte-sound byte true (front ++ b ∷ []) bs back r (subst (λ n. place_of_byte byte true n bs ≡ Some r) (sym (step_length front b)) next) in
      recut _ (front ++ (b ∷ bs) ++ back) r (byte ∷ []) (step_front front b bs back) there
  | inr s ↦ elim (cases_Bool (b == byte)) [
    | inl y ↦
        let found : Some (bytes_from (length front) 1) ≡ Some r = rw (s, y) at h in
        let same : byte ∷ [] ++ bs ++ back ≡ (b ∷ bs) ++ back = ap (λ x. x ∷ bs ++ back) (sym (eqb-true b byte y)) in
        recut (front ++ (byte ∷ []) ++ (bs ++ back)) (front ++ (b ∷ bs) ++ back) r (byte ∷ [])
        (append_assoc front (byte ∷ []) (bs ++ back) ∙ (ap (λ x. front ++ x) same ∙ sym (append_assoc front (b ∷ bs) back)))
        (middle_at front (byte ∷ []) (bs ++ back) r (some_same _ r found))
    | inr n ↦
        let next : place_of_byte byte false (length front + 1) bs ≡ Some r = rw (s, n) at h in
        let there = byte-sound byte false (front ++ b ∷ []) bs back r (subst (λ n. place_of_byte byte false n bs ≡ Some r) (sym (step_length front b)) next) in
        recut _ (front ++ (b ∷ bs) ++ back) r (byte ∷ []) (step_front front b bs back) there
  ]
]

-- texts with one byte between two of them
first_place-sound : (c : ℕ) (place : ℕ → List ℕ → Option (Range ℕ)) (bytes : List ℕ) → IsSound place bytes
    → (texts : List (List ℕ)) (front back : List ℕ) (r : Range ℕ) → first_place place (length front) texts ≡ Some r → HoldsBytes (front ++ join_with_byte c texts ++ back) r bytes
first_place-sound c place bytes sound [] front back r h = absurd (none_some r h)
first_place-sound c place bytes sound (t ∷ []) front back r h = elim (or_found (place (length front) t) None r h) [
  | inl e ↦ sound front t back r e
  | inr e ↦ absurd (none_some r e.1)
]
first_place-sound c place bytes sound (t ∷ u ∷ us) front back r h =
    let more = join_with_byte c (u ∷ us) in
    elim (or_found (place (length front) t) (first_place place (length front + length t + 1) (u ∷ us)) r h) [
      | inl e ↦
          let whole : front ++ t ++ (c ∷ more ++ back) ≡ front ++ (t ++ c ∷ more) ++ back = simp append_assoc in
          recut _ (front ++ (t ++ c ∷ more) ++ back) r bytes whole (sound front t (c ∷ more ++ back) r e)
      | inr e ↦
          let next = front ++ t ++ c ∷ [] in
          let far : length next ≡ length front + length t + 1 = omega (arith, length-append front t, length-append (front ++ t) (c ∷ [])) in
          let there = first_place-sound c place bytes sound (u ∷ us) next back r (subst (λ n. first_place place n (u ∷ us) ≡ Some r) (sym far) e.1) in
          let whole : next ++ more ++ back ≡ front ++ (t ++ c ∷ more) ++ back = simp append_assoc in
          recut _ (front ++ (t ++ c ∷ more) ++ back) r bytes whole there
    ]

-- ---- in a list of attributes

-- what stands before the first byte that passes, and after it
before_whole : (p : ℕ → Bool) (front text back : List ℕ) → front ++ before_first p text ++ (drop (position_or_len p text) text ++ back) ≡ front ++ text ++ back
before_whole p front text back =
    let n = position_or_len p text in
    let cut : take n text ++ (drop n text ++ back) ≡ text ++ back = sym (append_assoc (take n text) (drop n text) back) ∙ ap (λ x. x ++ back) (take-append-drop n text) in
    append_assoc front (take n text) (drop n text ++ back) ∙ (ap (λ x. front ++ x) cut ∙ sym (append_assoc front text back))

after_whole : (n : ℕ) (front text back : List ℕ) → (front ++ take n text) ++ drop n text ++ back ≡ front ++ text ++ back
after_whole n front text back = ap (λ x. x ++ back) (append_assoc front (take n text) (drop n text) ∙ ap (λ x. front ++ x) (take-append-drop n text))

after_far : (n : ℕ) (front text : List ℕ) → length (front ++ take n text) ≡ length front + length text - length (drop n text)
after_far n front text =
    let whole : length (take n text) + length (drop n text) ≡ length text = sym (length-append (take n text) (drop n text)) ∙ ap length (take-append-drop n text) in
    omega (arith, whole, length-append front (take n text))

assignment-sound : (w : Wanted) → IsSound (place_in_assignment w) (bytes_of w)
assignment-sound (Piece piece) front part back r h = absurd (none_some r h)
assignment-sound (Name name) front part back r h =
    recut _ (front ++ part ++ back) r name (before_whole is_equals_sign front part back) (if_equal-sound name front (before_first is_equals_sign part) (drop (position_or_len is_equals_sign part) part ++ back) r h)
assignment-sound (Value value) front part back r h =
    let n = position_or_len is_equals_sign part + 1 in
    let there = if_equal-sound value (front ++ take n part) (drop n part) back r (subst (λ k. place_if_equal value k (drop n part) ≡ Some r) (sym (after_far n front part)) h) in
    recut _ (front ++ part ++ back) r value (after_whole n front part back) there
assignment-sound (ValueByte byte) front part back r h =
    let n = position_or_len is_equals_sign part + 1 in
    let there = byte-sound byte false (front ++ take n part) (drop n part) back r (subst (λ k. place_of_byte byte false k (drop n part) ≡ Some r) (sym (after_far n front part)) h) in
    recut _ (front ++ part ++ back) r (byte ∷ []) (after_whole n front part back) there

name-sound : (w : Wanted) → IsSound (place_in_name w) (bytes_of w)
name-sound (Piece piece) front name back r h = absurd (none_some r h)
name-sound (Name wanted) front name back r h = if_equal-sound wanted front name back r h
name-sound (Value value) front name back r h = absurd (none_some r h)
name-sound (ValueByte byte) front name back r h = absurd (none_some r h)

part-sound : (w : Wanted) → IsSound (place_in_part w) (bytes_of w)
part-sound w front [] back r h = assignment-sound w front [] back r h
part-sound w front (b ∷ bs) back r h = elim (cases_Bool (is_marked (b ∷ bs))) [
  | inl y ↦
      let found : place_in_name w (length front + 1) bs ≡ Some r = rw y at h in
      let there = name-sound w (front ++ b ∷ []) bs back r (subst (λ n. place_in_name w n bs ≡ Some r) (sym (step_length front b)) found) in
      recut _ (front ++ (b ∷ bs) ++ back) r (bytes_of w) (step_front front b bs back) there
  | inr n ↦
      let found : place_in_assignment w (length front) (b ∷ bs) ≡ Some r = rw n at h in
      assignment-sound w front (b ∷ bs) back r found
]

list-sound : (w : Wanted) → IsSound (place_in_list w) (bytes_of w)
list-sound w front list back r h =
    recut _ (front ++ list ++ back) r (bytes_of w) (ap (λ x. front ++ x ++ back) (join_with_byte-slice_split space list))
    (first_place-sound space (place_in_part w) (bytes_of w) (part-sound w) (slice_split is_space list) front back r h)

-- ---- in long magic

-- what begins a text, as a test
front_is : (front text : List ℕ) → begins_with text front ≡ true → text ≡ front ++ drop (length front) text
front_is front text h =
    let same : front ≡ take (length front) text = (bytes_eq-Decides front (take (length front) text)).0 h in
    sym (take-append-drop (length front) text) ∙ ap (λ x. x ++ drop (length front) text) (sym same)

attributes-sound : (w : Wanted) → IsSound (place_in_attributes w) (bytes_of w)
attributes-sound w front piece back r h = elim (cases_Bool (begins_with piece (codes "attr:"))) [
  | inl y ↦
      let found : place_in_list w (length front + 5) (drop 5 piece) ≡ Some r = rw y at h in
      let far : length (front ++ codes "attr:") ≡ length front + 5 = length-append front (codes "attr:") in
      let there = list-sound w (front ++ codes "attr:") (drop 5 piece) back r (subst (λ n. place_in_list w n (drop 5 piece) ≡ Some r) (sym far) found) in
      let whole : (front ++ codes "attr:") ++ drop 5 piece ++ back ≡ front ++ piece ++ back =
      ap (λ x. x ++ back) (append_assoc front (codes "attr:") (drop 5 piece) ∙ ap (λ x. front ++ x) (sym (front_is (codes "attr:") piece y))) in
      recut _ (front ++ piece ++ back) r (bytes_of w) whole there
  | inr n ↦ let found : None ≡ Some r = rw n at h in absurd (none_some r found)
]

piece-sound : (w : Wanted) → IsSound (place_in_piece w) (bytes_of w)
piece-sound (Piece wanted) front piece back r h = if_equal-sound wanted front piece back r h
piece-sound (Name name) front piece back r h = attributes-sound (Name name) front piece back r h
piece-sound (Value value) front piece back r h = attributes-sound (Value value) front piece back r h
piece-sound (ValueByte byte) front piece back r h = attributes-sound (ValueByte byte) front piece back r h

-- pieces and a byte in front of the first
join-onto : (c b : ℕ) (pieces : List (List ℕ)) → join_with_byte c (onto_first b pieces) ≡ b ∷ join_with_byte c pieces
join-onto c b [] = refl
join-onto c b (p ∷ []) = refl
join-onto c b (p ∷ q ∷ qs) = refl

-- an empty piece in front
empty_onto : (b : ℕ) (pieces : List (List ℕ)) → join_with_byte comma ([] ∷ onto_first b pieces) ≡ comma ∷ join_with_byte comma (onto_first b pieces)
empty_onto b [] = refl
empty_onto b (p ∷ ps) = refl

join-empty : (n : ℕ) (bs : List ℕ) → join_with_byte comma ([] ∷ long_pieces_from n bs) ≡ comma ∷ join_with_byte comma (long_pieces_from n bs)
join-empty n [] = refl
join-empty n (b ∷ bs) = elim (cases_Bool (cuts n b)) [
  | inl y ↦ rw y refl
  | inr z ↦ rw z (empty_onto b (long_pieces_from (backslashes_after n b) bs))
]

cut_comma : (n b : ℕ) → cuts n b ≡ true → b ≡ comma
cut_comma n b y = eqb-true b comma (and_parts (b == comma) (n % 2 == 0) y).0

-- the pieces, with commas between them, are the text
join-pieces : (n : ℕ) (long : List ℕ) → join_with_byte comma (long_pieces_from n long) ≡ long
join-pieces n [] = refl
join-pieces n (b ∷ bs) = elim (cases_Bool (cuts n b)) [
  | inl y ↦ rw y (join-empty (backslashes_after n b) bs ∙ (ap (λ x. comma ∷ x) (join-pieces (backslashes_after n b) bs) ∙ ap (λ x. x ∷ bs) (sym (cut_comma n b y))))
  | inr z ↦ rw z (join-onto comma b (long_pieces_from (backslashes_after n b) bs) ∙ ap (λ x. b ∷ x) (join-pieces (backslashes_after n b) bs))
]

pieces-sound : (w : Wanted) → IsSound (place_in_pieces w) (bytes_of w)
pieces-sound w front long back r h =
    recut _ (front ++ long ++ back) r (bytes_of w) (ap (λ x. front ++ x ++ back) (join-pieces 0 long))
    (first_place-sound comma (place_in_piece w) (bytes_of w) (piece-sound w) (long_pieces_from 0 long) front back r h)

-- the first byte that passes stands in the text
pub any_below : (p : ℕ → Bool) (text : List ℕ) → list_any p text ≡ true → position_or_len p text < length text
any_below p [] h = absurd (false≢true h)
any_below p (b ∷ bs) h = elim (cases_Bool (p b)) [
  | inl y ↦ rw y (let it : 0 < length (b ∷ bs) = omega arith in it)
  | inr n ↦ let more = any_below p bs (rw n at h) in rw n (let it : 1 + position_or_len p bs < length (b ∷ bs) = omega (arith, more) in it)
]

-- a text that holds a byte is what stands before the first, that byte, and what follows
pub at_first : (c : ℕ) (text : List ℕ) → list_any (λ b. b == c) text ≡ true → text ≡ before_first (λ b. b == c) text ++ c ∷ after_first (λ b. b == c) text
at_first c [] h = absurd (false≢true h)
at_first c (b ∷ bs) h = elim (cases_Bool (b == c)) [
  | inl y ↦ rw y (ap (λ x. x ∷ bs) (eqb-true b c y))
  | inr n ↦ let more = at_first c bs (rw n at h) in rw (n, one-add, add-one) (ap (λ x. b ∷ x) (rw add-one at more))
]

-- and so many bytes stand before that
pub before_length : (p : ℕ → Bool) (text : List ℕ) → list_any p text ≡ true → length (before_first p text) ≡ position_or_len p text
before_length p text h =
    let n = position_or_len p text in
    let below : n < length text = any_below p text h in
    let whole : length (take n text) + length (drop n text) ≡ length text = sym (length-append (take n text) (drop n text)) ∙ ap length (take-append-drop n text) in
    let rest : length (drop n text) ≡ length text - n = length-drop n text in
    omega (arith, whole, rest, below)

pub magic-sound : (w : Wanted) (text : List ℕ) (r : Range ℕ) → place_in_magic w text ≡ Some r → HoldsBytes text r (bytes_of w)
magic-sound w text r h = elim (cases_Bool (list_any is_open text)) [
  | inl y ↦
      let found : place_in_pieces w (position_or_len is_open text + 1) (long_text_of text) ≡ Some r = rw y at h in
      let front = before_first is_open text ++ open_paren ∷ [] in
      let far : position_or_len is_open text + 1 ≡ length front = ap (λ k. k + 1) (sym (before_length is_open text y)) ∙ sym (step_length (before_first is_open text) open_paren) in
      let rest = after_first is_open text in
      let n = position_or_len is_close rest in
      let there = pieces-sound w front (take n rest) (drop n rest) r (subst (λ k. place_in_pieces w k (take n rest) ≡ Some r) far found) in
      let whole : front ++ take n rest ++ drop n rest ≡ text =
      append_assoc front (take n rest) (drop n rest) ∙ (ap (λ x. front ++ x) (take-append-drop n rest) ∙ (append_assoc (before_first is_open text) (open_paren ∷ []) rest ∙ sym (at_first open_paren text y))) in
      recut _ text r (bytes_of w) whole there
  | inr n ↦ let found : None ≡ Some r = rw n at h in absurd (none_some r found)
]

-- ---- elsewhere

pub first-sound : (byte : ℕ) (text : List ℕ) (r : Range ℕ) → place_of_first byte text ≡ Some r → HoldsBytes text r (byte ∷ [])
first-sound byte text r h = elim (cases_Bool (list_any (λ b. b == byte) text)) [
  | inl y ↦
      let front = before_first (λ b. b == byte) text in
      let rest = after_first (λ b. b == byte) text in
      let found : Some (bytes_from (position_or_len (λ b. b == byte) text) 1) ≡ Some r = rw y at h in
      let range : bytes_from (length front) 1 ≡ r = ap (λ k. bytes_from k 1) (before_length (λ b. b == byte) text y) ∙ some_same _ r found in
      let whole : front ++ (byte ∷ []) ++ rest ≡ text = append_assoc front (byte ∷ []) rest ∙ sym (at_first byte text y) in
      recut _ text r (byte ∷ []) whole (middle_at front (byte ∷ []) rest r range)
  | inr n ↦ let found : None ≡ Some r = rw n at h in absurd (none_some r found)
]

end-sound : (path text back : List ℕ) (r : Range ℕ) → place_at_end path text ≡ Some r → HoldsBytes (text ++ back) r path
end-sound path text back r h = elim (cases_Bool (ends_with nat_eq text path)) [
  | inl y ↦
      let n = length text - length path in
      let found : Some (bytes_from n (length path)) ≡ Some r = rw y at h in
      let same : path ≡ drop n text = (bytes_eq-Decides path (drop n text)).0 y in
      let cut : take n text ++ path ≡ text = ap (λ x. take n text ++ x) same ∙ take-append-drop n text in
      let far : length (take n text) ≡ n = omega (arith, length-append (take n text) path, ap length cut) in
      let range : bytes_from (length (take n text)) (length path) ≡ r = ap (λ k. bytes_from k (length path)) far ∙ some_same _ r found in
      recut _ (text ++ back) r path (ap (λ x. x ++ back) cut) (middle_at (take n text) path back r range)
  | inr z ↦ let found : None ≡ Some r = rw z at h in absurd (none_some r found)
]

-- a path and its last slash
slash_left : (path : List ℕ) → (rest : List ℕ) × (without_last_slash path ++ rest ≡ path)
slash_left path = elim (cases_Bool (ends_with_slash path)) [
  | inl y ↦ rw y (drop (length path - 1) path, take-append-drop (length path - 1) path)
  | inr n ↦ rw n ([], append-nil path)
]

pub path-sound : (path text : List ℕ) (r : Range ℕ) → place_of_path path text ≡ Some r → HoldsBytes text r path
path-sound path text r h = elim (or_found (place_at_end path (without_last_slash text)) (place_at_end path text) r h) [
  | inl e ↦ let left = slash_left text in recut _ text r path left.1 (end-sound path (without_last_slash text) left.0 r e)
  | inr e ↦ recut _ text r path (append-nil text) (end-sound path text [] r e.1)
]
