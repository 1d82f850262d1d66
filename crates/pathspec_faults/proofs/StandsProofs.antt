-- What a fault carries is found in the text that is refused.
use Rattle.std.proofs.Common.{◌≡◌, ℕ, ◌+◌, Bool, true, false, not, ◌&&◌, ◌⊎◌, inl, inr, refl, sym, ◌∙◌, ap, subst, List, [], ◌∷◌, ◌++◌, length, take, drop, map, filter, Option, Some, None, is_some, unwrap_or, Result, Ok, Err, ◌==◌, append_assoc, cond}
use Rattle.std.proofs.lemmas.Bool.{cases_Bool, cond-true, cond-false, eqb-true, eq-eqb, and_parts, or_parts, or_from, both_ways, false_from_ne_true, false≢true}
use Rattle.std.proofs.lemmas.List.{append-nil, take-append-drop}
use Rattle.std.proofs.lemmas.Slice.Eq.{bytes_eq-Decides}
use Rattle.std.proofs.Math.Numerals.{one-add}
use Rattle.std.specs.Prelude.{bytes_eq, codes}
use Rattle.std.specs.List.{slice_split, before_first, after_first, position_or_len, list_any, list_all}
use Rattle.std.specs.Option.{option_or}
use Rattle.std.specs.declared.ops.Range.{Range}
use Rattle.pathspec_pattern.specs.declared.SearchMode.TheVariants.{Literal, PathAwareGlob}
use Rattle.pathspec_pattern.specs.Specs.{top, icase, exclude}
use Rattle.pathspec_parts.specs.Bytes.{bang, dash, backslash, colon, open_paren, close_paren, is_empty, begins_with}
use Rattle.pathspec_parts.specs.Attributes.{State, Assignment, is_attribute_name}
use Rattle.pathspec_parts.specs.Attributes.State.{Set, Unset, Value as ValueState, Unspecified}
use Rattle.pathspec_pattern.specs.Results.{all_ok, ◌>>=◌}
use Rattle.pathspec_pattern.specs.Faults.{Fault}
use Rattle.pathspec_pattern.specs.Faults.Fault.{InvalidKeyword, LiteralWithGlob, SecondAttributes, InvalidPrefix, EmptyAttributes, InvalidName, InvalidValueByte, TrailingEscape}
use Rattle.pathspec_pattern.specs.AttributeLists.{name_of, is_value_byte, byte_of_written, value_of, written_bytes, assignment_with_state, assignment_with_value, assignment_of, assignments_of, parts}
use Rattle.pathspec_pattern.specs.Reading.{Keyword, keyword_of, Magic, with_piece, with_pieces, same_mode, is_number, long_pieces, long_pieces_from, Cut, IsCut, text_of, end_mark, in_parentheses, is_short, holds_close}
use Rattle.pathspec_pattern.specs.Reading.Keyword.{Flag, Mode, Ignored, Attributes, PrefixLength, Unknown}
use Rattle.pathspec_pattern.proofs.AttributeTextProofs.{list_any-append_none, list_any-append_hit, before-append, after-append}
use Rattle.pathspec_faults.specs.Places.{Wanted, place_if_equal, first_place, is_space, is_equals_sign, is_marked, value_start, place_of_byte, place_in_assignment, place_in_part, place_in_list, place_in_piece, place_in_pieces, is_open, is_close, long_text_of, place_in_magic, wanted_of}
use Rattle.pathspec_faults.specs.Places.Wanted.{Piece, Name, Value, ValueByte}

-- ---- results, and what holds of their faults

-- P holds of the fault, where there is one.
abbrev pub Meets : {A : Type 0} → (Fault → Type 0) → Result A Fault → Type 0
Meets P (Ok x) = Unit {0}
Meets P (Err fault) = P fault

bind_meets : {A B : Type 0} (P : Fault → Type 0) (r : Result A Fault) (f : A → Result B Fault) → Meets P r → ((x : A) → Meets P (f x)) → Meets P (r >>= f)
bind_meets P (Ok x) f h k = k x
bind_meets P (Err fault) f h k = h

cond_meets : {A : Type 0} (P : Fault → Type 0) (b : Bool) (x y : Result A Fault) → (b ≡ true → Meets P x) → (b ≡ false → Meets P y) → Meets P (cond b x y)
cond_meets P true x y h k = h refl
cond_meets P false x y h k = k refl

-- and what holds more widely
meets_more : {A : Type 0} (P Q : Fault → Type 0) (r : Result A Fault) → ((fault : Fault) → P fault → Q fault) → Meets P r → Meets Q r
meets_more P Q (Ok x) w h = tt
meets_more P Q (Err fault) w h = w fault h

more_meet : {A : Type 0} (P : Fault → Type 0) (r : Result A Fault) (rs : List (Result A Fault)) → Meets P r → Meets P (all_ok rs) → Meets P (all_ok (r ∷ rs))
more_meet P (Ok x) rs h k = bind_meets P (all_ok rs) (λ xs. Ok (x ∷ xs)) k (λ xs. tt)
more_meet P (Err fault) rs h k = h

-- the text is in the list
abbrev pub IsAmongTexts : List (List ℕ) → List ℕ → Type 0
IsAmongTexts [] text = ⊥
IsAmongTexts (t ∷ ts) text = (t ≡ text) ⊎ IsAmongTexts ts text

pub among_filtered : (p : List ℕ → Bool) (texts : List (List ℕ)) (text : List ℕ) → IsAmongTexts (filter p texts) text → IsAmongTexts texts text
among_filtered p [] text h = h
among_filtered p (t ∷ ts) text h = elim (cases_Bool (p t)) [
  | inl y ↦
      let it : (t ≡ text) ⊎ IsAmongTexts (filter p ts) text = rw y at h in
      elim it [ inl e ↦ inl e | inr a ↦ inr (among_filtered p ts text a) ]
  | inr n ↦ let it : IsAmongTexts (filter p ts) text = rw n at h in inr (among_filtered p ts text it)
]

all_meet : {A : Type 0} (P : Fault → Type 0) (f : List ℕ → Result A Fault) (texts : List (List ℕ)) → ((t : List ℕ) → IsAmongTexts texts t → Meets P (f t)) → Meets P (all_ok (map f texts))
all_meet P f [] h = tt
all_meet P f (t ∷ ts) h = more_meet P (f t) (map f ts) (h t (inl refl)) (all_meet P f ts (λ u a. h u (inr a)))

-- ---- places that are found

-- A place is found in the text, wherever that begins.
abbrev pub Finds : (ℕ → List ℕ → Option (Range ℕ)) → List ℕ → Type 0
Finds place text = (start : ℕ) → is_some (place start text) ≡ true

-- What the fault is looked for by is found in the text.
abbrev pub Stands : (Wanted → ℕ → List ℕ → Option (Range ℕ)) → List ℕ → Fault → Type 0
Stands place text fault = (w : Wanted) × (wanted_of fault ≡ Some w) × Finds (place w) text

pub some_same : {A : Type 0} (x y : A) → Some x ≡ Some y → x ≡ y
some_same x y h = cc

stands : (place : Wanted → ℕ → List ℕ → Option (Range ℕ)) (text : List ℕ) (fault : Fault) (w : Wanted) → wanted_of fault ≡ Some w → Finds (place w) text → Stands place text fault
stands place text fault w e found = (w, e, found)

pub some_left : {A : Type 0} (o p : Option A) → is_some o ≡ true → is_some (option_or o p) ≡ true
some_left None p h = absurd (false≢true h)
some_left (Some x) p h = refl

pub some_right : {A : Type 0} (o p : Option A) → is_some p ≡ true → is_some (option_or o p) ≡ true
some_right None p h = h
some_right (Some x) p h = refl

pub first_finds : (place : ℕ → List ℕ → Option (Range ℕ)) (texts : List (List ℕ)) (text : List ℕ) → IsAmongTexts texts text → Finds place text → (start : ℕ) → is_some (first_place place start texts) ≡ true
first_finds place [] text a found start = absurd a
first_finds place (t ∷ ts) text a found start = elim a [
  | inl e ↦ some_left (place start t) (first_place place (start + length t + 1) ts) (subst (λ (x : List ℕ). is_some (place start x) ≡ true) (sym e) (found start))
  | inr b ↦ some_right (place start t) (first_place place (start + length t + 1) ts) (first_finds place ts text b found (start + length t + 1))
]

pub equal_finds : (wanted : List ℕ) → Finds (place_if_equal wanted) wanted
equal_finds wanted start = rw ((bytes_eq-Decides wanted wanted).1 refl) refl

-- ---- a value

next_finds : (w : ℕ) (e : Bool) (b : ℕ) (bs : List ℕ) → Finds (place_of_byte w (b == backslash && not e)) bs → Finds (place_of_byte w e) (b ∷ bs)
next_finds w e b bs h start = elim (cases_Bool (b == backslash && not e)) [
  | inl s ↦ let next : Finds (place_of_byte w true) bs = rw s at h in rw s (next (start + 1))
  | inr n ↦ elim (cases_Bool (b == w)) [
    | inl y ↦ rw (n, y) refl
    | inr z ↦ let next : Finds (place_of_byte w false) bs = rw n at h in rw (n, z) (next (start + 1))
  ]
]

here_finds : (b : ℕ) (e : Bool) (bs : List ℕ) → (b == backslash && not e) ≡ false → Finds (place_of_byte b e) (b ∷ bs)
here_finds b e bs n start = rw (n, eq-eqb b b refl) refl

-- the faults of a value, after a backslash or not
abbrev IsValueFault : List ℕ → Bool → List ℕ → Fault → Type 0
IsValueFault written e bs fault = (fault ≡ TrailingEscape written) ⊎ ((b : ℕ) × (fault ≡ InvalidValueByte b) × Finds (place_of_byte b e) bs)

value_fault-next : (written : List ℕ) (e : Bool) (b : ℕ) (bs : List ℕ) (fault : Fault) → IsValueFault written (b == backslash && not e) bs fault → IsValueFault written e (b ∷ bs) fault
value_fault-next written e b bs fault h = elim h [
  | inl t ↦ inl t
  | inr it ↦ inr (it.0, it.1, next_finds it.0 e b bs it.2)
]

checked : (written : List ℕ) (e : Bool) (b : ℕ) (bs : List ℕ) → (b == backslash && not e) ≡ false → Meets (IsValueFault written e (b ∷ bs)) (cond (is_value_byte b) (Ok b) (Err (InvalidValueByte b)))
checked written e b bs n = cond_meets (IsValueFault written e (b ∷ bs)) (is_value_byte b) (Ok b) (Err (InvalidValueByte b)) (λ y. tt) (λ z. inr (b, refl, here_finds b e bs n))

-- units of a value, of which the first is a byte
byte_meets : (written : List ℕ) (e : Bool) (b : ℕ) (bs : List ℕ) → (b == backslash && not e) ≡ false
    → Meets (IsValueFault written false bs) (all_ok (map (byte_of_written written) (written_bytes false bs)))
    → Meets (IsValueFault written e (b ∷ bs)) (all_ok (cond (is_value_byte b) (Ok b) (Err (InvalidValueByte b)) ∷ map (byte_of_written written) (written_bytes false bs)))
byte_meets written e b bs n h =
    let wider : (fault : Fault) → IsValueFault written false bs fault → IsValueFault written e (b ∷ bs) fault =
    λ fault k. value_fault-next written e b bs fault (subst (λ (x : Bool). IsValueFault written x bs fault) (sym n) k) in
    let more = meets_more (IsValueFault written false bs) (IsValueFault written e (b ∷ bs)) (all_ok (map (byte_of_written written) (written_bytes false bs))) wider h in
    more_meet (IsValueFault written e (b ∷ bs)) (cond (is_value_byte b) (Ok b) (Err (InvalidValueByte b))) (map (byte_of_written written) (written_bytes false bs)) (checked written e b bs n) more

value_meets : (written : List ℕ) (e : Bool) (bs : List ℕ) → Meets (IsValueFault written e bs) (all_ok (map (byte_of_written written) (written_bytes e bs)))
value_meets written false [] = tt
value_meets written true [] = inl refl
value_meets written false (b ∷ bs) = elim (cases_Bool (b == backslash)) [
  | inl s ↦
      let mark : (b == backslash && not false) ≡ true = rw s refl in
      let wider : (fault : Fault) → IsValueFault written true bs fault → IsValueFault written false (b ∷ bs) fault =
      λ fault k. value_fault-next written false b bs fault (subst (λ (x : Bool). IsValueFault written x bs fault) (sym mark) k) in
      let more = meets_more (IsValueFault written true bs) (IsValueFault written false (b ∷ bs)) (all_ok (map (byte_of_written written) (written_bytes true bs))) wider (value_meets written true bs) in
      let same : all_ok (map (byte_of_written written) (written_bytes false (b ∷ bs))) ≡ all_ok (map (byte_of_written written) (written_bytes true bs)) = rw s refl in
      subst (λ (r : Result (List ℕ) Fault). Meets (IsValueFault written false (b ∷ bs)) r) (sym same) more
  | inr n ↦
      let mark : (b == backslash && not false) ≡ false = rw n refl in
      let same : all_ok (map (byte_of_written written) (written_bytes false (b ∷ bs))) ≡ all_ok (cond (is_value_byte b) (Ok b) (Err (InvalidValueByte b)) ∷ map (byte_of_written written) (written_bytes false bs)) = rw n refl in
      subst (λ (r : Result (List ℕ) Fault). Meets (IsValueFault written false (b ∷ bs)) r) (sym same) (byte_meets written false b bs mark (value_meets written false bs))
]
value_meets written true (b ∷ bs) =
    let mark : (b == backslash && not true) ≡ false = elim (cases_Bool (b == backslash)) [ inl s ↦ rw s refl | inr n ↦ rw n refl ] in
    byte_meets written true b bs mark (value_meets written false bs)

-- ---- a part of a list

-- a state and a name, where that stands in the part
state_meets : (part : List ℕ) (state : State) (name : List ℕ) → Finds (place_in_part (Name name)) part → Meets (Stands place_in_part part) (assignment_with_state state name)
state_meets part state name found =
    bind_meets (Stands place_in_part part) (name_of name) (λ n. Ok (record { name = n; state = state }))
    (cond_meets (Stands place_in_part part) (is_attribute_name name) (Ok name) (Err (InvalidName name)) (λ y. tt) (λ n. stands place_in_part part (InvalidName name) (Name name) refl found)) (λ n. tt)

marked_finds : (b : ℕ) (bs : List ℕ) → is_marked (b ∷ bs) ≡ true → Finds (place_in_part (Name bs)) (b ∷ bs)
marked_finds b bs h start = rw h (equal_finds bs (start + 1))

-- a part without a mark
module _ (part : List ℕ) (plain : is_marked part ≡ false) where
  plain_finds : (w : Wanted) → Finds (place_in_assignment w) part → Finds (place_in_part w) part
  plain_finds w h start = rw plain (h start)

  name_finds : Finds (place_in_part (Name (before_first is_equals_sign part))) part
  name_finds = plain_finds (Name (before_first is_equals_sign part)) (λ start. equal_finds (before_first is_equals_sign part) start)

  valued_meets : Meets (Stands place_in_part part) (assignment_with_value (before_first is_equals_sign part) (after_first is_equals_sign part))
  valued_meets =
      let written = after_first is_equals_sign part in
      bind_meets (Stands place_in_part part) (value_of written) (λ v. assignment_with_state (ValueState v) (before_first is_equals_sign part))
      (meets_more (IsValueFault written false written) (Stands place_in_part part) (value_of written)
      (λ fault h. elim h [
        | inl t ↦ subst (λ (f : Fault). Stands place_in_part part f) (sym t) (stands place_in_part part (TrailingEscape written) (Value written) refl (plain_finds (Value written) (λ start. equal_finds written (value_start start part))))
        | inr it ↦ subst (λ (f : Fault). Stands place_in_part part f) (sym it.1) (stands place_in_part part (InvalidValueByte it.0) (ValueByte it.0) refl (plain_finds (ValueByte it.0) (λ start. it.2 (value_start start part))))
      ]) (value_meets written false written))
      (λ v. state_meets part (ValueState v) (before_first is_equals_sign part) name_finds)

-- nothing stands before the first byte of a kind that a text lacks
before_none : (p : ℕ → Bool) (text : List ℕ) → list_any p text ≡ false → before_first p text ≡ text
before_none p [] h = refl
before_none p (b ∷ bs) h = let q = or_parts (p b) (list_any p bs) h in rw (q.0, one-add) (ap (λ x. b ∷ x) (before_none p bs q.1))

-- what is met is met by the same result
same_meets : (part : List ℕ) (r other : Result Assignment Fault) → r ≡ other → Meets (Stands place_in_part part) other → Meets (Stands place_in_part part) r
same_meets part r other e h = subst (λ (x : Result Assignment Fault). Meets (Stands place_in_part part) x) (sym e) h

part_meets : (part : List ℕ) → Meets (Stands place_in_part part) (assignment_of part)
unfolding assignment_of
part_meets [] = state_meets [] Set [] (name_finds [] refl)
part_meets (b ∷ bs) = elim (cases_Bool (b == bang)) [
  | inl y ↦
      let marked : is_marked (b ∷ bs) ≡ true = rw y refl in
      let same : assignment_of (b ∷ bs) ≡ assignment_with_state Unspecified bs = rw y refl in
      same_meets (b ∷ bs) (assignment_of (b ∷ bs)) (assignment_with_state Unspecified bs) same (state_meets (b ∷ bs) Unspecified bs (marked_finds b bs marked))
  | inr n ↦ elim (cases_Bool (b == dash)) [
    | inl y ↦
        let marked : is_marked (b ∷ bs) ≡ true = rw (n, y) refl in
        let same : assignment_of (b ∷ bs) ≡ assignment_with_state Unset bs = rw (n, y) refl in
        same_meets (b ∷ bs) (assignment_of (b ∷ bs)) (assignment_with_state Unset bs) same (state_meets (b ∷ bs) Unset bs (marked_finds b bs marked))
    | inr m ↦
        let plain : is_marked (b ∷ bs) ≡ false = rw (n, m) refl in
        let name = before_first is_equals_sign (b ∷ bs) in
        let written = after_first is_equals_sign (b ∷ bs) in
        let unmarked : assignment_of (b ∷ bs) ≡ cond (list_any is_equals_sign (b ∷ bs)) (assignment_with_value name written) (assignment_with_state Set (b ∷ bs)) = rw (n, m) refl in
        elim (cases_Bool (list_any is_equals_sign (b ∷ bs))) [
          | inl y ↦
              let same : assignment_of (b ∷ bs) ≡ assignment_with_value name written = unmarked ∙ cond-true (list_any is_equals_sign (b ∷ bs)) _ _ y in
              same_meets (b ∷ bs) (assignment_of (b ∷ bs)) (assignment_with_value name written) same (valued_meets (b ∷ bs) plain)
          | inr z ↦
              let same : assignment_of (b ∷ bs) ≡ assignment_with_state Set (b ∷ bs) = unmarked ∙ cond-false (list_any is_equals_sign (b ∷ bs)) _ _ z in
              let found : Finds (place_in_part (Name (b ∷ bs))) (b ∷ bs) = subst (λ (x : List ℕ). Finds (place_in_part (Name x)) (b ∷ bs)) (before_none is_equals_sign (b ∷ bs) z) (name_finds (b ∷ bs) plain) in
              same_meets (b ∷ bs) (assignment_of (b ∷ bs)) (assignment_with_state Set (b ∷ bs)) same (state_meets (b ∷ bs) Set (b ∷ bs) found)
        ]
  ]
]

-- ---- a list

list_meets : (list : List ℕ) → Meets (Stands place_in_list list) (all_ok (map assignment_of (parts list)))
list_meets list = all_meet (Stands place_in_list list) assignment_of (parts list) (λ part a.
    meets_more (Stands place_in_part part) (Stands place_in_list list) (assignment_of part)
    (λ fault h. (h.0, h.1, first_finds (place_in_part h.0) (slice_split is_space list) part (among_filtered (λ p. not (is_empty p)) (slice_split is_space list) part a) h.2)) (part_meets part))

-- ---- a piece

-- no whole piece is found in a list
no_piece_in_part : (piece : List ℕ) (start : ℕ) (part : List ℕ) → place_in_part (Piece piece) start part ≡ None
no_piece_in_part piece start part = elim (cases_Bool (is_marked part)) [ inl y ↦ rw y refl | inr n ↦ rw n refl ]

no_piece_in_list : (piece : List ℕ) (start : ℕ) (texts : List (List ℕ)) → first_place (place_in_part (Piece piece)) start texts ≡ None
no_piece_in_list piece start [] = refl
no_piece_in_list piece start (t ∷ ts) = rw (no_piece_in_part piece start t) (no_piece_in_list piece (start + length t + 1) ts)

-- what stands in the list of a piece stands in the piece
list_in_piece : (piece : List ℕ) (w : Wanted) → begins_with piece (codes "attr:") ≡ true → Finds (place_in_list w) (drop 5 piece) → Finds (place_in_piece w) piece
list_in_piece piece (Piece wanted) y h start = absurd (false≢true (sym (ap is_some (no_piece_in_list wanted start (slice_split is_space (drop 5 piece)))) ∙ h start))
list_in_piece piece (Name name) y h start = rw y (h (start + 5))
list_in_piece piece (Value value) y h start = rw y (h (start + 5))
list_in_piece piece (ValueByte byte) y h start = rw y (h (start + 5))

none_left : (xs : List ℕ) → is_empty xs ≡ true → xs ≡ []
none_left [] h = refl
none_left (x ∷ xs) h = absurd (false≢true h)

-- a piece that is `attr:` and nothing more
bare_list : (piece : List ℕ) → begins_with piece (codes "attr:") ≡ true → is_empty (drop 5 piece) ≡ true → piece ≡ codes "attr:"
bare_list piece y e =
    let same : codes "attr:" ≡ take 5 piece = (bytes_eq-Decides (codes "attr:") (take 5 piece)).0 y in
    sym (take-append-drop 5 piece) ∙ (ap (λ x. take 5 piece ++ x) (none_left (drop 5 piece) e) ∙ (append-nil (take 5 piece) ∙ sym same))

-- the list of a piece
attributes_meet : (piece : List ℕ) → begins_with piece (codes "attr:") ≡ true → Meets (Stands place_in_piece piece) (assignments_of (drop 5 piece))
unfolding assignments_of
attributes_meet piece y =
    cond_meets (Stands place_in_piece piece) (is_empty (drop 5 piece)) (Err EmptyAttributes) (all_ok (map assignment_of (parts (drop 5 piece))))
    (λ e. stands place_in_piece piece EmptyAttributes (Piece (codes "attr:")) refl (subst (λ (x : List ℕ). Finds (place_in_piece (Piece (codes "attr:"))) x) (sym (bare_list piece y e)) (equal_finds (codes "attr:"))))
    (λ n. meets_more (Stands place_in_list (drop 5 piece)) (Stands place_in_piece piece) (all_ok (map assignment_of (parts (drop 5 piece))))
    (λ fault h. (h.0, h.1, list_in_piece piece h.0 y h.2)) (list_meets (drop 5 piece)))

-- the other branch of a choice
cond_right : {A : Type 0} (b : Bool) (x y z : A) → (x ≡ z → ⊥) → cond b x y ≡ z → y ≡ z
cond_right true x y z differs h = absurd (differs h)
cond_right false x y z differs h = h

-- a keyword with a list is `attr:` and the list
list_keyword : (piece list : List ℕ) → keyword_of piece ≡ Attributes list → (begins_with piece (codes "attr:") ≡ true) × (drop 5 piece ≡ list)
list_keyword piece list h =
    let no_top = cond_right (bytes_eq piece (codes "top")) (Flag top) _ (Attributes list) (λ e. let no : ⊥ = cc in no) h in
    let no_icase = cond_right (bytes_eq piece (codes "icase")) (Flag icase) _ (Attributes list) (λ e. let no : ⊥ = cc in no) no_top in
    let no_exclude = cond_right (bytes_eq piece (codes "exclude")) (Flag exclude) _ (Attributes list) (λ e. let no : ⊥ = cc in no) no_icase in
    let no_literal = cond_right (bytes_eq piece (codes "literal")) (Mode Literal) _ (Attributes list) (λ e. let no : ⊥ = cc in no) no_exclude in
    let no_glob = cond_right (bytes_eq piece (codes "glob")) (Mode PathAwareGlob) _ (Attributes list) (λ e. let no : ⊥ = cc in no) no_literal in
    let valued = cond_right (bytes_eq piece (codes "attr")) (Ignored) _ (Attributes list) (λ e. let no : ⊥ = cc in no) no_glob in
    elim (cases_Bool (begins_with piece (codes "attr:"))) [
      | inl y ↦ let it : Attributes (drop 5 piece) ≡ Attributes list = rw y at valued in (y, let same : drop 5 piece ≡ list = cc in same)
      | inr n ↦
          let it : cond (begins_with piece (codes "prefix:")) (PrefixLength (drop 7 piece)) Unknown ≡ Attributes list = rw n at valued in
          elim (cases_Bool (begins_with piece (codes "prefix:"))) [
            | inl y ↦ let bad : PrefixLength (drop 7 piece) ≡ Attributes list = rw y at it in absurd (let no : ⊥ = cc in no)
            | inr m ↦ let bad : Unknown ≡ Attributes list = rw m at it in absurd (let no : ⊥ = cc in no)
          ]
    ]

whole_piece : (piece : List ℕ) (fault : Fault) → wanted_of fault ≡ Some (Piece piece) → Stands place_in_piece piece fault
whole_piece piece fault e = stands place_in_piece piece fault (Piece piece) e (equal_finds piece)

piece_meets : (magic : Magic) (piece : List ℕ) (keyword : Keyword) → keyword_of piece ≡ keyword → Meets (Stands place_in_piece piece) (with_piece magic piece keyword)
piece_meets magic piece (Flag flag) k = tt
piece_meets magic piece (Mode mode) k = cond_meets (Stands place_in_piece piece) (same_mode (unwrap_or magic.mode mode) mode) (Ok (record magic { mode = Some mode })) (Err (LiteralWithGlob piece)) (λ y. tt) (λ n. whole_piece piece (LiteralWithGlob piece) refl)
piece_meets magic piece Ignored k = tt
piece_meets magic piece (Attributes list) k =
    let of_piece = list_keyword piece list k in
    cond_meets (Stands place_in_piece piece) (is_empty magic.attributes) (assignments_of list >>= λ assignments. Ok (record magic { attributes = assignments })) (Err (SecondAttributes piece))
    (λ y. bind_meets (Stands place_in_piece piece) (assignments_of list) (λ assignments. Ok (record magic { attributes = assignments }))
    (subst (λ (x : List ℕ). Meets (Stands place_in_piece piece) (assignments_of x)) of_piece.1 (attributes_meet piece of_piece.0)) (λ assignments. tt))
    (λ n. whole_piece piece (SecondAttributes piece) refl)
piece_meets magic piece (PrefixLength digits) k = cond_meets (Stands place_in_piece piece) (is_number digits) (Ok (record magic { prefix = Some piece })) (Err (InvalidPrefix piece)) (λ y. tt) (λ n. whole_piece piece (InvalidPrefix piece) refl)
piece_meets magic piece Unknown k = whole_piece piece (InvalidKeyword piece) refl

-- ---- all pieces

-- one of the pieces tells the fault
abbrev StandsAmong : List (List ℕ) → Fault → Type 0
StandsAmong pieces fault = (piece : List ℕ) × IsAmongTexts pieces piece × Stands place_in_piece piece fault

pieces_meet : (magic : Magic) (pieces : List (List ℕ)) → Meets (StandsAmong pieces) (with_pieces magic pieces)
pieces_meet magic [] = tt
pieces_meet magic (piece ∷ pieces) =
    bind_meets (StandsAmong (piece ∷ pieces)) (with_piece magic piece (keyword_of piece)) (λ next. with_pieces next pieces)
    (meets_more (Stands place_in_piece piece) (StandsAmong (piece ∷ pieces)) (with_piece magic piece (keyword_of piece)) (λ fault h. (piece, inl refl, h)) (piece_meets magic piece (keyword_of piece) refl))
    (λ next. meets_more (StandsAmong pieces) (StandsAmong (piece ∷ pieces)) (with_pieces next pieces) (λ fault h. (h.0, inr h.1, h.2)) (pieces_meet next pieces))

-- what the faults of long magic are looked for by is found in it
pub long_meets : (magic : Magic) (long : List ℕ) → Meets (Stands place_in_pieces long) (with_pieces magic (long_pieces long))
long_meets magic long =
    meets_more (StandsAmong (long_pieces long)) (Stands place_in_pieces long) (with_pieces magic (long_pieces long))
    (λ fault h. (h.2.0, h.2.1, first_finds (place_in_piece h.2.0) (long_pieces_from 0 long) h.0 (among_filtered (λ p. not (is_empty p)) (long_pieces_from 0 long) h.0 h.1) h.2.2))
    (pieces_meet magic (long_pieces long))

-- ---- the prefix length that is asked for

-- P holds of the magic, where there is any.
abbrev pub Gives : (Magic → Type 0) → Result Magic Fault → Type 0
Gives P (Ok magic) = P magic
Gives P (Err fault) = Unit {0}

bind_gives : {A : Type 0} (P : Magic → Type 0) (r : Result A Fault) (f : A → Result Magic Fault) → ((x : A) → Gives P (f x)) → Gives P (r >>= f)
bind_gives P (Ok x) f k = k x
bind_gives P (Err fault) f k = tt

cond_gives : (P : Magic → Type 0) (b : Bool) (x y : Result Magic Fault) → Gives P x → Gives P y → Gives P (cond b x y)
cond_gives P true x y h k = h
cond_gives P false x y h k = k

-- the piece that asks for a prefix length is that of the magic, or one of these
abbrev pub AsksBy : Magic → List (List ℕ) → Magic → Type 0
AsksBy magic pieces next = (piece : List ℕ) → next.prefix ≡ Some piece → (magic.prefix ≡ Some piece) ⊎ IsAmongTexts pieces piece

piece_asks : (magic : Magic) (piece : List ℕ) (keyword : Keyword) → Gives (AsksBy magic (piece ∷ [])) (with_piece magic piece keyword)
piece_asks magic piece (Flag flag) = λ p h. inl h
piece_asks magic piece (Mode mode) = cond_gives (AsksBy magic (piece ∷ [])) (same_mode (unwrap_or magic.mode mode) mode) (Ok (record magic { mode = Some mode })) (Err (LiteralWithGlob piece)) (λ p h. inl h) tt
piece_asks magic piece Ignored = λ p h. inl h
piece_asks magic piece (Attributes list) =
    cond_gives (AsksBy magic (piece ∷ [])) (is_empty magic.attributes) (assignments_of list >>= λ assignments. Ok (record magic { attributes = assignments })) (Err (SecondAttributes piece))
    (bind_gives (AsksBy magic (piece ∷ [])) (assignments_of list) (λ assignments. Ok (record magic { attributes = assignments })) (λ assignments p h. inl h)) tt
piece_asks magic piece (PrefixLength digits) = cond_gives (AsksBy magic (piece ∷ [])) (is_number digits) (Ok (record magic { prefix = Some piece })) (Err (InvalidPrefix piece)) (λ p h. inr (inl (some_same piece p h))) tt
piece_asks magic piece Unknown = tt

gives_more : (P Q : Magic → Type 0) (r : Result Magic Fault) → ((m : Magic) → P m → Q m) → Gives P r → Gives Q r
gives_more P Q (Ok m) w h = w m h
gives_more P Q (Err fault) w h = tt

then_gives : (P Q : Magic → Type 0) (r : Result Magic Fault) (f : Magic → Result Magic Fault) → Gives P r → ((m : Magic) → P m → Gives Q (f m)) → Gives Q (r >>= f)
then_gives P Q (Ok m) f h k = k m h
then_gives P Q (Err fault) f h k = tt

pub pieces_ask : (magic : Magic) (pieces : List (List ℕ)) → Gives (AsksBy magic pieces) (with_pieces magic pieces)
pieces_ask magic [] = λ p h. inl h
pieces_ask magic (piece ∷ pieces) =
    then_gives (AsksBy magic (piece ∷ [])) (AsksBy magic (piece ∷ pieces)) (with_piece magic piece (keyword_of piece)) (λ next. with_pieces next pieces) (piece_asks magic piece (keyword_of piece))
    (λ next asks. gives_more (AsksBy next pieces) (AsksBy magic (piece ∷ pieces)) (with_pieces next pieces)
    (λ last more p h. elim (more p h) [
      | inl before ↦ elim (asks p before) [ inl first ↦ inl first | inr here ↦ elim here [ inl e ↦ inr (inl e) | inr none ↦ absurd none ] ]
      | inr a ↦ inr (inr a)
    ]) (pieces_ask next pieces))

-- ---- a text

-- the byte `(` is no short magic
open_not_short : (b : ℕ) → is_short b ≡ true → is_open b ≡ false
open_not_short b s = false_from_ne_true (is_open b) (λ o. both_ways (is_short b) (subst (λ (x : ℕ). is_short x ≡ false) (sym (eqb-true b open_paren o)) refl) s)

none_open : (short : List ℕ) → list_all is_short short ≡ true → list_any is_open short ≡ false
none_open [] h = refl
none_open (b ∷ bs) h = let q = and_parts (is_short b) (list_all is_short bs) h in or_from (is_open b) (list_any is_open bs) (open_not_short b q.0) (none_open bs q.1)

end_open : (ended : Bool) → list_any is_open (end_mark ended) ≡ false
end_open true = refl
end_open false = refl

-- long magic between its parentheses, and what stands around it
in_cut : (w : Wanted) (front long body : List ℕ) → list_any is_open front ≡ false → list_any is_close long ≡ false → Finds (place_in_pieces w) long → is_some (place_in_magic w (front ++ open_paren ∷ (long ++ close_paren ∷ body))) ≡ true
in_cut w front long body free unclosed found =
    let rest = long ++ close_paren ∷ body in
    let inner : long_text_of (front ++ open_paren ∷ rest) ≡ long = ap (before_first is_close) (after-append is_open front open_paren rest free refl) ∙ before-append is_close long close_paren body unclosed refl in
    let hit : list_any is_open (front ++ open_paren ∷ rest) ≡ true = list_any-append_hit is_open front open_paren rest refl in
    let start = position_or_len is_open (front ++ open_paren ∷ rest) + 1 in
    let there : is_some (place_in_pieces w start (long_text_of (front ++ open_paren ∷ rest))) ≡ true = subst (λ (x : List ℕ). is_some (place_in_pieces w start x) ≡ true) (sym inner) (found start) in
    ap is_some (cond-true (list_any is_open (front ++ open_paren ∷ rest)) _ _ hit) ∙ there

parens_regrouped : (front long body : List ℕ) → front ++ (open_paren ∷ long ++ close_paren ∷ []) ++ body ≡ front ++ open_paren ∷ (long ++ close_paren ∷ body)
parens_regrouped front long body = simp append_assoc

-- what is found in long magic is found in its text
pub in_text : (cut : Cut) (long : List ℕ) (w : Wanted) → IsCut cut → cut.long ≡ Some long → Finds (place_in_pieces w) long → is_some (place_in_magic w (text_of cut)) ≡ true
in_text cut long w h l found =
    let front = colon ∷ cut.short ++ end_mark cut.ended in
    let whole : text_of cut ≡ front ++ open_paren ∷ (long ++ close_paren ∷ cut.body) = ap (λ o. front ++ in_parentheses o ++ cut.body) l ∙ parens_regrouped front long cut.body in
    let free : list_any is_open front ≡ false = list_any-append_none is_open (colon ∷ cut.short) (end_mark cut.ended) (none_open cut.short h.short) (end_open cut.ended) in
    let unclosed : list_any is_close long ≡ false = subst (λ (o : Option (List ℕ)). holds_close o ≡ false) l h.long in
    subst (λ (t : List ℕ). is_some (place_in_magic w t) ≡ true) (sym whole) (in_cut w front long cut.body free unclosed found)
