-- The laws of places.
use Rattle.std.proofs.Common.{◌≡◌, ℕ, ◌+◌, ◌-◌, ◌≤◌, true, inl, inr, refl, sym, ◌∙◌, ap, subst, List, [], ◌∷◌, ◌++◌, length, take, drop, Option, Some, None, is_some, unwrap_or, Result, Ok, Err, ◌==◌, append_assoc, arith}
use Rattle.std.proofs.lemmas.Bool.{cases_Bool, eq-eqb, false≢true}
use Rattle.std.proofs.lemmas.List.{append-nil, take-append-drop, length-append}
use Rattle.std.proofs.lemmas.Slice.Eq.{bytes_eq-Decides}
use Rattle.std.proofs.Math.Seq.{take-append_seam, drop-append_seam}
use Rattle.std.specs.Prelude.{nat_eq}
use Rattle.std.specs.List.{list_any, ends_with}
use Rattle.std.specs.Option.{option_or}
use Rattle.std.specs.declared.ops.Range.{Range}
use Rattle.pathspec_pattern.specs.declared.defaults.Defaults.{Defaults}
use Rattle.pathspec_parts.specs.Bytes.{slash, colon}
use Rattle.pathspec_parts.specs.Paths.{without_last_slash, ends_with_slash}
use Rattle.pathspec_parts.proofs.RecordProofs.{ends_with_slash-push}
use Rattle.pathspec_pattern.specs.Faults.{Fault}
use Rattle.pathspec_pattern.specs.Faults.Fault.{UnimplementedShort, InvalidKeyword, LiteralWithGlob, SecondAttributes, InvalidPrefix, EmptyAttributes, InvalidName, InvalidValueByte, TrailingEscape, OutsideRoot, LeavesRepository}
use Rattle.pathspec_pattern.specs.Specs.{Spec}
use Rattle.pathspec_pattern.specs.Reading.{Reads, Magic, Cut, IsCut, text_of, end_mark, in_parentheses, long_pieces, long_pieces_from, with_pieces, magic_of, short_bits, spec_of, body_spec, prefix_length_of, no_magic}
use Rattle.pathspec_pattern.specs.Reading.Reads.{verbatim, nothing, plain, magic}
use Rattle.pathspec_pattern.specs.Reading.IsRefused.{empty, short, paren, piece as piece_fault, boundary}
use Rattle.pathspec_pattern.proofs.ResultProofs.{bind_ok}
use Rattle.pathspec_pattern.proofs.ReadingProofs.{same_ok}
use Rattle.pathspec_pattern.proofs.AttributeTextProofs.{list_any-append_hit}
use Rattle.pathspec_faults.specs.Places.{Wanted, whole, wanted_of, place_inside, place_outside, place_of, place_told, place_in_magic, place_in_piece, place_in_pieces, place_of_first, place_at_end, place_of_path}
use Rattle.pathspec_faults.specs.Places.Wanted.{Piece, Name, Value, ValueByte}
use Rattle.pathspec_faults.specs.PlaceLaws.{HoldsBytes, carried, PlaceLiesInText, PlaceHoldsCarried, PlaceHoldsPath, PlaceHoldsWord}
use Rattle.pathspec_faults.proofs.FoundProofs.{bytes_of, or_found, magic-sound, first-sound, path-sound}
use Rattle.pathspec_faults.proofs.StandsProofs.{Meets, Stands, Gives, AsksBy, among_filtered, first_finds, equal_finds, some_left, some_right, some_same, long_meets, pieces_ask, in_text}

found_some : {A : Type 0} (o : Option A) → is_some o ≡ true → (x : A) × (o ≡ Some x)
found_some None h = absurd (false≢true h)
found_some (Some x) h = (x, refl)

none_some : {A : Type 0} (x : A) → None ≡ Some x → ⊥
none_some x h = cc

-- ---- in the text

-- some bytes are held
abbrev HoldsSome : List ℕ → Range ℕ → Type 0
HoldsSome text r = (bytes : List ℕ) × HoldsBytes text r bytes

whole_holds : (text : List ℕ) → HoldsBytes text (whole text) text
whole_holds text = record { before = []; after = []; text_is = sym (append-nil text); range_is = refl }

inside_lies : (wanted : Option Wanted) (text : List ℕ) (r : Range ℕ) → place_inside wanted text ≡ Some r → HoldsSome text r
inside_lies None text r h = absurd (none_some r h)
inside_lies (Some w) text r h = (bytes_of w, magic-sound w text r h)

outside_lies : (fault : Fault) (text : List ℕ) (r : Range ℕ) → place_outside fault text ≡ Some r → HoldsSome text r
outside_lies (UnimplementedShort byte) text r h = (byte ∷ [], first-sound byte text r h)
outside_lies (OutsideRoot path) text r h = (path, path-sound path text r h)
outside_lies (LeavesRepository path) text r h = (path, path-sound path text r h)
outside_lies _ text r h = absurd (none_some r h)

lies_by : (o : Option (Range ℕ)) (text : List ℕ) → ((r : Range ℕ) → o ≡ Some r → HoldsSome text r) → HoldsSome text (unwrap_or o (whole text))
lies_by None text k = (text, whole_holds text)
lies_by (Some r) text k = k r refl

pub place_lies : PlaceLiesInText
place_lies fault text = lies_by (option_or (place_inside (wanted_of fault) text) (place_outside fault text)) text (λ r h.
    elim (or_found (place_inside (wanted_of fault) text) (place_outside fault text) r h) [ inl e ↦ inside_lies (wanted_of fault) text r e | inr e ↦ outside_lies fault text r e.1 ])

pub told_lies : (told : Option Fault) (text : List ℕ) → HoldsSome text (place_told told text)
told_lies None text = (text, whole_holds text)
told_lies (Some fault) text = place_lies fault text

-- what is held lies in the text
pub held_within : (text bytes : List ℕ) (r : Range ℕ) → HoldsBytes text r bytes → (r.start ≤ r.end) × (r.end ≤ length text)
held_within text bytes r h =
    let size : length text ≡ length h.before + length bytes + length h.after = ap length h.text_is ∙ (length-append (h.before ++ bytes) h.after ∙ ap (λ n. n + length h.after) (length-append h.before bytes)) in
    rw h.range_is (let starts : length h.before ≤ length h.before + length bytes = omega arith in starts, let ends : length h.before + length bytes ≤ length text = omega (arith, size) in ends)

-- ---- what a fault of reading carries

carried_wanted : (fault : Fault) (w : Wanted) (bytes : List ℕ) → wanted_of fault ≡ Some w → carried fault ≡ Some bytes → bytes_of w ≡ bytes
carried_wanted (InvalidKeyword piece) w bytes e c = ap bytes_of (sym (some_same (Piece piece) w e)) ∙ some_same piece bytes c
carried_wanted (LiteralWithGlob piece) w bytes e c = ap bytes_of (sym (some_same (Piece piece) w e)) ∙ some_same piece bytes c
carried_wanted (SecondAttributes piece) w bytes e c = ap bytes_of (sym (some_same (Piece piece) w e)) ∙ some_same piece bytes c
carried_wanted (InvalidPrefix piece) w bytes e c = ap bytes_of (sym (some_same (Piece piece) w e)) ∙ some_same piece bytes c
carried_wanted EmptyAttributes w bytes e c = absurd (none_some bytes c)
carried_wanted (InvalidName name) w bytes e c = ap bytes_of (sym (some_same (Name name) w e)) ∙ some_same name bytes c
carried_wanted (InvalidValueByte byte) w bytes e c = ap bytes_of (sym (some_same (ValueByte byte) w e)) ∙ some_same (byte ∷ []) bytes c
carried_wanted (TrailingEscape value) w bytes e c = ap bytes_of (sym (some_same (Value value) w e)) ∙ some_same value bytes c
carried_wanted _ w bytes e c = absurd (none_some w e)

-- what is found in long magic is the place
inside_holds : (text : List ℕ) (fault : Fault) (w : Wanted) → wanted_of fault ≡ Some w → is_some (place_in_magic w text) ≡ true → HoldsBytes text (place_of fault text) (bytes_of w)
inside_holds text fault w e h =
    let found = found_some (place_in_magic w text) h in
    let there : place_of fault text ≡ found.0 =
    ap (λ o. unwrap_or (option_or (place_inside o text) (place_outside fault text)) (whole text)) e ∙ ap (λ o. unwrap_or (option_or o (place_outside fault text)) (whole text)) found.1 in
    subst (λ (r : Range ℕ). HoldsBytes text r (bytes_of w)) (sym there) (magic-sound w text found.0 found.1)

-- the magic of short magic alone
abbrev short_magic : Cut → Magic
short_magic cut = record { signature = short_bits cut.short; mode = None; attributes = []; prefix = None }

-- a piece at fault
piece_stands : (cut : Cut) (long : Option (List ℕ)) (fault : Fault) → IsCut cut → cut.long ≡ long → with_pieces (short_magic cut) (long_pieces (unwrap_or long [])) ≡ Err fault
    → (w : Wanted) × (wanted_of fault ≡ Some w) × (is_some (place_in_magic w (text_of cut)) ≡ true)
piece_stands cut None fault h l e = absurd (let no : ⊥ = cc in no)
piece_stands cut (Some long) fault h l e =
    let stands : Stands place_in_pieces long fault = subst (λ (r : Result Magic Fault). Meets (Stands place_in_pieces long) r) e (long_meets (short_magic cut) long) in
    (stands.0, stands.1, in_text cut long stands.0 h l stands.2)

-- a piece that asks for a prefix length
prefix_stands : (cut : Cut) (long : Option (List ℕ)) (asked : Magic) (piece : List ℕ) → IsCut cut → cut.long ≡ long → with_pieces (short_magic cut) (long_pieces (unwrap_or long [])) ≡ Ok asked → asked.prefix ≡ Some piece
    → is_some (place_in_magic (Piece piece) (text_of cut)) ≡ true
prefix_stands cut None asked piece h l e p = absurd (none_some piece (ap (λ (x : Magic). x.prefix) (same_ok (short_magic cut) asked e) ∙ p))
prefix_stands cut (Some long) asked piece h l e p =
    let asks : AsksBy (short_magic cut) (long_pieces long) asked = subst (λ (r : Result Magic Fault). Gives (AsksBy (short_magic cut) (long_pieces long)) r) e (pieces_ask (short_magic cut) (long_pieces long)) in
    elim (asks piece p) [
      | inl none ↦ absurd (none_some piece none)
      | inr a ↦ in_text cut long (Piece piece) h l (first_finds (place_in_piece (Piece piece)) (long_pieces_from 0 long) piece (among_filtered _ (long_pieces_from 0 long) piece a) (equal_finds piece))
    ]

pub place_holds : PlaceHoldsCarried
unfolding magic_of
place_holds d text bytes fault (empty e f) c = absurd (none_some bytes (subst (λ (g : Fault). carried g ≡ Some bytes) f c))
place_holds d text bytes fault (short l front b rest e a u f) c =
    let hit : list_any (λ x. x == b) text ≡ true = rw e (list_any-append_hit (λ x. x == b) (colon ∷ front) b rest (eq-eqb b b refl)) in
    let found = found_some (place_of_first b text) (rw hit refl) in
    let there : place_of (UnimplementedShort b) text ≡ found.0 = ap (λ o. unwrap_or o (whole text)) found.1 in
    let holds : HoldsBytes text (place_of (UnimplementedShort b) text) (b ∷ []) = subst (λ (r : Range ℕ). HoldsBytes text r (b ∷ [])) (sym there) (first-sound b text found.0 found.1) in
    let same : b ∷ [] ≡ bytes = some_same (b ∷ []) bytes (subst (λ (g : Fault). carried g ≡ Some bytes) f c) in
    subst (λ (g : Fault). HoldsBytes text (place_of g text) bytes) (sym f) (subst (λ (x : List ℕ). HoldsBytes text (place_of (UnimplementedShort b) text) x) same holds)
place_holds d text bytes fault (paren l front ended rest e a n f) c =
    let same : text ≡ bytes = some_same text bytes (subst (λ (g : Fault). carried g ≡ Some bytes) f c) in
    subst (λ (g : Fault). HoldsBytes text (place_of g text) bytes) (sym f) (subst (λ (x : List ℕ). HoldsBytes text (whole text) x) same (whole_holds text))
place_holds d text bytes fault (piece_fault l cut h e g) c =
    let at = piece_stands cut cut.long fault h refl g in
    let holds = inside_holds text fault at.0 at.1 (rw e at.2) in
    subst (λ (x : List ℕ). HoldsBytes text (place_of fault text) x) (carried_wanted fault at.0 bytes at.1 c) holds
place_holds d text bytes fault (boundary l cut h e asked g piece p n f) c =
    let at : is_some (place_in_magic (Piece piece) text) ≡ true = rw e (prefix_stands cut cut.long asked piece h refl g p) in
    let same : piece ≡ bytes = some_same piece bytes (subst (λ (g : Fault). carried g ≡ Some bytes) f c) in
    let holds = inside_holds text (InvalidPrefix piece) (Piece piece) refl at in
    subst (λ (g : Fault). HoldsBytes text (place_of g text) bytes) (sym f) (subst (λ (x : List ℕ). HoldsBytes text (place_of (InvalidPrefix piece) text) x) same holds)

-- ---- the path of a spec that has no normal form

end_finds : (front path : List ℕ) → is_some (place_at_end path (front ++ path)) ≡ true
end_finds front path =
    let far : length (front ++ path) - length path ≡ length front = omega (arith, length-append front path) in
    let same : drop (length (front ++ path) - length path) (front ++ path) ≡ path = ap (λ n. drop n (front ++ path)) far ∙ drop-append_seam front path in
    let test : ends_with nat_eq (front ++ path) path ≡ true = (bytes_eq-Decides path (drop (length (front ++ path) - length path) (front ++ path))).1 (sym same) in
    rw test refl

-- a path with a slash behind it
slash_cut : (body : List ℕ) → ends_with_slash body ≡ true → body ≡ take (length body - 1) body ++ slash ∷ []
slash_cut body y =
    let last : slash ∷ [] ≡ drop (length body - 1) body = (bytes_eq-Decides (slash ∷ []) (drop (length body - 1) body)).0 y in
    sym (take-append-drop (length body - 1) body) ∙ ap (λ x. take (length body - 1) body ++ x) (sym last)

slash_stripped : (path : List ℕ) → without_last_slash (path ++ slash ∷ []) ≡ path
slash_stripped path =
    let far : length (path ++ slash ∷ []) - 1 ≡ length path = omega (arith, length-append path (slash ∷ [])) in
    rw (ends_with_slash-push path slash) (ap (λ n. take n (path ++ slash ∷ [])) far ∙ take-append_seam path (slash ∷ []))

body_finds : (front body : List ℕ) → is_some (place_of_path (without_last_slash body) (front ++ body)) ≡ true
body_finds front body = elim (cases_Bool (ends_with_slash body)) [
  | inl y ↦
      let path = take (length body - 1) body in
      let whole : front ++ body ≡ front ++ path ++ slash ∷ [] = ap (λ x. front ++ x) (slash_cut body y) ∙ sym (append_assoc front path (slash ∷ [])) in
      let first : is_some (place_at_end path (without_last_slash (front ++ body))) ≡ true =
      subst (λ (t : List ℕ). is_some (place_at_end path t) ≡ true) (sym (ap without_last_slash whole ∙ slash_stripped (front ++ path))) (end_finds front path) in
      rw y (some_left (place_at_end path (without_last_slash (front ++ body))) (place_at_end path (front ++ body)) first)
  | inr n ↦ rw n (some_right (place_at_end body (without_last_slash (front ++ body))) (place_at_end body (front ++ body)) (end_finds front body))
]

spec_path : (d : Defaults) (asked : Magic) (body : List ℕ) (s : Spec) → spec_of d asked body ≡ Ok s → s.path ≡ without_last_slash body
unfolding spec_of
spec_path d asked body s h =
    let it = bind_ok (prefix_length_of asked.prefix (without_last_slash body)) (λ n. Ok (body_spec d asked body n)) s h in
    ap (λ (x : Spec). x.path) (sym (same_ok (body_spec d asked body it.0) s it.2))

reads_finds : (d : Defaults) (text : List ℕ) (s : Spec) → Reads d text s → is_some (place_of_path s.path text) ≡ true
reads_finds d text s (verbatim l n e) = rw e (some_right (place_at_end text (without_last_slash text)) (place_at_end text text) (end_finds [] text))
reads_finds d text s (nothing l t e) = rw (e, t) refl
reads_finds d text s (plain l n c e) = rw (spec_path d no_magic text s e) (body_finds [] text)
reads_finds d text s (magic l n cut h t asked g e) =
    let front = colon ∷ cut.short ++ end_mark cut.ended ++ in_parentheses cut.long in
    rw (spec_path d asked cut.body s e, t) (body_finds front cut.body)

pub path_holds : PlaceHoldsPath
path_holds d text s h =
    let found = found_some (place_of_path s.path text) (reads_finds d text s h) in
    let there : unwrap_or (place_of_path s.path text) (whole text) ≡ found.0 = ap (λ o. unwrap_or o (whole text)) found.1 in
    let holds : HoldsBytes text (unwrap_or (place_of_path s.path text) (whole text)) s.path = subst (λ (r : Range ℕ). HoldsBytes text r s.path) (sym there) (path-sound s.path text found.0 found.1) in
    (holds, holds)

pub word_holds : PlaceHoldsWord
word_holds word = whole_holds word
