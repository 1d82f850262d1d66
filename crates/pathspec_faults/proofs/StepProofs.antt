-- One text after the other.
use Rattle.std.proofs.Common.{◌≡◌, ℕ, ◌+◌, ◌-◌, ◌<◌, true, false, refl, sym, ◌∙◌, ap, List, length, take, drop, Option, Some, None, is_some, arith}
use Rattle.std.proofs.lemmas.Bool.{false≢true}
use Rattle.std.proofs.lemmas.List.{take-append-drop, length-append, length-drop}
use Rattle.std.proofs.Math.Numerals.{add-one}
use Rattle.std.specs.List.{list_any, position_or_len, slice_split}
use Rattle.std.specs.Option.{option_or}
use Rattle.std.specs.declared.ops.Range.{Range}
use Rattle.pathspec_pattern.specs.Reading.{IsFirstCut, IsOnlyPiece, long_pieces_from}
use Rattle.pathspec_faults.specs.Places.{Wanted, first_place, is_space, place_in_part, place_in_list, place_in_piece, place_in_pieces}
use Rattle.pathspec_faults.proofs.FoundProofs.{before_length}
use Rattle.pathspec_faults.proofs.PositionProofs.{split_none, split_any}

take_length : (n : ℕ) (text : List ℕ) → n < length text → length (take n text) ≡ n
take_length n text below =
    let whole : length (take n text) + length (drop n text) ≡ length text = sym (length-append (take n text) (drop n text)) ∙ ap length (take-append-drop n text) in
    let rest : length (drop n text) ≡ length text - n = length-drop n text in
    omega (arith, whole, rest, below)

or_some : {A : Type 0} (o p : Option A) → is_some o ≡ true → option_or o p ≡ o
or_some None p h = absurd (false≢true h)
or_some (Some x) p h = refl

or_none : {A : Type 0} (o p : Option A) → is_some o ≡ false → option_or o p ≡ p
or_none None p h = refl
or_none (Some x) p h = absurd (false≢true (sym h))

or_last : {A : Type 0} (o : Option A) → option_or o None ≡ o
or_last None = refl
or_last (Some x) = refl

module _ (w : Wanted) (from at : ℕ) (rest : List ℕ) where
  -- a piece that a comma ends
  module _ (cut : IsFirstCut rest at) where
    pieces_cut : place_in_pieces w from rest ≡ option_or (place_in_piece w from (take at rest)) (first_place (place_in_piece w) (from + length (take at rest) + 1) (long_pieces_from 0 (drop (at + 1) rest)))
    pieces_cut = ap (first_place (place_in_piece w) from) cut.1

    pub pieces_found : (found : Option (Range ℕ)) → found ≡ place_in_piece w from (take at rest) → is_some found ≡ true → found ≡ place_in_pieces w from rest
    pieces_found found e h = e ∙ sym (pieces_cut ∙ or_some _ _ (ap is_some (sym e) ∙ h))

    pub pieces_next : (found : Option (Range ℕ)) → found ≡ place_in_piece w from (take at rest) → is_some found ≡ false → place_in_pieces w (from + (at + 1)) (drop (at + 1) rest) ≡ place_in_pieces w from rest
    pieces_next found e h =
        let short : at < length rest = cut.0 in
        let whole : length (take at rest) ≡ at = take_length at rest short in
        let far : from + (at + 1) ≡ from + length (take at rest) + 1 = omega (arith, whole) in
        ap (λ n. first_place (place_in_piece w) n (long_pieces_from 0 (drop (at + 1) rest))) far ∙ sym (pieces_cut ∙ or_none _ _ (ap is_some (sym e) ∙ h))

  -- the last piece
  pub pieces_last : IsOnlyPiece rest rest → place_in_piece w from rest ≡ place_in_pieces w from rest
  pieces_last only = sym (ap (first_place (place_in_piece w) from) only ∙ or_last (place_in_piece w from rest))

-- a part that a space ends
module _ (w : Wanted) (from : ℕ) (rest : List ℕ) where
  module _ (spaced : list_any is_space rest ≡ true) where
    parts_cut : place_in_list w from rest ≡ option_or (place_in_part w from (take (position_or_len is_space rest) rest)) (first_place (place_in_part w) (from + length (take (position_or_len is_space rest) rest) + 1) (slice_split is_space (drop (position_or_len is_space rest + 1) rest)))
    parts_cut = ap (first_place (place_in_part w) from) (split_any is_space rest spaced)

    pub parts_found : (found : Option (Range ℕ)) → found ≡ place_in_part w from (take (position_or_len is_space rest) rest) → is_some found ≡ true → found ≡ place_in_list w from rest
    parts_found found e h = e ∙ sym (parts_cut ∙ or_some _ _ (ap is_some (sym e) ∙ h))

    pub parts_next : (found : Option (Range ℕ)) → found ≡ place_in_part w from (take (position_or_len is_space rest) rest) → is_some found ≡ false → place_in_list w (from + (position_or_len is_space rest + 1)) (drop (position_or_len is_space rest + 1) rest) ≡ place_in_list w from rest
    parts_next found e h =
        let whole : length (take (position_or_len is_space rest) rest) ≡ position_or_len is_space rest = before_length is_space rest spaced in
        let far : from + (position_or_len is_space rest + 1) ≡ from + length (take (position_or_len is_space rest) rest) + 1 = omega (arith, whole) in
        ap (λ n. first_place (place_in_part w) n (slice_split is_space (drop (position_or_len is_space rest + 1) rest))) far ∙ sym (parts_cut ∙ or_none _ _ (ap is_some (sym e) ∙ h))

  pub parts_last : list_any is_space rest ≡ false → place_in_part w from rest ≡ place_in_list w from rest
  parts_last none = sym (ap (first_place (place_in_part w) from) (split_none is_space rest none) ∙ or_last (place_in_part w from rest))
