-- The steps along a list, at a place that is told.
use Rattle.std.proofs.Common.{◌≡◌, ℕ, ◌+◌, true, false, sym, ◌∙◌, ap, List, take, drop, Option, None, is_some}
use Rattle.std.proofs.lemmas.Bool.{cond-true}
use Rattle.std.specs.List.{list_any, position_or_len, before_first}
use Rattle.std.specs.declared.ops.Range.{Range}
use Rattle.pathspec_faults.specs.Places.{Wanted, is_space, is_open, is_close, long_text_of, place_in_part, place_in_list, place_in_pieces, place_in_magic}
use Rattle.pathspec_faults.proofs.StepProofs.{parts_found, parts_next, parts_last}

module _ (w : Wanted) (from at : ℕ) (rest : List ℕ) (spaced : list_any is_space rest ≡ true) (e : at ≡ position_or_len is_space rest) (found : Option (Range ℕ)) (f : found ≡ place_in_part w from (take at rest)) where
  there : found ≡ place_in_part w from (take (position_or_len is_space rest) rest)
  there = f ∙ ap (λ n. place_in_part w from (take n rest)) e

  pub part_found : is_some found ≡ true → found ≡ place_in_list w from rest
  part_found h = parts_found w from rest spaced found there h

  pub part_next : is_some found ≡ false → place_in_list w (from + (at + 1)) (drop (at + 1) rest) ≡ place_in_list w from rest
  part_next h = ap (λ n. place_in_list w (from + (n + 1)) (drop (n + 1) rest)) e ∙ parts_next w from rest spaced found there h

pub part_last : (w : Wanted) (from : ℕ) (rest : List ℕ) → list_any is_space rest ≡ false → place_in_part w from rest ≡ place_in_list w from rest
part_last w from rest h = parts_last w from rest h

-- the text of long magic, behind a `(` at a place that is told
pub magic_at : (w : Wanted) (text rest long : List ℕ) (at : ℕ) → list_any is_open text ≡ true → at ≡ position_or_len is_open text → rest ≡ drop (at + 1) text → long ≡ before_first is_close rest → place_in_pieces w (at + 1) long ≡ place_in_magic w text
magic_at w text rest long at h e r l =
    let same : long ≡ long_text_of text = l ∙ ap (before_first is_close) (r ∙ ap (λ n. drop (n + 1) text) e) in
    ap (place_in_pieces w (at + 1)) same ∙ (ap (λ n. place_in_pieces w (n + 1) (long_text_of text)) e ∙ sym (cond-true (list_any is_open text) (place_in_pieces w (position_or_len is_open text + 1) (long_text_of text)) None h))
