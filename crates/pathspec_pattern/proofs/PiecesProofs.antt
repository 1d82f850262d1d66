-- The pieces of long magic, by the commas that cut.
use Rattle.std.proofs.Common.{◌≡◌, ℕ, ◌+◌, ◌<◌, Bool, true, false, not, ◌&&◌, inl, inr, refl, sym, ◌∙◌, ap, List, [], ◌∷◌, ◌++◌, take, drop, length, ◌==◌, arith, suc, get_or, Option, Some, None}
use Rattle.std.proofs.lemmas.Bool.{cases_Bool, eqb-true, cond-false, cond-true, and_parts}
use Rattle.std.proofs.Math.Nat.{add-mod_right}
use Rattle.std.proofs.Math.Seq.{take-suc, drop-cons, take-length, drop-length}
use Rattle.std.proofs.Math.Numerals.{add-one}
use Rattle.std.proofs.lemmas.List.{append-nil}
use Rattle.std.specs.List.{onto_first}
use Rattle.pathspec_parts.specs.Bytes.{comma, backslash}
use Rattle.pathspec_pattern.specs.Reading.{backslashes_after, cuts, long_pieces_from, long_pieces}

-- one backslash, or none
abbrev pub backslashes : Bool → ℕ
backslashes true = 1
backslashes false = 0

-- two more backslashes change nothing
two_more : (n : ℕ) (bs : List ℕ) → long_pieces_from (n + 2) bs ≡ long_pieces_from n bs
two_more n [] = refl
two_more n (b ∷ bs) = elim (cases_Bool (b == backslash)) [
  | inl h ↦
      let step : long_pieces_from (n + 2 + 1) bs ≡ long_pieces_from (n + 1) bs = ap (λ k. long_pieces_from k bs) (let it : n + 2 + 1 ≡ n + 1 + 2 = omega arith in it) ∙ two_more (n + 1) bs in
      rw (h, step, add-mod_right n 2) refl
  | inr h ↦ rw (h, add-mod_right n 2) refl
]

-- bytes in front of the first piece
abbrev pub onto_all : List ℕ → List (List ℕ) → List (List ℕ)
onto_all [] pieces = pieces
onto_all (b ∷ bs) pieces = onto_first b (onto_all bs pieces)

onto_all-first : (bs first : List ℕ) (pieces : List (List ℕ)) → onto_all bs (first ∷ pieces) ≡ (bs ++ first) ∷ pieces
onto_all-first [] first pieces = refl
onto_all-first (b ∷ bs) first pieces = rw (onto_all-first bs first pieces) refl

onto_all-last : (bs : List ℕ) (b : ℕ) (pieces : List (List ℕ)) → onto_all (bs ++ b ∷ []) pieces ≡ onto_all bs (onto_first b pieces)
onto_all-last [] b pieces = refl
onto_all-last (c ∷ bs) b pieces = ap (onto_first c) (onto_all-last bs b pieces)

-- a byte that does not cut, and the backslashes after it
step_over : (e : Bool) (b : ℕ) (bs : List ℕ) → (b == comma && not e) ≡ false → long_pieces_from (backslashes e) (b ∷ bs) ≡ onto_first b (long_pieces_from (backslashes (b == backslash && not e)) bs)
step_over true b bs h = elim (cases_Bool (b == backslash)) [
  | inl s ↦ rw s (rw (two_more 0 bs) (cond-false (cuts 1 b) _ _ h))
  | inr s ↦ rw s (cond-false (cuts 1 b) _ _ h)
]
step_over false b bs h = elim (cases_Bool (b == backslash)) [
  | inl s ↦ rw s (cond-false (cuts 0 b) _ _ h)
  | inr s ↦ rw s (cond-false (cuts 0 b) _ _ h)
]

-- no backslash stands after a comma
none_after : (e : Bool) (b : ℕ) → (b == comma && not e) ≡ true → backslashes_after (backslashes e) b ≡ 0
none_after e b h = rw (eqb-true b comma (and_parts (b == comma) (not e) h).0) refl

-- a comma that cuts
step_cut : (e : Bool) (b : ℕ) (bs : List ℕ) → (b == comma && not e) ≡ true → long_pieces_from (backslashes e) (b ∷ bs) ≡ [] ∷ long_pieces_from 0 bs
step_cut true b bs h = cond-true (cuts 1 b) _ _ h ∙ rw (none_after true b h) refl
step_cut false b bs h = cond-true (cuts 0 b) _ _ h ∙ rw (none_after false b h) refl

-- the bytes before a place, and whether an odd number of backslashes stands directly before it
module _ (long : List ℕ) (at : ℕ) (e : Bool) (l : at < length long) (h : long_pieces_from 0 long ≡ onto_all (take at long) (long_pieces_from (backslashes e) (drop at long))) where
  pub at-next : (get_or long at 0 == comma && not e) ≡ false
      → long_pieces_from 0 long ≡ onto_all (take (at + 1) long) (long_pieces_from (backslashes (get_or long at 0 == backslash && not e)) (drop (at + 1) long))
  at-next c = h ∙ rw (add-one, drop-cons long at 0 l, step_over e (get_or long at 0) (drop (suc at) long) c, take-suc long at 0 l) (sym (onto_all-last (take at long) (get_or long at 0) (long_pieces_from (backslashes (get_or long at 0 == backslash && not e)) (drop (suc at) long))))

  pub at-cut : (get_or long at 0 == comma && not e) ≡ true → long_pieces_from 0 long ≡ take at long ∷ long_pieces_from 0 (drop (at + 1) long)
  at-cut c = h ∙ rw (drop-cons long at 0 l, step_cut e (get_or long at 0) (drop (suc at) long) c, add-one, onto_all-first (take at long) [] (long_pieces_from 0 (drop (suc at) long)), append-nil) refl

pub at-end : (long : List ℕ) (at : ℕ) (e : Bool) → at ≡ length long → long_pieces_from 0 long ≡ onto_all (take at long) (long_pieces_from (backslashes e) (drop at long)) → long_pieces_from 0 long ≡ long ∷ []
at-end long at e l h =
    let all : onto_all (take at long) (long_pieces_from (backslashes e) (drop at long)) ≡ long ∷ [] = rw (l, take-length, drop-length, onto_all-first long [] [], append-nil) refl in
    h ∙ all

-- ---- the pieces in turn

-- the pieces of what is left, if something is
abbrev pub pieces_left : Option (List ℕ) → List (List ℕ)
pieces_left None = []
pieces_left (Some text) = long_pieces text

-- how much is left
abbrev pub size_left : Option (List ℕ) → ℕ
size_left None = 0
size_left (Some text) = 1 + length text
