-- What a glob matches begins with what stands before the pattern's first wildcard.
use Rattle.std.proofs.Common.{◌≡◌, ℕ, Bool, true, false, inl, inr, refl, sym, subst, List, [], ◌∷◌, ◌++◌, take, drop, ◌==◌, Some}
use Rattle.std.proofs.lemmas.Bool.{and_parts, and_from, cases_Bool}
use Rattle.std.proofs.lemmas.List.{take-append-drop}
use Rattle.std.proofs.Math.Numerals.{one-add}
use Rattle.std.specs.List.{list_any, before_first, position, position_or_len}
use Rattle.std.specs.Char.{eq_ignore_ascii_case}
use Rattle.pathspec_glob.proofs.Words.{Mode, Case, Sensitive, Fold, begins_with, fold_case, is_wildcard, Token, tokens, matches, folds, MatchBeginsStem}
use Rattle.pathspec_glob.specs.GlobParts.{plain_tokens}
use Rattle.pathspec_glob.proofs.BracketProofs.{first-Some}
use Rattle.pathspec_glob.proofs.TailProofs.{tokens_from-plain}

-- ---- what stands before the first wildcard

-- no element before the first one that passes does
pub before_first-none : {X : Type 0} (p : X → Bool) (xs : List X) → list_any p (before_first p xs) ≡ false
before_first-none p [] = refl
before_first-none p (x ∷ xs) = elim (cases_Bool (p x)) [
  | inl e ↦ rw e refl
  | inr e ↦ rw (e, one-add) (rw e (before_first-none p xs))
]

-- nor where that one is found
pub none_before : {X : Type 0} (p : X → Bool) (xs : List X) (place : ℕ) → position p xs ≡ Some place → list_any p (take place xs) ≡ false
none_before p xs place e = subst (λ n. list_any p (take n xs) ≡ false) (first-Some p xs place e).1 (before_first-none p xs)

-- the rest follows it
pub before_first-front : {X : Type 0} (p : X → Bool) (xs : List X) → xs ≡ before_first p xs ++ drop (position_or_len p xs) xs
before_first-front p xs = sym (take-append-drop (position_or_len p xs) xs)

-- ---- bytes without a wildcard

begins_sensitive : (mode : Mode) (front : List ℕ) (ts : List Token) (text : List ℕ) → matches mode Sensitive (plain_tokens front ++ ts) text ≡ true → begins_with text front ≡ true
unfolding matches
begins_sensitive mode [] ts text h = refl
begins_sensitive mode (b ∷ front) ts [] h = h
begins_sensitive mode (b ∷ front) ts (c ∷ text) h =
    let p = and_parts (b == c) (matches mode Sensitive (plain_tokens front ++ ts) text) h in and_from (b == c) (begins_with text front) p.0 (begins_sensitive mode front ts text p.1)

begins_folded : (mode : Mode) (front : List ℕ) (ts : List Token) (text : List ℕ) → matches mode Fold (plain_tokens front ++ ts) text ≡ true → begins_with (fold_case true text) (fold_case true front) ≡ true
unfolding matches
begins_folded mode [] ts text h = refl
begins_folded mode (b ∷ front) ts [] h = h
begins_folded mode (b ∷ front) ts (c ∷ text) h =
    let p = and_parts (eq_ignore_ascii_case b c) (matches mode Fold (plain_tokens front ++ ts) text) h in and_from (eq_ignore_ascii_case b c) (begins_with (fold_case true text) (fold_case true front)) p.0 (begins_folded mode front ts text p.1)

begins : (mode : Mode) (case : Case) (front rest text : List ℕ) → list_any is_wildcard front ≡ false → matches mode case (tokens mode (front ++ rest)) text ≡ true
    → begins_with (fold_case (folds case) text) (fold_case (folds case) front) ≡ true
begins mode Sensitive front rest text e h = begins_sensitive mode front _ text (rw (tokens_from-plain mode true front rest e) at h)
begins mode Fold front rest text e h = begins_folded mode front _ text (rw (tokens_from-plain mode true front rest e) at h)

pub match_begins_stem : MatchBeginsStem
match_begins_stem mode case pattern text h =
    begins mode case (before_first is_wildcard pattern) (drop (position_or_len is_wildcard pattern) pattern) text (before_first-none is_wildcard pattern)
    (subst (λ t. matches mode case (tokens mode t) text ≡ true) (before_first-front is_wildcard pattern) h)
