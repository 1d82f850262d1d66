-- Rows on words of truth.
use Rattle.std.proofs.Common.{◌≡◌, ℕ, Bool, true, false, refl, List, [], ◌∷◌, map, Option, Some, None}
use Rattle.std.specs.Prelude.{codes}
use Rattle.pathspec_parts.specs.Truth.{truth_of}

-- words, and what they say
abbrev words : List (List ℕ × Option Bool)
words =
    (codes "yes", Some true)
    ∷ (codes "ON", Some true)
    ∷ (codes "tRuE", Some true)
    ∷ (codes "no", Some false)
    ∷ (codes "Off", Some false)
    ∷ (codes "false", Some false)
    ∷ ([], Some false)
    ∷ (codes "maybe", None)
    ∷ (codes "y", None)
    ∷ (codes "yes ", None)
    ∷ []

words_are_read : map (λ r. truth_of r.0) words ≡ map (λ r. r.1) words
unfolding truth_of
words_are_read = refl

-- numbers, some with a sign or a unit, and whether they are something else than 0
abbrev numbers : List (List ℕ × Option Bool)
numbers =
    (codes "2k", Some true)
    ∷ (codes "k", None)
    ∷ (codes "1 ", None)
    ∷ (codes " 1", None)
    ∷ (codes "-1", Some true)
    ∷ (codes "00", Some false)
    ∷ (codes "9223372036854775808", None)
    ∷ (codes "9223372036854775807", Some true)
    ∷ (codes "9223372036854775807g", Some true)
    ∷ (codes "-9223372036854775808", Some true)
    ∷ (codes "-9223372036854775809", None)
    ∷ (codes "+0G", Some false)
    ∷ (codes "-0", Some false)
    ∷ (codes "0k", Some false)
    ∷ (codes "+", None)
    ∷ (codes "1kk", None)
    ∷ (codes "--1", None)
    ∷ (codes "1k1", None)
    ∷ (codes "1t", None)
    ∷ []

numbers_are_read : map (λ r. truth_of r.0) numbers ≡ map (λ r. r.1) numbers
unfolding truth_of
numbers_are_read = refl
