-- Rows on where in a text its fault is.
use Rattle.std.proofs.Common.{◌≡◌, ℕ, refl, List, [], ◌∷◌, map, Option, Some, None, Result, Ok, Err}
use Rattle.std.specs.Prelude.{codes}
use Rattle.pathspec_pattern.specs.Faults.{Fault}
use Rattle.pathspec_pattern.specs.Faults.Fault.{NotTruth, OutsideRoot, LeavesRepository}
use Rattle.pathspec_pattern.specs.Specs.{Spec}
use Rattle.pathspec_pattern.proofs.Asking.{parse}
use Rattle.pathspec_faults.specs.Places.{place_of}

-- the first byte of a place, and the one behind its last
abbrev ends_of : Fault → List ℕ → Option (ℕ × ℕ)
ends_of fault text = Some ((place_of fault text).start, (place_of fault text).end)

abbrev place_of_result : Result Spec Fault → List ℕ → Option (ℕ × ℕ)
place_of_result (Ok s) text = None
place_of_result (Err fault) text = ends_of fault text

-- the place of the fault that a text is refused for
unfoldable place_in : List ℕ → Option (ℕ × ℕ)
unfolding parse
place_in text = place_of_result (parse text) text

abbrev texts : List (List ℕ × Option (ℕ × ℕ))
texts =
    (codes "src", None)
    ∷ ([], Some (0, 0))
    ∷ (codes ":#x", Some (1, 2))
    ∷ (codes ":/-x", Some (2, 3))
    -- of several such bytes the first
    ∷ (codes "://!_a_", Some (4, 5))
    ∷ (codes ":(top", Some (0, 5))
    ∷ (codes ":(top,foo)src", Some (6, 9))
    -- an empty piece takes its comma
    ∷ (codes ":!(top,,foo)src", Some (8, 11))
    -- the same text stands in another piece
    ∷ (codes ":(attr:foo,foo)x", Some (11, 14))
    ∷ (codes ":(a\\,b)x", Some (2, 6))
    ∷ (codes ":(literal,glob)x", Some (10, 14))
    ∷ (codes ":(attr:a,attr:b)x", Some (9, 15))
    ∷ (codes ":(attr: ,attr:)x", Some (9, 14))
    -- a name stands behind its mark
    ∷ (codes ":(attr:a --1)x", Some (10, 12))
    ∷ (codes ":(attr:a/b=c)x", Some (7, 10))
    -- a value is looked at before its name
    ∷ (codes ":(attr:a/b=b/c)x", Some (12, 13))
    -- a backslash that is escaped
    ∷ (codes ":(attr:a b=x\\,\\\\)p", Some (15, 16))
    ∷ (codes ":(attr:a=x\\)y", Some (9, 11))
    ∷ (codes ":(prefix:x)a", Some (2, 10))
    ∷ (codes ":(prefix:9)a", Some (2, 10))
    ∷ []

places_are_found : map (λ r. place_in r.0) texts ≡ map (λ r. r.1) texts
unfolding place_in
places_are_found = refl

-- faults of paths and words, with their texts
abbrev others : List (Fault × List ℕ × Option (ℕ × ℕ))
others =
    (LeavesRepository (codes "../../x"), codes "../../x", Some (0, 7))
    ∷ (LeavesRepository (codes "../x"), codes ":(icase)../x/", Some (8, 12))
    ∷ (OutsideRoot (codes "/q/x"), codes ":!/q/x", Some (2, 6))
    -- a slash alone, and one more
    ∷ (OutsideRoot (codes "/"), codes "//", Some (0, 1))
    ∷ (NotTruth (codes "maybe"), codes "maybe", Some (0, 5))
    ∷ []

others_are_found : map (λ r. ends_of r.0 r.1) others ≡ map (λ r. r.2) others
others_are_found = refl
