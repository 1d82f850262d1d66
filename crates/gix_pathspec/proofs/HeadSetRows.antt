-- Rows on the sets of heads.
use Rattle.std.proofs.Common.{ℕ, Bool, true, false, refl, List, [], ◌∷◌, Option, Some, None}
use Rattle.std.specs.Prelude.{codes}
use Rattle.gix_pathspec.proofs.Asking.{has_head_set, head_places, headed_member, IsTable}

-- a prefix and a spec; and the head right behind which its glob begins, if it does so, with whether the spec decides where it matches
abbrev MemberRow : Type 0
MemberRow = List ℕ × List ℕ × Option (List ℕ × Bool)

members : IsTable (λ (r : MemberRow). headed_member r.0 r.1) (λ r. r.2) (
    ([], codes "*.c", Some ([], true)) ∷
    ([], codes "src/*.c", Some (codes "src/", true)) ∷
    ([], codes ":!src/*.c", Some (codes "src/", true)) ∷
    ([], codes "a[b]", Some (codes "a", true)) ∷
    ([], codes ":(glob)a/**", Some (codes "a/", true)) ∷
    ([], codes "src/*.c/", Some (codes "src/", false)) ∷
    ([], codes ":(attr:a)src/*", Some (codes "src/", false)) ∷
    ([], codes "src/a", None) ∷
    ([], codes ":(literal)src/*", None) ∷
    ([], codes ":(icase)src/*", None) ∷
    ([], codes ":(icase)*.c", Some ([], true)) ∷
    (codes "a", codes "*.c", Some (codes "a/", true)) ∷
    (codes "a", codes ":(icase)*.c", None) ∷
    (codes "a", codes ":(top)*.c", Some ([], true)) ∷
    ([], codes ":", None) ∷
    [])
unfolding headed_member
members = refl

-- a prefix and specs, a head, and whether it has a set
abbrev SetRow : Type 0
SetRow = List ℕ × List (List ℕ) × List ℕ × Bool

sets : IsTable (λ (r : SetRow). has_head_set r.0 r.1 r.2) (λ r. Some r.3) (
    ([], codes "a/*.c" ∷ codes "a/*.h" ∷ codes "a/?" ∷ codes "a/*.d" ∷ [], codes "a/", true) ∷
    ([], codes "a/*.c" ∷ codes "a/*.h" ∷ codes "a/?" ∷ codes "b/*.d" ∷ [], codes "a/", false) ∷
    ([], codes "a/*.c" ∷ codes "a/*.h" ∷ codes "a/?" ∷ codes "a/*.d" ∷ [], [], false) ∷
    (codes "a", codes "*.c" ∷ codes "*.h" ∷ codes "?" ∷ codes "*.d" ∷ [], codes "a/", true) ∷
    ([], codes "*.c" ∷ codes "*.h" ∷ codes "?" ∷ codes ":(icase)*.d" ∷ [], [], true) ∷
    [])
unfolding has_head_set
sets = refl

-- specs, and a head; and the places of the specs whose glob begins right behind it, in search order, where excludes stand first
abbrev PlacesRow : Type 0
PlacesRow = List (List ℕ) × List ℕ × List ℕ

places : IsTable (λ (r : PlacesRow). head_places [] r.0 r.1) (λ r. Some r.2) (
    (codes "a/*.c" ∷ codes "*.c" ∷ codes "a/?" ∷ codes "a/b" ∷ codes ":!a/*.o" ∷ [], codes "a/", 0 ∷ 1 ∷ 3 ∷ []) ∷
    (codes "a/*.c" ∷ codes "*.c" ∷ [], [], 1 ∷ []) ∷
    (codes "a/*.c" ∷ [], codes "b", []) ∷
    [])
unfolding head_places
places = refl
