-- Rows on the specs that one set of globs stands for.
use Rattle.std.proofs.Common.{ℕ, Bool, true, false, refl, List, [], ◌∷◌, Option, Some, None}
use Rattle.std.specs.Prelude.{codes}
use Rattle.gix_pathspec.proofs.Asking.{IsTable, set_member}

-- a prefix and a spec; and whether the spec decides where its glob matches, if it is a member
abbrev MemberRow : Type 0
MemberRow = List ℕ × List ℕ × Option Bool

members : IsTable (λ (r : MemberRow). set_member r.0 r.1) (λ r. r.2) (
    ([], codes "*.c", Some true) ∷
    ([], codes ":!*.o", Some true) ∷
    ([], codes "?", Some true) ∷
    ([], codes "[a]b", Some true) ∷
    ([], codes "[a", Some true) ∷
    ([], codes "*", Some true) ∷
    ([], codes ":(icase)*.c", Some true) ∷
    ([], codes ":(glob)**/x", Some true) ∷
    ([], codes "*.c/", Some false) ∷
    ([], codes ":(attr:a)*.c", Some false) ∷
    ([], codes ":(literal)*.c", None) ∷
    ([], codes "a*", None) ∷
    ([], codes ":(icase)a*", None) ∷
    ([], codes "a", None) ∷
    ([], codes ".", None) ∷
    ([], codes ":", None) ∷
    (codes "a", codes "*.c", None) ∷
    (codes "a", codes ":(icase)*.c", None) ∷
    (codes "a", codes ":(top)*.c", Some true) ∷
    (codes "a", codes ":(top,icase)*.c", Some true) ∷
    (codes "*", codes ":(icase)*.c", None) ∷
    (codes "*", codes "*.c", Some true) ∷
    [])
unfolding set_member
members = refl
