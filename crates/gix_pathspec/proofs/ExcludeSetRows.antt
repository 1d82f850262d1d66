-- Rows on the subtree excludes that one set of globs stands for.
use Rattle.std.proofs.Common.{ℕ, Bool, true, false, refl, List, [], ◌∷◌, Some}
use Rattle.std.specs.Prelude.{codes}
use Rattle.gix_pathspec.proofs.Asking.{exclude_member, IsTable}

-- a prefix and a spec; and whether it is an exclude that stands in the set
abbrev ExcludeRow : Type 0
ExcludeRow = List ℕ × List ℕ × Bool

pub members : IsTable (λ (r : ExcludeRow). exclude_member r.0 r.1) (λ r. Some r.2) (
    ([], codes ":!*/node_modules/*", true) ∷
    ([], codes ":(exclude,glob)**/target/**", true) ∷
    ([], codes ":(exclude,glob)**", true) ∷
    ([], codes ":!*", true) ∷
    ([], codes ":!?/*", true) ∷
    ([], codes ":(exclude,icase)*/x/*", true) ∷
    ([], codes ":(exclude,glob)**/target/*", false) ∷
    ([], codes ":(exclude,literal)*/x/*", false) ∷
    ([], codes ":(exclude,attr:a)*/x/*", false) ∷
    ([], codes ":!*.o", false) ∷
    ([], codes ":!*/x/", false) ∷
    ([], codes ":!*/", false) ∷
    ([], codes ":!a/*", false) ∷
    ([], codes ":(exclude,icase)a/*", false) ∷
    ([], codes ":!a", false) ∷
    ([], codes "*/x/*", false) ∷
    (codes "a", codes ":!*/x/*", false) ∷
    (codes "a", codes ":(exclude,icase)*/x/*", false) ∷
    (codes "a", codes ":(exclude,top,icase)*/x/*", true) ∷
    [])
unfolding exclude_member
members = refl
