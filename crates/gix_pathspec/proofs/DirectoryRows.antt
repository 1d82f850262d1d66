-- Rows on the answers about directories.
use Rattle.std.proofs.Common.{◌≡◌, true, false, refl, [], ◌∷◌, Some, None, ℕ, Bool, List, Option}
use Rattle.std.specs.Prelude.{codes}
use Rattle.gix_pathspec.proofs.Asking.{IsTable, directory, first_directory, in_prefix}

-- a prefix and specs; and their longest common directory
abbrev DirectoryRow : Type 0
DirectoryRow = List ℕ × List (List ℕ) × Option (List ℕ)

directories : IsTable (λ (r : DirectoryRow). directory r.0 r.1) (λ r. r.2) (
    ([], codes "abc/" ∷ codes "abd/" ∷ [], None) ∷
    ([], codes "a/b/" ∷ codes "a/b/c" ∷ [], Some (codes "a/b")) ∷
    (codes "a", codes "x" ∷ [], Some (codes "a")) ∷
    ([], codes ":!a" ∷ codes ":!b" ∷ [], None) ∷
    [])
unfolding directory
directories = refl

-- the prefix directory of the first include of `x` under `a`
under_prefix_first : first_directory (codes "a") ((codes "x") ∷ []) ≡ Some (codes "a")
unfolding first_directory
under_prefix_first = refl

-- specs, a directory, and whether leading counts; and whether it can lie in the prefix
abbrev PrefixRow : Type 0
PrefixRow = List (List ℕ) × List ℕ × Bool × Option Bool

in_prefixes : IsTable (λ (r : PrefixRow). in_prefix r.0 r.1 r.2) (λ r. r.3) (
    (codes "d/" ∷ [], codes "d", false, Some true) ∷
    (codes "d*/" ∷ [], codes "d", false, Some true) ∷
    (codes "d/*" ∷ [], codes "d", false, Some true) ∷
    (codes "d/d/*" ∷ [], codes "d", false, Some false) ∷
    (codes "dir" ∷ [], codes "d", false, Some false) ∷
    (codes "d/d" ∷ [], codes "d", true, Some true) ∷
    (codes "dir" ∷ [], codes "d", true, Some false) ∷
    (codes ":!x*" ∷ [], codes "q", false, Some true) ∷
    (codes ":!." ∷ [], codes "q", true, Some false) ∷
    (codes ":(exclude,attr:a)." ∷ [], codes "q", true, Some true) ∷
    (codes "x" ∷ codes "d/d" ∷ [], codes "d", true, Some true) ∷
    (codes ":(icase)D/x*" ∷ [], codes "d", false, Some true) ∷
    [])
unfolding in_prefix
in_prefixes = refl
