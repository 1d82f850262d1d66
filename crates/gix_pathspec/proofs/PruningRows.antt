-- Rows on pruning and on common prefixes.
use Rattle.std.proofs.Common.{◌≡◌, true, false, refl, [], ◌∷◌, Some, None, ℕ, Bool, List, Option}
use Rattle.std.specs.Prelude.{codes}
use Rattle.gix_pathspec.proofs.Asking.{IsTable, can_match_under, common, asked}

-- a prefix and specs; and their common prefix
abbrev CommonRow : Type 0
CommonRow = List ℕ × List (List ℕ) × Option (List ℕ)

common_prefixes : IsTable (λ (r : CommonRow). common r.0 r.1) (λ r. r.2) (
    ([], codes "src/**" ∷ codes ":!src/generated/**" ∷ [], Some (codes "src/")) ∷
    (codes "a", codes ":(icase)B" ∷ codes ":(top)x" ∷ [], Some []) ∷
    ([], codes "a/b" ∷ codes "a/c" ∷ [], Some (codes "a/")) ∷
    ([], codes ":!a" ∷ codes ":!b" ∷ [], Some []) ∷
    ([], codes ".x" ∷ codes "." ∷ [], Some []) ∷
    [])
unfolding common
common_prefixes = refl

-- a prefix, specs, a path and what is said of it; and whether something at or below it can match
abbrev PruningRow : Type 0
PruningRow = List ℕ × List (List ℕ) × List ℕ × Option Bool × Option Bool

pruning : IsTable (λ (r : PruningRow). can_match_under r.0 r.1 r.2 r.3) (λ r. r.4) (
    ([], codes "src/**" ∷ codes ":!src/generated/**" ∷ [], codes "src", Some true, Some true) ∷
    ([], codes "a/" ∷ [], codes "abc", Some true, Some false) ∷
    ([], codes "a/" ∷ [], codes "a", Some false, Some false) ∷
    ([], codes "a/" ∷ [], codes "a", None, Some true) ∷
    ([], codes "a*/" ∷ [], codes "ab", Some true, Some true) ∷
    ([], codes "a" ∷ codes ":(exclude,attr:gen)." ∷ [], codes "a", Some true, Some true) ∷
    ([], codes "a" ∷ codes ":(exclude)." ∷ [], codes "a", Some true, Some false) ∷
    ([], codes "[x]/y" ∷ [], codes "[x]", Some true, Some true) ∷
    ([], codes ":(icase)Ab*" ∷ [], codes "aBc", Some true, Some true) ∷
    ([], codes ":(icase)Ab*" ∷ [], codes "aC", Some true, Some false) ∷
    ([], codes ":(icase)Ab*" ∷ [], codes "a", Some true, Some false) ∷
    ([], codes ":(icase)Ab/C" ∷ [], codes "aB", Some true, Some true) ∷
    ([], codes ":(icase)Ab/C" ∷ [], codes "aBx", Some true, Some false) ∷
    ([], codes "a/b" ∷ codes "a/c" ∷ [], codes "a", Some true, Some true) ∷
    ([], [], codes "x", Some true, Some true) ∷
    ([], codes "a/b" ∷ [], codes "a", Some true, Some true) ∷
    ([], codes "a/b" ∷ [], codes "c", Some true, Some false) ∷
    (codes "a", codes ":(icase)B" ∷ [], codes "A", Some true, Some false) ∷
    (codes "a", codes ":(icase)B" ∷ [], codes "a", Some true, Some true) ∷
    ([], codes "a/b" ∷ codes "b/c" ∷ codes ":(exclude,attr:g)." ∷ [], codes "c", Some true, Some false) ∷
    [])
unfolding can_match_under
pruning = refl

-- ---- where pruning says yes and nothing is matched

-- asked of a file, `a/b` says yes to one above its path
file_above : can_match_under [] ((codes "a/b") ∷ []) (codes "a") (Some false) ≡ Some true
unfolding can_match_under
file_above = refl

-- which it does not match
file_above_unmatched : asked [] ((codes "a/b") ∷ []) (codes "a") false ≡ None
unfolding asked
file_above_unmatched = refl

-- of a glob whose star takes no slash, only the stem begins the directory
glob_stem : can_match_under [] ((codes ":(glob)a*b") ∷ []) (codes "ac") (Some true) ≡ Some true
unfolding can_match_under
glob_stem = refl

-- a prefix directory counts with case, and pruning looks at it without
prefix_case : can_match_under (codes "A") ((codes ":(icase)b") ∷ (codes ":(top)x") ∷ []) (codes "a") (Some true) ≡ Some true
unfolding can_match_under
prefix_case = refl

-- though the path that the include fits without its prefix is not matched
prefix_case_unmatched : asked (codes "A") ((codes ":(icase)b") ∷ (codes ":(top)x") ∷ []) (codes "a/b") false ≡ None
unfolding asked
prefix_case_unmatched = refl

-- a directory's path has no slash at its end: `src/lib` on directory `src`
no_slash : can_match_under [] ((codes "src/lib") ∷ []) (codes "src") (Some true) ≡ Some true
unfolding can_match_under
no_slash = refl

-- and with one
last_slash : can_match_under [] ((codes "src/lib") ∷ []) (codes "src/") (Some true) ≡ Some false
unfolding can_match_under
last_slash = refl
