-- Rows on how specs fit paths.
use Rattle.std.proofs.Common.{◌≡◌, true, false, refl, Some, None, ℕ, List, [], ◌∷◌, Option}
use Rattle.std.specs.Prelude.{codes}
use Rattle.pathspec_pattern.specs.declared.SearchMode.TheVariants.{ShellGlob}
use Rattle.gix_pathspec.specs.declared.search.MatchKind.{MatchKind}
use Rattle.gix_pathspec.specs.declared.search.MatchKind.TheVariants.{Always, Prefix, WildcardMatch, Verbatim}
use Rattle.gix_pathspec.specs.Matching.{fit}
use Rattle.gix_pathspec.proofs.Asking.{IsTable, fitted, kind}
use Rattle.pathspec_pattern.proofs.Asking.{spec}

-- a spec and a file, and how the spec fits it
abbrev KindRow : Type 0
KindRow = List ℕ × List ℕ × Option MatchKind

kinds : IsTable (λ (r : KindRow). kind r.0 r.1) (λ r. r.2) (
    (codes ":(glob)*.c", codes "x.c", Some WildcardMatch) ∷
    (codes ":(glob)*.c", codes "d/x.c", None) ∷
    (codes "*.c", codes "d/x.c", Some WildcardMatch) ∷
    (codes ":(glob)**/x", codes "x", Some WildcardMatch) ∷
    (codes ":(glob)**/x", codes "a/b/x", Some WildcardMatch) ∷
    (codes "**/x", codes "x", None) ∷
    (codes ":(glob)a/**/b", codes "a/b", Some WildcardMatch) ∷
    (codes ":(glob)a/**/b", codes "a/x/y/b", Some WildcardMatch) ∷
    (codes ":(glob)a/**/b", codes "ab", None) ∷
    (codes ":(glob)a**/b", codes "ax/b", Some WildcardMatch) ∷
    (codes ":(glob)a**/b", codes "a/x/b", None) ∷
    (codes ":(glob)a/**", codes "a/x/y", Some WildcardMatch) ∷
    (codes ":(glob)a/**", codes "a", None) ∷
    (codes ":(glob)**\\/x", codes "x", None) ∷
    (codes ":(glob)**\\/x", codes "a/x", Some WildcardMatch) ∷
    (codes "a[!b]c", codes "a/c", Some WildcardMatch) ∷
    (codes ":(glob)a[!b]c", codes "a/c", None) ∷
    (codes ":(glob)a[!b]c", codes "axc", Some WildcardMatch) ∷
    (codes "[]x]", codes "]", Some WildcardMatch) ∷
    (codes "[]x]", codes "x", Some WildcardMatch) ∷
    (codes "[a-]", codes "-", Some WildcardMatch) ∷
    (codes "[a-]", codes "a", Some WildcardMatch) ∷
    (codes "[a-]", codes "b", None) ∷
    (codes "[a-c-e]", codes "b", Some WildcardMatch) ∷
    (codes "[a-c-e]", codes "-", Some WildcardMatch) ∷
    (codes "[a-c-e]", codes "d", None) ∷
    (codes "[a-c-e]", codes "e", Some WildcardMatch) ∷
    (codes "[z-a]", codes "m", None) ∷
    (codes "[z-a]", codes "z", Some WildcardMatch) ∷
    (codes "[a-\\c]", codes "b", Some WildcardMatch) ∷
    (codes "[a-\\c]", codes "\\", None) ∷
    (codes "[[:digit:]-z]", codes "5", Some WildcardMatch) ∷
    (codes "[[:digit:]-z]", codes "-", Some WildcardMatch) ∷
    (codes "[[:digit:]-z]", codes "a", None) ∷
    (codes "[[:]", codes "[", Some WildcardMatch) ∷
    (codes "[[:]", codes ":", Some WildcardMatch) ∷
    (codes "[[:foo:]]", codes "f", None) ∷
    (codes ":(icase)[[:upper:]]", codes "q", Some WildcardMatch) ∷
    (codes ":(icase)[!A]", codes "a", None) ∷
    (codes ":(icase)[!A]", codes "b", Some WildcardMatch) ∷
    (codes "\\*", codes "*", Some WildcardMatch) ∷
    (codes "\\*", codes "\\*", Some Verbatim) ∷
    (codes "[a", codes "[a", Some Verbatim) ∷
    (codes "[a", codes "a", None) ∷
    (codes ":(literal)a*", codes "a*", Some Verbatim) ∷
    (codes ":(literal)a*", codes "ab", None) ∷
    (codes "dir", codes "dirt", None) ∷
    (codes "dir", codes "dir/a", Some Prefix) ∷
    (codes "dir/", codes "dir/a", Some Prefix) ∷
    (codes ".", codes "q", Some Always) ∷
    (codes ":", codes "q", Some Always) ∷
    (codes ":!a", codes "a/x", Some Prefix) ∷
    (codes "[x]/y", codes "[x]/y", Some Verbatim) ∷
    (codes "[x]/y", codes "x/y", Some WildcardMatch) ∷
    (codes ":(icase)Ab/C", codes "aB/c", Some Verbatim) ∷
    (codes "[[[[[[[[[[[[[[[[[[[[[[[[[[[[[[[[[[[[[[[[", codes "[[[[[[[[[[[[[[[[[[[[[[[[[[[[[[[[[[[[[[[[", Some Verbatim) ∷
    (codes "[[:alpha", codes "[[:alpha", Some Verbatim) ∷
    (codes "[[:alpha", codes "a", None) ∷
    (codes "[[:]x]", codes "[x]", Some WildcardMatch) ∷
    (codes "[[:]x]", codes ":x]", Some WildcardMatch) ∷
    (codes "[[:]x]", codes "x", None) ∷
    (codes "[[::]x]", codes "[[::]x]", Some Verbatim) ∷
    (codes "[[::]x]", codes ":x]", None) ∷
    (codes ":(glob)**/**/**/**/**/**/x", codes "x", Some WildcardMatch) ∷
    (codes ":(glob)**/**/**/**/**/**/x", codes "y", None) ∷
    (codes ":(icase,prefix:1)a/B", codes "a/b", Some Verbatim) ∷
    (codes ":(icase,prefix:1)a/B", codes "A/b", None) ∷
    (codes ":(icase,prefix:1)a", codes "a", None) ∷
    (codes ":(icase,prefix:1)a", codes "a/x", Some Prefix) ∷
    (codes ":(icase,prefix:1)a", codes "A/x", None) ∷
    [])
unfolding kind
kinds = refl

unknown_bit_matches : fit (spec (codes "x") 256 ShellGlob) (codes "x") false ≡ Some Verbatim
unfolding fit
unknown_bit_matches = refl

file_for_directory : fitted (codes "dir/") (codes "dir") false ≡ None
unfolding fitted
file_for_directory = refl

directory : fitted (codes "dir/") (codes "dir") true ≡ Some Verbatim
unfolding fitted
directory = refl

glob_directory : fitted (codes "a*/") (codes "ab") true ≡ Some WildcardMatch
unfolding fitted
glob_directory = refl

glob_directory_child : fitted (codes "a*/") (codes "ab/x") false ≡ None
unfolding fitted
glob_directory_child = refl

-- a whole path that is the prefix directory matches a directory alone
whole_path_directory : fitted (codes ":(icase,prefix:1)a") (codes "a") true ≡ Some Verbatim
unfolding fitted
whole_path_directory = refl
