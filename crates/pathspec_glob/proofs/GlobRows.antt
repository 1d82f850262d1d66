-- Rows on globs.
use Rattle.std.proofs.Common.{◌≡◌, ℕ, Bool, List, true, false, not, ◌&&◌, refl, [], ◌∷◌, replicate, if◌then◌else◌}
use Rattle.std.specs.Prelude.{codes, ◌++◌, Some, None}
use Rattle.std.specs.List.{list_all}
use Rattle.pathspec_glob.proofs.Words.{Mode, Shell, PathAware, Case, Sensitive, Fold, tokens_from, tokens, Literal, Range, Class, Byte, Quoted, Bracket, Dead, One, Star, Deep, ends_with_byte, own_end, matches}

-- whether a glob matches
unfoldable pub globbed : Mode → Case → List ℕ → List ℕ → Bool
unfolding matches tokens_from
globbed mode case pattern text = matches mode case (tokens mode pattern) text

-- a pattern, a text, and whether the pattern matches it
record Row : Type 0 where
  pub pattern : List ℕ
  pub text : List ℕ
  pub matched : Bool

abbrev row : List ℕ → List ℕ → Bool → Row
row pattern text matched = record { pattern = pattern; text = text; matched = matched }

-- each row is as it says
abbrev hold : Mode → Case → List Row → Bool
hold mode case rows = list_all (λ r. let found : Bool = globbed mode case r.pattern r.text in if r.matched then found else not found) rows

path_aware : hold PathAware Sensitive (
    row (codes "*.c") (codes "x.c") true ∷
    row (codes "*.c") (codes "d/x.c") false ∷
    row (codes "**/x") (codes "x") true ∷
    row (codes "**/x") (codes "a/b/x") true ∷
    row (codes "a/**/b") (codes "a/b") true ∷
    row (codes "a/**/b") (codes "a/x/y/b") true ∷
    row (codes "a/**/b") (codes "ab") false ∷
    row (codes "a**/b") (codes "ax/b") true ∷
    row (codes "a**/b") (codes "a/x/b") false ∷
    row (codes "a/**") (codes "a/x/y") true ∷
    row (codes "a/**") (codes "a") false ∷
    row (codes "**\\/x") (codes "x") false ∷
    row (codes "**\\/x") (codes "a/x") true ∷
    row (codes "a[!b]c") (codes "a/c") false ∷
    row (codes "a[!b]c") (codes "axc") true ∷
    row (codes "**/x") (codes "ax") false ∷
    row (codes "a/**/x") (codes "a/bx") false ∷
    row (codes "*") [] true ∷
    row (codes "*") (codes "a") true ∷
    row (codes "*") (codes "a/b") false ∷
    row (codes "*/c") (codes "d/c") true ∷
    row (codes "*/c") (codes "a/d/c") false ∷
    row (codes "**/**/**/**/**/**/**/**/**/**/**/**/**/**/**/**/**/**/**/**/x") (codes "x") true ∷
    row (codes "**/**/**/**/**/**/**/**/x") (codes "y") false ∷
    []) ≡ true
unfolding globbed
path_aware = refl

shell : hold Shell Sensitive (
    row (codes "*.c") (codes "d/x.c") true ∷
    row (codes "**/x") (codes "x") false ∷
    row (codes "a[!b]c") (codes "a/c") true ∷
    row (codes "[]x]") (codes "]") true ∷
    row (codes "[]x]") (codes "x") true ∷
    row (codes "[a-]") (codes "-") true ∷
    row (codes "[a-]") (codes "a") true ∷
    row (codes "[a-]") (codes "b") false ∷
    row (codes "[a-c-e]") (codes "b") true ∷
    row (codes "[a-c-e]") (codes "-") true ∷
    row (codes "[a-c-e]") (codes "d") false ∷
    row (codes "[a-c-e]") (codes "e") true ∷
    row (codes "[z-a]") (codes "m") false ∷
    row (codes "[z-a]") (codes "z") true ∷
    row (codes "[a-\\c]") (codes "b") true ∷
    row (codes "[a-\\c]") (codes "\\") false ∷
    row (codes "[[:digit:]-z]") (codes "5") true ∷
    row (codes "[[:digit:]-z]") (codes "-") true ∷
    row (codes "[[:digit:]-z]") (codes "a") false ∷
    row (codes "[[:]") (codes "[") true ∷
    row (codes "[[:]") (codes ":") true ∷
    row (codes "[[:foo:]]") (codes "f") false ∷
    row (codes "\\*") (codes "*") true ∷
    row (codes "\\*") (codes "\\*") false ∷
    row (codes "[a") (codes "[a") false ∷
    row (codes "[a") (codes "a") false ∷
    row (codes "*/c") (codes "a/d/c") true ∷
    row (codes "a?b") (97 ∷ 0 ∷ 98 ∷ []) true ∷
    row (codes "a?") (97 ∷ 255 ∷ []) true ∷
    row (codes "a?") (97 ∷ 195 ∷ 164 ∷ []) false ∷
    []) ≡ true
unfolding globbed
shell = refl

without_case : hold Shell Fold (
    row (codes "[[:upper:]]") (codes "q") true ∷
    row (codes "[!A]") (codes "a") false ∷
    row (codes "[!A]") (codes "b") true ∷
    row (codes "*.C") (codes "x.c") true ∷
    row (codes "*.C") (codes ".c") true ∷
    row (codes "*.C") (codes "c") false ∷
    []) ≡ true
unfolding globbed
without_case = refl

-- thirty `a` and no `b`; forty stars and `b` on forty `a`; ten times `a*`, and `b`, on twenty `a`; more than 64 bytes between two stars
long : hold Shell Sensitive (
    row (codes "a*a*a*b") (replicate 30 97) false ∷
    row (replicate 40 42 ++ 98 ∷ []) (replicate 40 97) false ∷
    row (codes "a*a*a*a*a*a*a*a*a*a*b") (replicate 20 97) false ∷
    row (42 ∷ replicate 64 97 ++ 42 ∷ 98 ∷ []) (replicate 64 97 ++ 98 ∷ []) true ∷
    row (42 ∷ replicate 64 97 ++ 42 ∷ 98 ∷ []) (replicate 63 97 ++ 98 ∷ []) false ∷
    []) ≡ true
unfolding globbed
long = refl

-- so many question marks match so many bytes, and not one more
questions : list_all (λ n. globbed Shell Sensitive (replicate n 63) (replicate n 97) && not (globbed Shell Sensitive (replicate n 63) (97 ∷ replicate n 97))) (0 ∷ 1 ∷ 63 ∷ 64 ∷ 65 ∷ 127 ∷ 128 ∷ 129 ∷ []) ≡ true
unfolding globbed
questions = refl

-- ---- tokens

read_as :
    (tokens PathAware (codes "**/x") ≡ (Deep ∷ One (Byte 47) ∷ One (Byte 120) ∷ []))
    × (tokens PathAware (codes "a**/b") ≡ (One (Byte 97) ∷ Star ∷ One (Byte 47) ∷ One (Byte 98) ∷ []))
    × (tokens PathAware (codes "a/**b") ≡ (One (Byte 97) ∷ One (Byte 47) ∷ Star ∷ One (Byte 98) ∷ []))
    × (tokens PathAware (codes "**\\/x") ≡ (Deep ∷ One (Quoted 47) ∷ One (Byte 120) ∷ []))
    × (tokens PathAware (codes "\\/**") ≡ (One (Quoted 47) ∷ Deep ∷ []))
    × (tokens Shell (codes "a***b") ≡ (One (Byte 97) ∷ Deep ∷ One (Byte 98) ∷ []))
    × (tokens Shell (codes "a\\") ≡ (One (Byte 97) ∷ One Dead ∷ []))
    × (tokens Shell (codes "a[bc") ≡ (One (Byte 97) ∷ One Dead ∷ []))
    × (tokens Shell (codes "[]x]") ≡ (One (Bracket false (Literal 93 ∷ Literal 120 ∷ [])) ∷ []))
    × (tokens Shell (codes "[a-c-e]") ≡ (One (Bracket false (Literal 97 ∷ Range 97 99 ∷ Literal 45 ∷ Literal 101 ∷ [])) ∷ []))
    × (tokens Shell (codes "[[:digit:]-z]") ≡ (One (Bracket false (Class (codes "digit") ∷ Literal 45 ∷ Literal 122 ∷ [])) ∷ []))
    × (tokens Shell (codes "[[:]x]") ≡ (One (Bracket false (Literal 91 ∷ Literal 58 ∷ [])) ∷ One (Byte 120) ∷ One (Byte 93) ∷ []))
    × (tokens Shell (codes "[[::]x]") ≡ (One Dead ∷ []))
    × (tokens Shell (codes "[[:alpha") ≡ (One Dead ∷ []))
    × (tokens Shell (codes "[!]a]z") ≡ (One (Bracket true (Literal 93 ∷ Literal 97 ∷ [])) ∷ One (Byte 122) ∷ []))
    × (tokens Shell (codes "[a-\\c]") ≡ (One (Bracket false (Literal 97 ∷ Range 97 99 ∷ [])) ∷ []))
    × (tokens Shell (codes "[a-\\") ≡ (One Dead ∷ []))
unfolding tokens_from
read_as = (refl, refl, refl, refl, refl, refl, refl, refl, refl, refl, refl, refl, refl, refl, refl, refl, refl)

-- ---- last bytes: `s` is 115, and `a` is 97

ends :
    (ends_with_byte Sensitive (codes "src/a.rs") 115 ≡ true)
    × (ends_with_byte Sensitive (codes "src/a.rs") 114 ≡ false)
    × (ends_with_byte Fold (codes "A") 97 ≡ true)
    × (ends_with_byte Sensitive (codes "A") 97 ≡ false)
    × ((byte : ℕ) → ends_with_byte Fold [] byte ≡ false)
ends = (refl, refl, refl, refl, λ byte. refl)

-- a byte stands for itself at the end of `src/*.rs` and `*.\s`, and none does where a bracket, `**/` or nothing ends a pattern
own_ends :
    (own_end (codes "src/*.rs") ≡ Some 115)
    × (own_end (codes "*.\\s") ≡ Some 115)
    × (own_end (codes "*.[s]") ≡ None)
    × (own_end (codes "src/**/") ≡ None)
    × (own_end (codes "src/*") ≡ None)
    × (own_end [] ≡ None)
own_ends = (refl, refl, refl, refl, refl, refl)
