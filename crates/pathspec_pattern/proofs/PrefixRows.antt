-- Rows on the piece `prefix:`.
use Rattle.std.proofs.Common.{◌≡◌, ℕ, Bool, true, false, refl, List, [], ◌∷◌, map, Result, Ok, Err}
use Rattle.std.specs.Prelude.{codes}
use Rattle.pathspec_pattern.specs.declared.SearchMode.{SearchMode}
use Rattle.pathspec_pattern.specs.declared.SearchMode.TheVariants.{ShellGlob}
use Rattle.pathspec_pattern.specs.Results.{◌>>=◌}
use Rattle.pathspec_pattern.specs.Faults.{Fault}
use Rattle.pathspec_pattern.specs.Faults.Fault.{InvalidKeyword, InvalidPrefix}
use Rattle.pathspec_pattern.specs.Specs.{Spec, prefix_directory}
use Rattle.pathspec_pattern.specs.LongText.{long_text}
use Rattle.pathspec_pattern.specs.NormalForm.{normal_form, climb}
use Rattle.pathspec_pattern.proofs.Asking.{parse, long, normal}

-- a spec with a prefix length
abbrev with_prefix_length : List ℕ → ℕ → SearchMode → ℕ → Spec
with_prefix_length path signature mode n = record { path = path; signature = signature; mode = mode; attributes = []; nil = false; prefix_length = n }

-- the prefix directory of what a text says
unfoldable directory : List ℕ → Result (List ℕ) Fault
unfolding parse
directory text = parse text >>= λ s. Ok (prefix_directory s)

-- the long text of a text's normal form
unfoldable normal_long : List ℕ → List ℕ → Result (List ℕ) Fault
unfolding parse normal_form climb long_text
normal_long prefix text = parse text >>= λ s. normal_form prefix [] s >>= λ n. Ok (long_text n)

-- the prefix length of it
unfoldable normal_length : List ℕ → List ℕ → Result ℕ Fault
unfolding parse normal_form climb
normal_length prefix text = parse text >>= λ s. normal_form prefix [] s >>= λ n. Ok n.prefix_length

directory_is_read : directory (codes ":(icase,prefix:1)a/B") ≡ Ok (codes "a")
unfolding directory
directory_is_read = refl

-- texts with a prefix length
abbrev texts : List (List ℕ × Result Spec Fault)
texts =
    -- faults
    (codes ":(prefix:2)a/B", Err (InvalidPrefix (codes "prefix:2")))
    ∷ (codes ":(prefix:9,foo)x", Err (InvalidKeyword (codes "foo")))
    ∷ (codes ":(prefix:)x", Err (InvalidPrefix (codes "prefix:")))
    ∷ (codes ":(prefix:+1)x", Err (InvalidPrefix (codes "prefix:+1")))
    ∷ (codes ":(prefix)x", Err (InvalidKeyword (codes "prefix")))
    ∷ (codes ":(prefix:18446744073709551616)x", Err (InvalidPrefix (codes "prefix:18446744073709551616")))
    -- zeros in front count for nothing
    ∷ (codes ":(prefix:000)x", Ok (with_prefix_length (codes "x") 0 ShellGlob 0))
    ∷ (codes ":(prefix:00000000000000000000000000000000000000000001)x", Ok (with_prefix_length (codes "x") 0 ShellGlob 1))
    -- of several only the last is compared with the path
    ∷ (codes ":(prefix:x,prefix:1,foo)a/b", Err (InvalidPrefix (codes "prefix:x")))
    ∷ (codes ":(prefix:1,prefix:9)a/b", Err (InvalidPrefix (codes "prefix:9")))
    -- a last slash that is stripped counts before, and not after
    ∷ (codes ":(prefix:3)a/b/", Ok (with_prefix_length (codes "a/b") 8 ShellGlob 3))
    ∷ (codes ":(prefix:4)a/b/", Err (InvalidPrefix (codes "prefix:4")))
    ∷ (codes ":(prefix:1\\,2)x", Err (InvalidPrefix (codes "prefix:1\\,2")))
    ∷ []

texts_are_read : map (λ r. parse r.0) texts ≡ map (λ r. r.1) texts
unfolding parse
texts_are_read = refl

-- texts and the long texts of what they say
abbrev texts_written : List (List ℕ × Result (List ℕ) Fault)
texts_written =
    (codes ":(icase,prefix:1)a/B", Ok (codes ":(icase,prefix:1)a/B"))
    ∷ (codes ":(prefix:9,prefix:01)a/b", Ok (codes ":(prefix:1)a/b"))
    ∷ (codes ":(attr:g,prefix:1)a/b", Ok (codes ":(prefix:1,attr:g)a/b"))
    ∷ (codes ":(prefix:1)a/", Ok (codes ":(prefix:1)a/"))
    ∷ (codes ":(prefix:0010)abcdefghij/k", Ok (codes ":(prefix:10)abcdefghij/k"))
    ∷ []

texts_are_written : map (λ r. long r.0) texts_written ≡ map (λ r. r.1) texts_written
unfolding long
texts_are_written = refl

-- a prefix, a root and a text, and the path, the prefix directory and whether it is nil of its normal form
abbrev normal_texts : List (List ℕ × List ℕ × List ℕ × Result (List ℕ × List ℕ × Bool) Fault)
normal_texts =
    ([], [], codes ":(prefix:1)a/b", Ok (codes "a/b", codes "a", false))
    ∷ (codes "c", [], codes ":(prefix:1)a/b", Ok (codes "c/a/b", codes "c", false))
    -- where the path changes it has none
    ∷ ([], [], codes ":(prefix:1)a//b", Ok (codes "a/b", [], false))
    -- from the top none is joined
    ∷ (codes "c", [], codes ":(top,prefix:1)a/b", Ok (codes "a/b", codes "a", false))
    ∷ ([], [], codes ":(icase,prefix:1).", Ok (codes ".", [], true))
    ∷ ([], codes "/r", codes ":(prefix:2)/r/a/b", Ok (codes "a/b", codes "a", false))
    ∷ []

normal_forms : map (λ r. normal r.0 r.1 r.2) normal_texts ≡ map (λ r. r.3) normal_texts
unfolding normal
normal_forms = refl

-- a prefix and a text, and the prefix length of its normal form
abbrev normal_lengths : List (List ℕ × List ℕ × Result ℕ Fault)
normal_lengths =
    ([], codes ":(icase,prefix:1).", Ok 0)
    ∷ ([], codes ":(prefix:0)", Ok 0)
    ∷ []

lengths_of_normal_forms : map (λ r. normal_length r.0 r.1) normal_lengths ≡ map (λ r. r.2) normal_lengths
unfolding normal_length
lengths_of_normal_forms = refl

-- a prefix and a text, and the long text of its normal form
abbrev normals_written : List (List ℕ × List ℕ × Result (List ℕ) Fault)
normals_written =
    (codes "a", codes ":(icase)B", Ok (codes ":(icase,prefix:1)a/B"))
    -- a literal spec under a prefix, of which a directory is wanted
    ∷ (codes "a", codes ":(literal)./", Ok (codes ":(literal,prefix:1)a/"))
    ∷ []

normal_forms_are_written : map (λ r. normal_long r.0 r.1) normals_written ≡ map (λ r. r.2) normals_written
unfolding normal_long
normal_forms_are_written = refl
