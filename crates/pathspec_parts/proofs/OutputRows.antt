-- Rows on what is written for records.
use Rattle.std.proofs.Common.{◌≡◌, Bool, true, false, List, ℕ, refl, [], ◌∷◌, ◌++◌}
use Rattle.std.specs.Prelude.{codes}
use Rattle.pathspec_parts.specs.Bytes.{begins_with}
use Rattle.pathspec_parts.specs.Outputs.{text_of, records_where, output_where, good_records, full_output}

-- what begins with `b`, and each directory
abbrev takes : List ℕ → Bool → Bool
takes path is_dir = elim is_dir [ true ↦ true | false ↦ begins_with path (codes "b") ]

each_has_its_separator : text_of 10 (codes "a/b" ∷ codes "c" ∷ []) ≡ codes "a/b\nc\n"
each_has_its_separator = refl

some_pass : records_where takes (codes "a" ∷ codes "b" ∷ codes "a/" ∷ codes "b/c" ∷ []) ≡ (codes "b" ∷ codes "a/" ∷ codes "b/c" ∷ [])
some_pass = refl

those_are_written : output_where takes 10 (codes "a" ∷ codes "b" ∷ codes "a/" ∷ []) ≡ codes "b\na/\n"
those_are_written = refl

good_before_bad : good_records (codes "a" ∷ codes "b/" ∷ codes "b//c" ∷ codes "d" ∷ []) ≡ (codes "a" ∷ codes "b/" ∷ [])
good_before_bad = refl

all_are_good : good_records (codes "a" ∷ codes "b/c" ∷ []) ≡ (codes "a" ∷ codes "b/c" ∷ [])
all_are_good = refl

last_lacks_its_separator : full_output takes 10 (codes "b\na\nb/c") ≡ codes "b\nb/c\n"
last_lacks_its_separator = refl

none_behind_a_bad_one : full_output takes 10 (codes "b\na\n\nb/c\n") ≡ codes "b\n"
none_behind_a_bad_one = refl

none_of_no_bytes : full_output takes 10 [] ≡ []
none_of_no_bytes = refl

cut_behind_a_separator : full_output takes 10 (codes "b\nb/c") ≡ full_output takes 10 (codes "b\n") ++ full_output takes 10 (codes "b/c")
cut_behind_a_separator = refl
