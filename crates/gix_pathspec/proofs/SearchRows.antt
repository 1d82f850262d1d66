-- Rows on searches and on their answers to paths.
use Rattle.std.proofs.Common.{◌≡◌, ℕ, true, false, refl, [], ◌∷◌, Some, None, Err, Bool, List, Option}
use Rattle.std.specs.Prelude.{codes}
use Rattle.std.specs.Option.{option_map}
use Rattle.pathspec_pattern.specs.declared.SearchMode.TheVariants.{ShellGlob}
use Rattle.gix_pathspec.specs.declared.search.MatchKind.{MatchKind}
use Rattle.gix_pathspec.specs.declared.search.MatchKind.TheVariants.{Always, Prefix, WildcardMatch, Verbatim}
use Rattle.pathspec_parts.specs.Attributes.State.{Set}
use Rattle.pathspec_pattern.specs.Faults.Fault.{LeavesRepository}
use Rattle.gix_pathspec.specs.Specs.{exclude}
use Rattle.gix_pathspec.specs.Reading.{nil_spec}
use Rattle.gix_pathspec.specs.NormalForm.{normal_form, climb}
use Rattle.gix_pathspec.specs.Matching.{fit, has_attributes, spec_matches, is_chosen}
use Rattle.gix_pathspec.specs.Search.{answer, search_of}
use Rattle.gix_pathspec.specs.Pruning.{can_match}
use Rattle.gix_pathspec.specs.Prefixes.{common_prefix}
use Rattle.gix_pathspec.proofs.Asking.{IsTable, asked, answering, selected, nothing_known, known_of}
use Rattle.pathspec_pattern.proofs.Asking.{spec, apply_assignments}

-- a prefix, specs, a path and whether it is a directory; and the number and the kind of the answer
abbrev AnswerRow : Type 0
AnswerRow = List ℕ × List (List ℕ) × List ℕ × Bool × Option (ℕ × MatchKind)

answers : IsTable (λ (r : AnswerRow). asked r.0 r.1 r.2 r.3) (λ r. r.4) (
    ([], codes "src/**" ∷ codes ":!src/generated/**" ∷ [], codes "src/lib.rs", false, Some (0, WildcardMatch)) ∷
    ([], codes "src/**" ∷ codes ":!src/generated/**" ∷ [], codes "src/generated/lib.rs", false, Some (1, WildcardMatch)) ∷
    (codes "a", codes ":(icase)B" ∷ [], codes "a/b", false, Some (0, Verbatim)) ∷
    (codes "a", codes ":(icase)B" ∷ [], codes "A/b", false, None) ∷
    (codes "a", codes ":(icase)B" ∷ codes ":(top)x" ∷ [], codes "a/b", false, Some (0, Verbatim)) ∷
    (codes "a", codes ":(icase)B" ∷ codes ":(top)x" ∷ [], codes "A/b", false, None) ∷
    (codes "a", codes ":(icase)B" ∷ codes ":(top)x" ∷ [], codes "x", false, Some (1, Verbatim)) ∷
    (codes "a", [], codes "a/b", false, Some (0, Prefix)) ∷
    (codes "a", [], codes "b", false, None) ∷
    ([], codes ":!a" ∷ [], codes "b", false, Some (1, Always)) ∷
    ([], codes ":!a" ∷ [], codes "a/x", false, Some (0, Prefix)) ∷
    ([], codes ":!a" ∷ [], [], false, Some (0, Always)) ∷
    ([], codes "a*/" ∷ [], codes "ab", true, Some (0, WildcardMatch)) ∷
    ([], codes "a*/" ∷ [], codes "ab/x", false, None) ∷
    ([], codes "[x]/y" ∷ [], codes "[x]/y", false, Some (0, Verbatim)) ∷
    ([], codes "[x]/y" ∷ [], codes "x/y", false, Some (0, WildcardMatch)) ∷
    ([], codes "dir" ∷ [], codes "dirt", false, None) ∷
    ([], codes "dir" ∷ [], codes "dir/a", false, Some (0, Prefix)) ∷
    ([], codes "dir/" ∷ [], codes "dir", false, None) ∷
    ([], codes "dir/" ∷ [], codes "dir", true, Some (0, Verbatim)) ∷
    ([], codes "x" ∷ codes "." ∷ [], codes "q", false, Some (1, Always)) ∷
    ([], codes "x" ∷ codes "." ∷ [], codes "x", false, Some (0, Verbatim)) ∷
    ([], codes ".x" ∷ codes "." ∷ [], codes "q", false, Some (1, Always)) ∷
    ([], codes ".x" ∷ codes "." ∷ [], codes ".x", false, Some (0, Verbatim)) ∷
    ([], codes "a/b" ∷ codes "a/c" ∷ [], codes "a", false, None) ∷
    ([], codes ":!a" ∷ codes ":!b" ∷ [], codes "c", false, Some (2, Always)) ∷
    ([], [], codes "x", false, Some (0, Always)) ∷
    ([], [], [], false, Some (0, Always)) ∷
    ([], codes "a/x" ∷ codes "a/y" ∷ codes "b" ∷ codes ":!a/x/z" ∷ [], codes "a/x/q", false, Some (0, Prefix)) ∷
    ([], codes "a/x" ∷ codes "a/y" ∷ codes "b" ∷ codes ":!a/x/z" ∷ [], codes "a/x/z", false, Some (3, Verbatim)) ∷
    ([], codes "a/x" ∷ codes "a/y" ∷ codes "b" ∷ codes ":!a/x/z" ∷ [], codes "a/yy", false, None) ∷
    ([], codes "a/x" ∷ codes "a/y" ∷ codes "b" ∷ codes ":!a/x/z" ∷ [], codes "c", false, None) ∷
    ([], codes "[x]/y" ∷ codes "z" ∷ [], codes "z", false, Some (1, Verbatim)) ∷
    [])
unfolding asked
answers = refl

-- a prefix, specs and a file; and the long text of the spec that answers
abbrev AnsweringRow : Type 0
AnsweringRow = List ℕ × List (List ℕ) × List ℕ × Option (List ℕ)

answering_specs : IsTable (λ (r : AnsweringRow). answering r.0 r.1 r.2) (λ r. r.3) (
    ([], codes "src/**" ∷ codes ":!src/generated/**" ∷ [], codes "src/lib.rs", Some (codes ":()src/**")) ∷
    ([], codes "src/**" ∷ codes ":!src/generated/**" ∷ [], codes "src/generated/lib.rs", Some (codes ":(exclude)src/generated/**")) ∷
    (codes "a", [], codes "a/b", Some (codes ":(literal,prefix:1)a/")) ∷
    ([], codes ":!a" ∷ [], codes "b", Some (codes ":")) ∷
    ([], codes ":!a" ∷ codes ":!b" ∷ [], codes "c", Some (codes ":")) ∷
    ([], [], codes "x", Some (codes ":")) ∷
    ([], [], [], Some (codes ":")) ∷
    [])
unfolding answering
answering_specs = refl

-- whether `src/**`, `:!src/generated/**` select file `src/generated/lib.rs`
exclude_does_not_select : selected [] ((codes "src/**") ∷ (codes ":!src/generated/**") ∷ []) (codes "src/generated/lib.rs") ≡ Some false
unfolding selected
exclude_does_not_select = refl

-- whether `:!a` selects file `a/x`
exclude_alone_does_not_select : selected [] ((codes ":!a") ∷ []) (codes "a/x") ≡ Some false
unfolding selected
exclude_alone_does_not_select = refl

-- an exclude that is nil, made by hand, on file `x`
nil_exclude_by_hand : is_chosen nothing_known (record nil_spec { signature = exclude } ∷ []) (codes "x") false ≡ false
unfolding is_chosen spec_matches has_attributes fit
nil_exclude_by_hand = refl

-- what a search of it alone answers
nil_exclude_by_hand_answers : option_map {U = ℕ × MatchKind} (λ a. (a.number, a.kind)) (answer nothing_known (record { number = 0; spec = record nil_spec { signature = exclude } } ∷ []) (codes "x") false) ≡ Some (0, Always)
unfolding answer common_prefix spec_matches has_attributes fit
nil_exclude_by_hand_answers = refl

-- on directory `x`
nil_exclude_by_hand_prunes : can_match (record nil_spec { signature = exclude } ∷ []) (codes "x") (Some true) ≡ false
unfolding can_match common_prefix
nil_exclude_by_hand_prunes = refl

-- a nil spec that lists an attribute, on a file that has it
nil_with_attribute : spec_matches (known_of (codes "x")) (record nil_spec { attributes = apply_assignments (codes "g") Set ∷ [] }) (codes "x") false ≡ true
unfolding spec_matches has_attributes fit
nil_with_attribute = refl

-- on one that has not
nil_with_attribute_elsewhere : spec_matches (known_of (codes "x")) (record nil_spec { attributes = apply_assignments (codes "g") Set ∷ [] }) (codes "y") false ≡ false
unfolding spec_matches has_attributes fit
nil_with_attribute_elsewhere = refl

-- `a` and `../x`: the second leaves the repository
second_spec_fails : search_of [] [] (spec (codes "a") 0 ShellGlob ∷ spec (codes "../x") 0 ShellGlob ∷ []) ≡ Err (1, LeavesRepository (codes "../x"))
unfolding search_of normal_form climb
second_spec_fails = refl
