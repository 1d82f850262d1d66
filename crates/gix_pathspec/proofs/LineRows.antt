-- Rows on the lines of a text, and on the specs that stand on them.
use Rattle.std.proofs.Common.{◌≡◌, refl, [], ◌∷◌, ◌++◌, Ok, Err}
use Rattle.std.specs.Prelude.{codes}
use Rattle.bstr.specs.Text.{line_len, lines_from}
use Rattle.gix_pathspec.specs.Faults.Fault.{Empty, InvalidKeyword, InvalidPrefix, LeavesRepository}
use Rattle.gix_pathspec.specs.Specs.{exclude, must_be_dir}
use Rattle.gix_pathspec.specs.NormalForm.{climb, normal_form}
use Rattle.gix_pathspec.specs.Reading.{empty_spec, literal_spec, no_defaults, cut_of, magic_of, spec_of, is_unimplemented, reading}
use Rattle.gix_pathspec.specs.Search.{search_of}
use Rattle.gix_pathspec.specs.Lines.{spec_lines, search_of_lines}

-- ---- lines

empty_text_has_no_line : spec_lines [] ≡ []
unfolding line_len lines_from
empty_text_has_no_line = refl

-- `a`, line feed, `b`
last_line_may_lack_its_line_feed : spec_lines (97 ∷ 10 ∷ 98 ∷ []) ≡ codes "a" ∷ codes "b" ∷ []
unfolding line_len lines_from
last_line_may_lack_its_line_feed = refl

-- `a`, line feed, `b`, line feed
line_feed_at_the_end_begins_no_line : spec_lines (97 ∷ 10 ∷ 98 ∷ 10 ∷ []) ≡ codes "a" ∷ codes "b" ∷ []
unfolding line_len lines_from
line_feed_at_the_end_begins_no_line = refl

-- `a`, two line feeds, `b`
line_may_be_empty : spec_lines (97 ∷ 10 ∷ 10 ∷ 98 ∷ []) ≡ codes "a" ∷ [] ∷ codes "b" ∷ []
unfolding line_len lines_from
line_may_be_empty = refl

-- a line feed alone
lone_line_feed_ends_an_empty_line : spec_lines (10 ∷ []) ≡ [] ∷ []
unfolding line_len lines_from
lone_line_feed_ends_an_empty_line = refl

-- `a`, carriage return, line feed
carriage_return_before_a_line_feed_is_no_part : spec_lines (97 ∷ 13 ∷ 10 ∷ []) ≡ codes "a" ∷ []
unfolding line_len lines_from
carriage_return_before_a_line_feed_is_no_part = refl

-- `a`, two carriage returns, line feed
only_one_carriage_return_is_taken_off : spec_lines (97 ∷ 13 ∷ 13 ∷ 10 ∷ []) ≡ (97 ∷ 13 ∷ []) ∷ []
unfolding line_len lines_from
only_one_carriage_return_is_taken_off = refl

-- `a`, carriage return
last_carriage_return_without_a_line_feed_stays : spec_lines (97 ∷ 13 ∷ []) ≡ (97 ∷ 13 ∷ []) ∷ []
unfolding line_len lines_from
last_carriage_return_without_a_line_feed_stays = refl

-- carriage return, line feed
line_of_one_carriage_return_is_empty : spec_lines (13 ∷ 10 ∷ []) ≡ [] ∷ []
unfolding line_len lines_from
line_of_one_carriage_return_is_empty = refl

-- a space, `a`, the byte 0, the byte 255, a tab
nothing_is_trimmed : spec_lines (32 ∷ 97 ∷ 0 ∷ 255 ∷ 9 ∷ []) ≡ (32 ∷ 97 ∷ 0 ∷ 255 ∷ 9 ∷ []) ∷ []
unfolding line_len lines_from
nothing_is_trimmed = refl

-- ---- the specs on them

-- `a`, `:!a/x`: the exclude is asked first, and has the number of its line
specs_are_numbered_by_their_lines :
    search_of_lines no_defaults [] [] (codes "a" ++ 10 ∷ codes ":!a/x" ++ 10 ∷ [])
    ≡ Ok (record { number = 1; spec = record empty_spec { path = codes "a/x"; signature = exclude } } ∷ record { number = 0; spec = record empty_spec { path = codes "a" } } ∷ [])
unfolding line_len lines_from reading cut_of is_unimplemented magic_of spec_of search_of normal_form climb
specs_are_numbered_by_their_lines = refl

-- `a` and an empty line
empty_line_is_at_fault : search_of_lines no_defaults [] [] (97 ∷ 10 ∷ 10 ∷ []) ≡ Err (1, Empty)
unfolding line_len lines_from reading spec_of
empty_line_is_at_fault = refl

-- `../x` and `:(foo)y`: every line is read before the first spec is normalised
reading_comes_before_normalising : search_of_lines no_defaults [] [] (codes "../x" ++ 10 ∷ codes ":(foo)y") ≡ Err (1, InvalidKeyword (codes "foo"))
unfolding line_len lines_from reading cut_of is_unimplemented magic_of spec_of search_of normal_form climb
reading_comes_before_normalising = refl

-- `x`, `../x`
spec_without_a_normal_form_is_told_by_its_line : search_of_lines no_defaults [] [] (codes "x" ++ 10 ∷ codes "../x" ++ 10 ∷ []) ≡ Err (1, LeavesRepository (codes "../x"))
unfolding line_len lines_from reading cut_of spec_of search_of normal_form climb
spec_without_a_normal_form_is_told_by_its_line = refl

-- `:(prefix:2)a/B`
prefix_that_is_no_boundary_is_told : search_of_lines no_defaults [] [] (codes ":(prefix:2)a/B" ++ 10 ∷ []) ≡ Err (0, InvalidPrefix (codes "prefix:2"))
unfolding line_len lines_from reading cut_of is_unimplemented magic_of spec_of search_of normal_form climb
prefix_that_is_no_boundary_is_told = refl

-- no line under the prefix `a`
no_line_stands_for_the_prefix : search_of_lines no_defaults (codes "a") [] [] ≡ Ok (record { number = 0; spec = record (literal_spec must_be_dir (codes "a")) { prefix_length = 1 } } ∷ [])
unfolding line_len lines_from search_of normal_form climb
no_line_stands_for_the_prefix = refl
