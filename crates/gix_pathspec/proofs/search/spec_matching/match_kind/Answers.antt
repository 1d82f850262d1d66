-- The prefix directory is lost or kept; then the glob decides, or where there is none whether the pattern always matches; and then the text.
use Rattle.std.proofs.Common.{sym, ◌∙◌}
use Rattle.gix_pathspec.proofs.MatchingProofs.{fit-lost, fit-always, fit-globbed, fit-text_beside, fit-text_alone}
use Rattle.gix_pathspec.proofs.search.spec_matching.match_kind.Goals as goal
use Rattle.gix_pathspec.proofs.search.spec_matching.match_kind.Goals.{in_default-via-in-Some+else-is_glob_match, in_default-via-in-None+else-always_matches}

pub returns-then-not-is_in_prefix_directory-clause-kind : goal.returns-then-not-is_in_prefix_directory-clause-kind
returns-then-not-is_in_prefix_directory-clause-kind c = fit-lost _ _ _ (sym c.if-not-is_in_prefix_directory.ensures)

pub returns-in-Some-clause-kind : goal.returns-in-Some-clause-kind
returns-in-Some-clause-kind c = fit-globbed _ _ _ (sym c.if-not-is_in_prefix_directory.ensures) c.in-Some.glob (sym c.requires.glob ∙ c.in-Some.is) (sym c.if-is_glob_match.ensures.answer)

pub returns-in-None-clause-kind : goal.returns-in-None-clause-kind
returns-in-None-clause-kind c = fit-always _ _ _ (sym c.if-not-is_in_prefix_directory.ensures) (sym c.if-always_matches.ensures)

pub returns-in_default-clause-kind : goal.returns-in_default-clause-kind
returns-in_default-clause-kind c = c.text_kind.ensures ∙ elim c.in_default.branch [
  | in_default-via-in-Some+else-is_glob_match w ↦ fit-text_beside _ _ _ (sym c.if-not-is_in_prefix_directory.ensures) w.in-Some.glob (sym c.requires.glob ∙ w.in-Some.is) (sym w.if-is_glob_match.ensures.answer)
  | in_default-via-in-None+else-always_matches w ↦ fit-text_alone _ _ _ (sym c.if-not-is_in_prefix_directory.ensures) (sym c.requires.glob ∙ w.in-None.is) (sym w.if-always_matches.ensures)
]
