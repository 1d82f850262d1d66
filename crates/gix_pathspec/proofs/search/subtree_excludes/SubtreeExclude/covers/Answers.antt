-- The prefix directory first, then the path, and then the glob.
use Rattle.std.proofs.Common.{◌∙◌, sym}
use Rattle.bstr.specs.BStr.{bstr_bytes}
use Rattle.std.proofs.lemmas.Bool.{or_left, or_right}
use Rattle.gix_pathspec.proofs.SubtreeExcludeProofs.{exclude-lost, exclude-whole, exclude-rest}
use Rattle.gix_pathspec.proofs.search.subtree_excludes.SubtreeExclude.covers.Goals as goal
use Rattle.gix_pathspec.proofs.search.subtree_excludes.SubtreeExclude.covers.Goals.{then-is_verbatim_match-via-then-is_verbatim_match, then-is_verbatim_match-via-else-is_verbatim_match+then-is_prefix_match}

pub returns-then-not-is_in_prefix_directory-clause-answer : goal.returns-then-not-is_in_prefix_directory-clause-answer
returns-then-not-is_in_prefix_directory-clause-answer c = rw (← c.self.view_is) (exclude-lost _ (bstr_bytes c.args.directory) c.self.invariant.is_one (sym c.if-not-is_in_prefix_directory.ensures))

pub returns-then-is_verbatim_match-clause-answer : goal.returns-then-is_verbatim_match-clause-answer
returns-then-is_verbatim_match-clause-answer c =
    rw (← c.self.view_is) (exclude-whole _ (bstr_bytes c.args.directory) c.self.invariant.is_one (sym c.if-not-is_in_prefix_directory.ensures) (elim c.then-is_verbatim_match.branch [
      | then-is_verbatim_match-via-then-is_verbatim_match w ↦ or_left _ _ (sym c.is_verbatim_match.ensures ∙ w.if-is_verbatim_match.true)
      | then-is_verbatim_match-via-else-is_verbatim_match+then-is_prefix_match w ↦ or_right _ _ (sym w.is_prefix_match.ensures ∙ w.if-is_prefix_match.true)
    ]))

pub returns-clause-answer : goal.returns-clause-answer
returns-clause-answer c =
    c.covers_rest.ensures.answer ∙ rw (← c.self.view_is) (exclude-rest _ (bstr_bytes c.args.directory) c.self.invariant.is_one (sym c.if-not-is_in_prefix_directory.ensures) (sym c.if-is_verbatim_match.ensures) (sym c.if-is_prefix_match.ensures))
