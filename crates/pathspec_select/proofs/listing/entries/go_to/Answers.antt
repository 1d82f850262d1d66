use Rattle.std.proofs.Common.{ℕ, sym, ◌∙◌, ap, subst, List, ◌++◌, length, fold, replicate, None}
use Rattle.std.proofs.lemmas.List.{append-nil}
use Rattle.pathspec_parts.specs.Trees.{tree_after}
use Rattle.pathspec_parts.specs.Records.{directory_names}
use Rattle.pathspec_select.specs.ListingAnswers.{AnswersNames}
use Rattle.pathspec_select.proofs.AddingProofs.{implied_none, no_calls, answers_all}
use Rattle.pathspec_select.proofs.OpenProofs.{has_open-closed, rest_is}
use Rattle.pathspec_select.proofs.listing.entries.go_to.Goals as goal

pub returns-then-eq-clause-tree : goal.returns-then-eq-clause-tree
returns-then-eq-clause-tree c = sym (ap (fold tree_after c.args.outline.now.tree) (no_calls c.args.directory.now c.args.wanted.now (sym c.eq.ensures ∙ c.if-eq.true)))

pub returns-then-eq-clause-marks : goal.returns-then-eq-clause-marks
returns-then-eq-clause-marks c =
    sym (ap (λ (names : List (List ℕ)). c.args.outline.now.marks ++ replicate (length names) None) (implied_none c.args.directory.now c.args.wanted.now (sym c.eq.ensures ∙ c.if-eq.true)) ∙ append-nil c.args.outline.now.marks)

pub open_all-requires-clause-here : goal.open_all-requires-clause-here
open_all-requires-clause-here c =
    has_open-closed c.args.outline.now.tree c.close_all.new.outline.tree c.args.directory.now c.args.wanted.now c.after_shared.result.0.now c.after_shared.result.1.now c.requires.here c.requires.begins.closed c.after_shared.ensures.rest
    c.after_shared.ensures.left c.after_shared.ensures.missing c.close_all.ensures.tree

pub returns-clause-answers : goal.returns-clause-answers
returns-clause-answers c =
    let missing = c.after_shared.result.1.now in
    let same = ap directory_names (rest_is c.args.wanted.now missing c.after_shared.ensures.rest) in
    answers_all (directory_names c.args.directory.now) (directory_names c.args.wanted.now) missing c.open_all.result c.requires.named c.after_shared.ensures.missing (subst (λ (ns : List (List ℕ)). AnswersNames ns c.open_all.result) same c.open_all.ensures.answers)
