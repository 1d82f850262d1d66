-- Nothing below a directory that may be skipped is chosen.
use Rattle.std.proofs.Common.{◌≡◌, ◌∙◌, sym, ap, subst, true}
use Rattle.std.proofs.lemmas.Bool.{false_from_ne_true}
use Rattle.gix_pathspec.specs.Matching.{is_chosen}
use Rattle.gix_pathspec.specs.Skipping.{may_skip}
use Rattle.gix_pathspec.specs.Search.{specs_of}
use Rattle.gix_pathspec.proofs.ChosenProofs.{chosen_is_test}
use Rattle.pathspec_filter.specs.Selections.{path_in}
use Rattle.pathspec_filter.specs.Places.{Asked, HoldsNoneChosen}
use Rattle.pathspec_filter.proofs.questions.Questions.may_skip.Goals as goal

pub returns-clause-none : goal.returns-clause-none
returns-clause-none c = λ h.
    let q = c.self.inside in
    let specs = specs_of q.search.now.specs in
    let d = c.args.directory.now in
    let inner = path_in q.selection.leading_dot d in
    let skip : may_skip specs inner ≡ true = ap (may_skip specs) (sym (c.new-directory.ensures ∙ c.path_in.ensures)) ∙ (sym c.may_skip-may_skip.ensures.answer ∙ h) in
    let none : HoldsNoneChosen (record { specs = q.search.now.specs; selection = q.selection }) d = λ table path is_dir below.
    let there = path_in q.selection.leading_dot path in
    false_from_ne_true (is_chosen table specs there is_dir) (λ t. c.may_skip-may_skip.ensures.safe table inner skip there is_dir (c.is_top.ensures c.if-is_top.false path below) ((chosen_is_test table specs there is_dir).0 t)) in
    subst (λ (asked : Asked). HoldsNoneChosen asked d) c.self.view_is none
