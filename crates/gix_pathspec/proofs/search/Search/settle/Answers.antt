-- What is selected follows from the answer, since the specs stand in search order.
use Rattle.std.proofs.Common.{◌≡◌, ◌∙◌, sym, ap, subst, List}
use Rattle.bstr.specs.BStr.{bstr_bytes}
use Rattle.std.specs.Option.{option_map}
use Rattle.gix_pathspec.specs.Effort.{IsBySpec}
use Rattle.gix_pathspec.specs.Found.{is_directory, answer_found, match_view}
use Rattle.gix_pathspec.specs.Search.{Numbered, SearchContents}
use Rattle.gix_pathspec.proofs.ChosenProofs.{order_is_free, chosen_is_test}
use Rattle.gix_pathspec.proofs.EffortProofs.{by-spec}
use Rattle.gix_pathspec.proofs.FoundProofs.{selected-found}
use Rattle.gix_pathspec.proofs.HeadProofs.{fitted_begins_head, fitted_begins_stem}
use Rattle.gix_pathspec.proofs.MatchingProofs.{fitted_matches}
use Rattle.gix_pathspec.proofs.VisitProofs.{found_is_skipped}
use Rattle.gix_pathspec.proofs.search.Search.settle.Goals as goal

pub returns-clause-selected : goal.returns-clause-selected
returns-clause-selected g c =
    let same : c.self.inside.specs ≡ c.args.self.now.specs = ap (λ (s : SearchContents). s.specs) c.self.view_is in
    (selected-found (g.L.LookUp.table c.args.look_up.now) c.self.inside.specs c.args.self.now.specs (bstr_bytes c.args.path) (is_directory c.args.is_dir) c.in_ok-found.found (option_map match_view c.match_found.result) same c.self.invariant.is_ordered c.in_ok-found.ensures.answer
    (c.match_found.ensures ∙ ap (λ (ms : List Numbered). answer_found ms (bstr_bytes c.args.path) c.in_ok-found.found) (sym same))).0

pub returns-clause-begins : goal.returns-clause-begins
returns-clause-begins g c =
    let same : c.self.inside.specs ≡ c.args.self.now.specs = ap (λ (s : SearchContents). s.specs) c.self.view_is in
    (selected-found (g.L.LookUp.table c.args.look_up.now) c.self.inside.specs c.args.self.now.specs (bstr_bytes c.args.path) (is_directory c.args.is_dir) c.in_ok-found.found (option_map match_view c.match_found.result) same c.self.invariant.is_ordered c.in_ok-found.ensures.answer
    (c.match_found.ensures ∙ ap (λ (ms : List Numbered). answer_found ms (bstr_bytes c.args.path) c.in_ok-found.found) (sym same))).1

pub returns-clause-looked : goal.returns-clause-looked
returns-clause-looked g c =
    let path = bstr_bytes c.args.path in
    λ by. c.in_ok-found.ensures.looked (by-spec c.args.self.now.specs path c.in_ok-found.found (subst (IsBySpec c.args.self.now.specs path) c.match_found.ensures by))

pub returns-in_err-found-clause-order : goal.returns-in_err-found-clause-order
returns-in_err-found-clause-order g c = order_is_free

pub returns-in_err-found-clause-test : goal.returns-in_err-found-clause-test
returns-in_err-found-clause-test g c = chosen_is_test

pub returns-in_err-found-clause-fitted : goal.returns-in_err-found-clause-fitted
returns-in_err-found-clause-fitted g c = (fitted_begins_head, fitted_begins_stem, fitted_matches)

pub returns-clause-order : goal.returns-clause-order
returns-clause-order g c = order_is_free

pub returns-clause-test : goal.returns-clause-test
returns-clause-test g c = chosen_is_test

pub returns-clause-fitted : goal.returns-clause-fitted
returns-clause-fitted g c = (fitted_begins_head, fitted_begins_stem, fitted_matches)

pub returns-in_err-found-clause-whole : goal.returns-in_err-found-clause-whole
returns-in_err-found-clause-whole g c = found_is_skipped

pub returns-clause-whole : goal.returns-clause-whole
returns-clause-whole g c = found_is_skipped
