-- The set has the globs of the sources with the head.
use Rattle.std.proofs.Common.{◌<◌, ◌≤◌, ◌∙◌, ℕ, List, sym, ap, subst, arith, length}
use Rattle.std.specs.Prelude.{is_some, IfSome}
use Rattle.pathspec_glob_set.specs.Answers.{IsSetOf}
use Rattle.pathspec_glob_set.specs.Sets.{count_places, AreMovesOf}
use Rattle.pathspec_glob_set.specs.Sizes.{most_places}
use Rattle.pathspec_glob_set.proofs.AnswerProofs.{alike-moves}
use Rattle.gix_pathspec.specs.SetSources.{members_behind}
use Rattle.gix_pathspec.proofs.SetBuildingProofs.{few-none, globs-count, set-made}
use Rattle.gix_pathspec.proofs.search.set_building.set_of.Goals as goal

pub returns-then-len-lt-FEWEST-clause-none : goal.returns-then-len-lt-FEWEST-clause-none
returns-then-len-lt-FEWEST-clause-none c none =
    let few : length c.args.numbers.items < 4 = omega (arith, c.if-len-lt-FEWEST.true) in
    few-none c.args.head.now c.args.sources.now c.args.numbers.items c.requires few

pub new-requires-2 : goal.new-requires-2
new-requires-2 c =
    let globs = members_behind c.args.head.now c.args.sources.now in
    let same = c.deref-2.ensures.value ∙ c.in_ok-globs.ensures in
    let of = subst (λ gs. IsSetOf gs c.in-Some.set) same (subst (λ o. IfSome o (IsSetOf c.deref-2.result.now)) c.in-Some.is c.in_ok-set.ensures.set) in
    let own = alike-moves globs c.in_ok-scratch.scratch.table.moves c.in-Some.set.moves c.in_ok-scratch.ensures.alike of in
    own.ends.len ∙ globs-count c.args.head.now c.args.sources.now ∙ ap length (sym c.requires)

pub returns-clause-made : goal.returns-clause-made
returns-clause-made c =
    let h = c.args.head.now in
    let sources = c.args.sources.now in
    let globs = members_behind h sources in
    let many : 4 ≤ length c.args.numbers.items = omega (arith, c.if-len-lt-FEWEST.false) in
    let same = c.deref-2.ensures.value ∙ c.in_ok-globs.ensures in
    let of = subst (λ gs. IsSetOf gs c.in-Some.set) same (subst (λ o. IfSome o (IsSetOf c.deref-2.result.now)) c.in-Some.is c.in_ok-set.ensures.set) in
    let own = alike-moves globs c.in_ok-scratch.scratch.table.moves c.in-Some.set.moves c.in_ok-scratch.ensures.alike of in
    let few = subst (λ gs. count_places gs ≤ most_places) same (c.in_ok-set.ensures.few (ap is_some c.in-Some.is)) in
    let head = c.new-2.ensures.head ∙ c.new-head.ensures ∙ c.in_ok-from_slice.ensures.items in
    let numbers = ap (λ v. v.items) c.new-2.ensures.numbers ∙ c.requires in
    (set-made h sources c.new-2.result head numbers (subst (λ (rs : List ℕ). 4 ≤ length rs) (sym (ap (λ v. v.items) c.new-2.ensures.numbers)) many) few (subst (λ s. AreMovesOf globs s.table.moves) (sym c.new-2.ensures.set) own), head)

pub returns-clause-unread : goal.returns-clause-unread
returns-clause-unread c = record { at_rest = c.new-2.ensures.at_rest; uncounted = c.new-2.ensures.total ∙ c.in_ok-scratch.ensures.fresh.total }
