-- Where a member is next, it has a place.
use Rattle.std.proofs.Common.{◌≡◌, ◌∙◌, sym, arith, get_or, None, Some}
use Rattle.std.proofs.lemmas.Option.{slice_get-get_or}
use Rattle.gix_pathspec.specs.SetSources.{places_behind}
use Rattle.gix_pathspec.proofs.HeadSetProofs.{own-length, place-known}
use Rattle.gix_pathspec.proofs.by_head.head_set.HeadSet.is_passed.Goals as goal

pub returns-in-None-clause-behind : goal.returns-in-None-clause-behind
returns-in-None-clause-behind c specs told own same low =
    let set = c.args.self.now in
    let places = places_behind set.head specs in
    let known = place-known specs c.args.places.now set c.place.result own same c.place.ensures in
    let there = slice_get-get_or places set.next 0 (omega (arith, low, own-length specs set own)) in
    let no : None ≡ Some (get_or places set.next 0) = sym c.in-None.is ∙ known ∙ there in
    cc
