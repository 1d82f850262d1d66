-- The path of a good record lies in its directory.
use Rattle.std.proofs.Common.{◌∙◌, sym, subst, List, ℕ}
use Rattle.pathspec_parts.specs.RecordParts.{IsFreeOf}
use Rattle.pathspec_filter.specs.Places.{Asked, Choice, LiesIn, IsPlace}
use Rattle.pathspec_filter.proofs.PlaceProofs.{path-some, path-inside, place-of, place-top}
use Rattle.pathspec_filter.proofs.choice.Chooser.decide.Goals as goal

pub takes-requires-clause-some : goal.takes-requires-clause-some
takes-requires-clause-some g c = λ e. path-some c.args.text.now c.requires.good (sym c.strip_last_slash-is_dir.ensures.path ∙ e)

pub takes-requires-clause-inside : goal.takes-requires-clause-inside
takes-requires-clause-inside g c =
    let text = c.args.text.now in
    let parents = c.split_name.result.0.now in
    let name = c.split_name.result.1.now in
    let path = c.strip_last_slash-is_dir.result.0.now in
    subst (λ (d : List ℕ). LiesIn d path) (sym c.in_ok-go_to.ensures.there) (subst (LiesIn parents) (sym c.strip_last_slash-is_dir.ensures.path) (path-inside text parents name c.split_name.ensures.whole c.split_name.ensures.some))

pub invariant_of-self : goal.invariant_of-self
invariant_of-self g c =
    let s = c.self.inside in
    let place = c.go_to.new.self in
    subst (λ (asked : Asked). IsPlace asked s.separator place.directory.items place.skipped) (sym c.go_to.ensures.kept) (place-top s.questions s.separator place.directory.items place.skipped c.in_err-go_to.ensures.top c.go_to.ensures.skipped)

pub invariant_of-self-2 : goal.invariant_of-self-2
invariant_of-self-2 g c =
    let s = c.self.inside in
    let text = c.args.text.now in
    let place = c.go_to.new.self in
    let free = subst (λ (x : Choice). IsFreeOf x.separator text) (sym c.self.view_is) c.requires.free in
    subst (λ (asked : Asked). IsPlace asked s.separator place.directory.items place.skipped) (sym (c.takes.ensures.kept ∙ c.go_to.ensures.kept))
    (place-of s.questions s.separator text c.split_name.result.0.now c.split_name.result.1.now place.directory.items place.skipped c.split_name.ensures.whole c.requires.good free c.in_ok-go_to.ensures.there c.go_to.ensures.skipped)
