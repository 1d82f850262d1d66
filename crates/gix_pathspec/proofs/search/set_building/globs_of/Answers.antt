-- Each number is that of a source with the head.
use Rattle.std.proofs.Common.{◌∙◌, [], ◌∷◌, ◌++◌, refl, sym, ap, arith, get_or}
use Rattle.gix_pathspec.specs.SetSources.{member_behind}
use Rattle.gix_pathspec.proofs.SetBuildingProofs.{globs-all, globs-more, number-within}
use Rattle.gix_pathspec.proofs.search.set_building.globs_of.Goals as goal

pub bounds-sources-number : goal.bounds-sources-number
bounds-sources-number c =
    number-within c.args.head.now c.args.sources.now c.args.numbers.now c.loop-number.number-index (get_or c.args.numbers.now c.loop-number.number-index 0) c.requires c.loop-number-test.true refl

pub offset_bounds-sources-number : goal.offset_bounds-sources-number
offset_bounds-sources-number c =
    let within = number-within c.args.head.now c.args.sources.now c.args.numbers.now c.loop-number.number-index (get_or c.args.numbers.now c.loop-number.number-index 0) c.requires c.loop-number-test.true refl in
    omega (arith, within)

pub loop-number-preserved : goal.loop-number-preserved
loop-number-preserved c =
    let sources = c.args.sources.now in
    let number = get_or c.args.numbers.now c.loop-number.number-index 0 in
    let source = c.index-sources-number.result in
    let more = globs-more c.args.head.now sources c.args.numbers.now c.loop-number.number-index number source c.requires c.loop-number-test.true refl c.index-sources-number.is in
    c.in_ok-push.ensures.items ∙ ap (λ g. c.loop-number.globs.items ++ g ∷ []) c.in_ok-behind_head.ensures ∙ ap (λ gs. gs ++ member_behind source ∷ []) c.loop-number.invariant ∙ sym more

pub returns : goal.returns
returns c = globs-all c.args.head.now c.args.sources.now c.args.numbers.now c.loop-number.globs.items c.loop-number.number-index c.requires c.loop-number-test.false c.loop-number.invariant
