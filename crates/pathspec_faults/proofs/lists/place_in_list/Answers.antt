-- One of the texts tells the place, or the next ones do.
use Rattle.std.proofs.Common.{sym, ◌∙◌, ap, ◌+◌, length, arith}
use Rattle.std.proofs.lemmas.List.{length-drop}
use Rattle.pathspec_faults.specs.Places.{is_space, place_in_part, place_in_list}
use Rattle.pathspec_faults.specs.WantedViews.{wanted_view}
use Rattle.pathspec_faults.proofs.PositionProofs.{position_some, position_none}
use Rattle.pathspec_faults.proofs.ListSteps.{part_found, part_next, part_last}
use Rattle.pathspec_faults.proofs.lists.place_in_list.Goals as goal

pub returns-then-is_some : goal.returns-then-is_some
returns-then-is_some c =
    let w = wanted_view c.args.wanted.now in
    let told = position_some is_space c.loop-at.rest.now c.in-Some.at c.in-Some.ensures.place in
    part_found w c.loop-at.from c.in-Some.at c.loop-at.rest.now told.0 told.1 _ (c.place_in_part-found.ensures ∙ ap (place_in_part w c.loop-at.from) c.around.ensures.front) (sym c.is_some.ensures ∙ c.if-is_some.true) ∙ c.loop-at.invariant.same

pub loop-at-preserved : goal.loop-at-preserved
loop-at-preserved c =
    let w = wanted_view c.args.wanted.now in
    let told = position_some is_space c.loop-at.rest.now c.in-Some.at c.in-Some.ensures.place in
    let next = part_next w c.loop-at.from c.in-Some.at c.loop-at.rest.now told.0 told.1 _ (c.place_in_part-found.ensures ∙ ap (place_in_part w c.loop-at.from) c.around.ensures.front) (sym c.is_some.ensures ∙ c.if-is_some.false) in
    record {
      same = ap (place_in_list w (c.loop-at.from + (c.in-Some.at + 1))) c.around.ensures.back ∙ (next ∙ c.loop-at.invariant.same);
      end = omega (arith, ap length c.around.ensures.back ∙ length-drop (c.in-Some.at + 1) c.loop-at.rest.now, c.in-Some.ensures.within, c.loop-at.invariant.end);
    }

pub returns : goal.returns
returns c = c.place_in_part.ensures ∙ (part_last (wanted_view c.args.wanted.now) c.loop-at.from c.loop-at.rest.now (position_none is_space c.loop-at.rest.now c.in_default.ensures.place) ∙ c.loop-at.invariant.same)
