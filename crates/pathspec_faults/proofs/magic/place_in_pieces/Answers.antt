-- One of the texts tells the place, or the next ones do.
use Rattle.std.proofs.Common.{sym, ◌∙◌, ap, ◌+◌, length, arith}
use Rattle.std.proofs.lemmas.List.{length-drop}
use Rattle.pathspec_faults.specs.Places.{place_in_piece, place_in_pieces}
use Rattle.pathspec_faults.specs.WantedViews.{wanted_view}
use Rattle.pathspec_faults.proofs.StepProofs.{pieces_found, pieces_next, pieces_last}
use Rattle.pathspec_faults.proofs.magic.place_in_pieces.Goals as goal

pub returns-then-is_some : goal.returns-then-is_some
returns-then-is_some c =
    let w = wanted_view c.args.wanted.now in
    pieces_found w c.loop-at.from c.in-Some.at c.loop-at.rest.now c.in-Some.ensures _ (c.place_in_piece-found.ensures ∙ ap (place_in_piece w c.loop-at.from) c.around.ensures.front) (sym c.is_some.ensures ∙ c.if-is_some.true) ∙ c.loop-at.invariant.same

pub loop-at-preserved : goal.loop-at-preserved
loop-at-preserved c =
    let w = wanted_view c.args.wanted.now in
    let next = pieces_next w c.loop-at.from c.in-Some.at c.loop-at.rest.now c.in-Some.ensures _ (c.place_in_piece-found.ensures ∙ ap (place_in_piece w c.loop-at.from) c.around.ensures.front) (sym c.is_some.ensures ∙ c.if-is_some.false) in
    record {
      same = ap (place_in_pieces w (c.loop-at.from + (c.in-Some.at + 1))) c.around.ensures.back ∙ (next ∙ c.loop-at.invariant.same);
      end = omega (arith, ap length c.around.ensures.back ∙ length-drop (c.in-Some.at + 1) c.loop-at.rest.now, c.in-Some.ensures.0, c.loop-at.invariant.end);
    }

pub returns : goal.returns
returns c = c.place_in_piece.ensures ∙ (pieces_last (wanted_view c.args.wanted.now) c.loop-at.from 0 c.loop-at.rest.now c.in_default.ensures ∙ c.loop-at.invariant.same)
