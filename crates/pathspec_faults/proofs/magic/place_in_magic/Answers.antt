-- Long magic lies behind the first `(`.
use Rattle.std.proofs.Common.{◌∙◌}
use Rattle.pathspec_faults.specs.Places.{is_open}
use Rattle.pathspec_faults.specs.WantedViews.{wanted_view}
use Rattle.pathspec_faults.proofs.PositionProofs.{position_some}
use Rattle.pathspec_faults.proofs.ListSteps.{magic_at}
use Rattle.pathspec_faults.proofs.magic.place_in_magic.Goals as goal

pub returns : goal.returns
returns c =
    let told = position_some is_open c.args.text.now c.in_ok-at.at c.in_ok-at.ensures.place in
    c.place_in_pieces.ensures ∙ magic_at (wanted_view c.args.wanted.now) c.args.text.now _ _ c.in_ok-at.at told.0 told.1 c.around.ensures.back c.at_first.ensures.before
