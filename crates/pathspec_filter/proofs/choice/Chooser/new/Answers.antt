-- The top takes names, and nothing is skipped there.
use Rattle.std.proofs.Common.{sym, subst}
use Rattle.pathspec_filter.specs.Places.{IsSkippedAt}
use Rattle.pathspec_filter.proofs.PlaceProofs.{place-top, skipped-none}
use Rattle.pathspec_filter.proofs.choice.Chooser.new.Goals as goal

pub invariant_of-result : goal.invariant_of-result
invariant_of-result c =
    let asked = c.in_ok-questions.questions in
    place-top asked c.args.separator c.top.result.directory.items c.top.result.skipped c.top.ensures.directory (subst (IsSkippedAt asked c.top.result.directory.items) (sym c.top.ensures.skipped) (skipped-none asked c.top.result.directory.items))
