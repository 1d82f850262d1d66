-- One more of the search's specs is ready.
use Rattle.pathspec_explain.proofs.StateProofs.{next-asked}
use Rattle.pathspec_explain.proofs.asked.asked_specs.Goals as goal

pub loop-pattern-preserved : goal.loop-pattern-preserved
loop-pattern-preserved c = next-asked _ _ _ _ _ _ _ c.loop-pattern.invariant c.in-Some.ensures.steps c.in_ok-new.ensures.ok c.in_ok-push.ensures.items
