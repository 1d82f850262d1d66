-- The next pattern is made ready for matching, or its fault is the first.
use Rattle.gix_pathspec.proofs.BuildingProofs.{made-more}
use Rattle.gix_pathspec.proofs.search.compiling.compile_all.Goals as goal

pub loop-pattern-preserved : goal.loop-pattern-preserved
loop-pattern-preserved g c =
    (made-more _ _ c.loop-pattern.yielded c.in-Some.pattern _ _ _ _ c.loop-pattern.invariant.0 c.in_ok-fault.ensures.specs, c.in_ok-fault.ensures.bytes)
