-- The specs so far stand in front of those that are left.
use Rattle.std.proofs.Common.{◌≡◌, ◌++◌, length}
use Rattle.gix_pathspec.specs.Search.{specs_of}
use Rattle.pathspec_explain.proofs.asked.asked_specs.Given as goal

abbrev pub invariant-loop-pattern : goal.invariant-loop-pattern
invariant-loop-pattern l = l.asked.items ++ l.patterns ≡ specs_of l.search.specs

abbrev pub decreases-loop-pattern : goal.decreases-loop-pattern
decreases-loop-pattern l = length l.patterns
