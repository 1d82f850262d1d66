-- None so far is an include, so what is left decides.
use Rattle.std.proofs.Common.{◌≡◌, length}
use Rattle.std.specs.List.{list_any}
use Rattle.gix_pathspec.specs.Specs.{is_include}
use Rattle.gix_pathspec.specs.Search.{specs_of}
use Rattle.pathspec_explain.proofs.verdict.has_include.Given as goal

abbrev pub invariant-loop-pattern : goal.invariant-loop-pattern
invariant-loop-pattern l = list_any is_include l.patterns ≡ list_any is_include (specs_of l.search.specs)

abbrev pub decreases-loop-pattern : goal.decreases-loop-pattern
decreases-loop-pattern l = length l.patterns
