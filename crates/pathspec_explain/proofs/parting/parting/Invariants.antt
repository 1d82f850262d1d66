-- The bytes so far begin the path.
use Rattle.std.proofs.Common.{◌≡◌, true, take}
use Rattle.gix_pathspec.specs.Bytes.{begins_with, fold_case}
use Rattle.pathspec_explain.proofs.parting.parting.Given as goal

abbrev pub invariant-loop-at : goal.invariant-loop-at
invariant-loop-at l = begins_with (fold_case l.ignore_case l.path) (take l.at (fold_case l.ignore_case l.text)) ≡ true
