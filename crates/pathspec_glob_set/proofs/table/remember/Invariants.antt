use Rattle.std.proofs.Common.{◌<◌}
use Rattle.pathspec_glob_set.proofs.table.remember.Given as goal

abbrev pub invariant-loop-probe : goal.invariant-loop-probe
invariant-loop-probe l = l.at < l.len
