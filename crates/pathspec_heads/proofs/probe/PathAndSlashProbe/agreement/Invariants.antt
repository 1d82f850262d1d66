use Rattle.std.proofs.Common.{◌≤◌, take}
use Rattle.pathspec_heads.specs.Agreement.{agreement}
use Rattle.pathspec_heads.specs.Stems.{with_slash}
use Rattle.pathspec_heads.proofs.probe.PathAndSlashProbe.agreement.Given as goal

abbrev pub invariant-loop-at : goal.invariant-loop-at
invariant-loop-at l = l.at ≤ agreement (take l.len l.bytes) (with_slash l.self.ignore_case l.self.path.now)
