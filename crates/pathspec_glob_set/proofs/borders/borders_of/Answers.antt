use Rattle.std.proofs.Common.{suc, arith}
use Rattle.pathspec_glob_set.proofs.BorderProofs.{no-marks}
use Rattle.pathspec_glob_set.proofs.borders.borders_of.Goals as goal

pub loop-glob-init : goal.loop-glob-init
loop-glob-init c = record {
  marked = λ b g glob less none low. absurd (let off : ⊥ = omega (arith, low) in off);
  only = λ b alike. no-marks 256 (suc b);
}
