-- A word that says nothing is the fault.
use Rattle.std.proofs.Common.{refl}
use Rattle.gix_pathspec.specs.Faults.Fault.{NotTruth}
use Rattle.pathspec_c.proofs.defaults.flag_of.Goals as goal

pub returns-in-None : goal.returns-in-None
returns-in-None c = (NotTruth c.args.word.now, refl, rw (← c.in-None.ensures.value) refl)
