-- Why what words, the environment and an input ask for can't be done.
use Rattle.std.specs.Prelude.{ℕ}
use Rattle.gix_pathspec.specs.Faults.{Fault}

-- why what is asked for can't be done
pub data RequestFault : Type 0 where
  -- the options are wrong
  Usage : RequestFault
  -- the environment has this fault
  BadEnvironment : (fault : Fault) → RequestFault
  -- specs are to stand first in the input, and no line ends them
  NoEnd : RequestFault
  -- the spec with this number, from 0, has this fault
  BadSpec : (number : ℕ) (fault : Fault) → RequestFault
