-- Nor has it bytes, so threads may share it.
use denote.Param.Send.{IsSync, part_keyless}
use Rattle.pathspec_glob.specs.contracts.source.Source.{the_row}
use Rattle.pathspec_glob.proofs.source.Source.TheSendSync.Send.{send}

pub sync : IsSync the_row
sync = record { shared = λ d b o κ q. part_keyless the_row send q d b o }
