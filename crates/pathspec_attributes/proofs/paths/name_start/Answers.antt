use Rattle.pathspec_attributes.proofs.PathProofs.{start-behind, start-front}
use Rattle.pathspec_attributes.proofs.paths.name_start.Goals as goal

pub returns-in-Some : goal.returns-in-Some
returns-in-Some c = start-behind _ _ c.in-Some.ensures

pub returns-in-None : goal.returns-in-None
returns-in-None c = start-front _ c.in-None.ensures
