-- The path parts from the directory's path, or behind it.
use Rattle.pathspec_explain.proofs.PartingProofs.{parts-longer_folded}
use Rattle.pathspec_explain.proofs.parting.parting_below.Goals as goal

pub returns-in-Some : goal.returns-in-Some
returns-in-Some c = parts-longer_folded c.args.ignore_case c.args.directory.now c.args.path.now c.in-Some.at c.in-Some.ensures
