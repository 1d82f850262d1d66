-- The path lies below the directory, or parts from its path and a slash at that slash.
use Rattle.std.proofs.Common.{sym, refl}
use Rattle.pathspec_explain.proofs.PartingProofs.{parts-behind_folded}
use Rattle.pathspec_explain.proofs.parting.parting_behind.Goals as goal

pub returns-else-is_below : goal.returns-else-is_below
returns-else-is_below c = parts-behind_folded c.args.ignore_case c.args.directory.now c.args.path.now _ refl c.requires (sym c.if-is_below.ensures)
