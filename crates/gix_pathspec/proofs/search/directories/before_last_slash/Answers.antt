-- The last byte that is found is the last slash.
use Rattle.gix_pathspec.proofs.SlashProofs.{last-slash, no-slash}
use Rattle.gix_pathspec.proofs.search.directories.before_last_slash.Goals as goal

pub returns-in-Some : goal.returns-in-Some
returns-in-Some c = last-slash _ _ c.in-Some.ensures

pub returns-in-None : goal.returns-in-None
returns-in-None c = no-slash _ c.in-None.ensures
