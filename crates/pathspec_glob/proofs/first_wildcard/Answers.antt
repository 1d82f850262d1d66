use Rattle.std.proofs.Common.{is_some, ap, ◌∙◌}
use Rattle.pathspec_glob.specs.Bytes.{is_wildcard}
use Rattle.pathspec_glob.proofs.BracketProofs.{position_any}
use Rattle.pathspec_glob.proofs.StemProofs.{match_begins_stem}
use Rattle.pathspec_glob.proofs.first_wildcard.Goals as goal

pub returns-clause-found : goal.returns-clause-found
returns-clause-found c = ap is_some c.place_of_wildcard.ensures ∙ position_any is_wildcard c.args.text.now

pub returns-clause-stem : goal.returns-clause-stem
returns-clause-stem c = match_begins_stem
