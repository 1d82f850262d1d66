use Rattle.pathspec_glob_set.proofs.RowProofs.{has_led}
use Rattle.pathspec_glob_set.proofs.table.row.follow.Goals as goal

pub returns : goal.returns
returns c i h = has_led c.args.entered c.args.row c.args.wide c.args.over i h
