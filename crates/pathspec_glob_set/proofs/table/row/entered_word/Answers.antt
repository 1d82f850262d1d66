use Rattle.pathspec_glob_set.proofs.RowProofs.{has_entered}
use Rattle.pathspec_glob_set.proofs.table.row.entered_word.Goals as goal

pub returns : goal.returns
returns c i h = has_entered c.args.taken c.args.wide c.args.carry i h
