use Rattle.pathspec_glob_set.proofs.RowProofs.{word-carried}
use Rattle.pathspec_glob_set.proofs.table.row.carried.Goals as goal

pub returns : goal.returns
returns c = word-carried c.args.row c.args.wide c.args.over c.ranges.wide.fits c.ranges.over.fits
