-- The records of a text that is cut behind a separator are those of both parts.
use Rattle.pathspec_parts.proofs.TextProofs.{records_in_parts, output_in_parts}
use Rattle.pathspec_filter.proofs.filtering.parts_stand_alone.Goals as goal

pub returns-clause-records : goal.returns-clause-records
returns-clause-records c = records_in_parts c.args.separator

pub returns-clause-output : goal.returns-clause-output
returns-clause-output c = output_in_parts c.args.separator
