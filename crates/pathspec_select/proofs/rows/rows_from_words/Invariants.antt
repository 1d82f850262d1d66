use Rattle.std.proofs.Common.{length, map, string_bytes}
use Rattle.pathspec_select.specs.Options.{no_options}
use Rattle.pathspec_select.specs.OptionWords.{options_from}
use Rattle.pathspec_select.proofs.RowProofs.{RowsTo}
use Rattle.pathspec_select.proofs.rows.rows_from_words.Given as goal

abbrev pub invariant-loop-rows : goal.invariant-loop-rows
invariant-loop-rows l = RowsTo (options_from no_options (map string_bytes l.words)) l.rows (map string_bytes l.left)

abbrev pub decreases-loop-rows : goal.decreases-loop-rows
decreases-loop-rows l = length l.left
