use Rattle.std.proofs.Common.{◌≡◌, take}
use Rattle.pathspec_parts.specs.Outcomes.{names_of}
use Rattle.pathspec_parts.specs.AttributeRows.{rows_of}
use Rattle.pathspec_parts.specs.RowNumbers.{rows_of_path}
use Rattle.pathspec_parts.proofs.RowNumberProofs.{apply_each}
use Rattle.pathspec_parts.proofs.attributes.rows.apply_rows.Given as goal

abbrev pub invariant-loop-number : goal.invariant-loop-number
invariant-loop-number l = record {
  so_far : l.out ≡ apply_each l.fn.out (take l.number-index (rows_of_path l.path (rows_of l.rows)));
  names : names_of l.out ≡ names_of l.fn.out;
}
