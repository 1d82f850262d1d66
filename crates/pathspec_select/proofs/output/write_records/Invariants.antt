use Rattle.std.proofs.Common.{◌≤◌, length, take}
use Rattle.pathspec_select.specs.Listing.{written_entries}
use Rattle.pathspec_select.specs.Outlines.{IsPiece, with_piece}
use Rattle.pathspec_parts.specs.Writing.{AppendsUpTo}
use Rattle.pathspec_select.proofs.output.write_records.Given as goal

abbrev pub invariant-loop-index : goal.invariant-loop-index
invariant-loop-index g l = record {
  few : l.index ≤ length l.entries;
  piece : IsPiece l.outline.bytes l.piece;
  written : AppendsUpTo (g.W.Write.contents l.fn.writer) (g.W.Write.contents l.writer) (written_entries l.separator l.listing.marks (take l.index l.entries)) (with_piece l.buffer.items l.outline.bytes l.piece);
}
