-- The items so far stand in front of those that the rest gives.
use Rattle.std.proofs.Common.{◌≡◌, ◌==◌, None, true, length}
use Rattle.std.specs.List.{position}
use Rattle.pathspec_glob.proofs.Words.{close_bracket, is_empty, items_from, items_view}
use Rattle.pathspec_glob.proofs.BracketProofs.{items_before}
use Rattle.pathspec_glob.proofs.brackets.read_items.Given as goal

abbrev pub invariant-loop-item : goal.invariant-loop-item
invariant-loop-item l = record {
  so_far : items_before (items_view l.items.items) (items_from 0 (is_empty l.items.items) l.last l.rest) ≡ items_from 0 true None l.fn.bytes;
  closing : l.closing ≡ position (λ b. b == close_bracket) l.rest;
}

abbrev pub decreases-loop-item : goal.decreases-loop-item
decreases-loop-item l = length l.rest
