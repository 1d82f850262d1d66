use Rattle.std.proofs.Common.{◌≡◌, []}
use Rattle.pathspec_filter.specs.Places.{is_taken}
use Rattle.pathspec_filter.proofs.EndProofs.{IsFiltered}
use Rattle.pathspec_filter.proofs.filtering.filter.Given as goal

abbrev pub invariant-loop-taker : goal.invariant-loop-taker
invariant-loop-taker g l = record {
  state : IsFiltered (is_taken (g.L.LookUp.table l.fn.look_up) (record { specs = l.search.specs; selection = l.fn.selection })) l.separator (g.R.Read.remaining l.fn.reader) (g.R.Read.remaining l.reader) (g.W.Write.contents l.fn.writer) (g.W.Write.contents l.writer) l.chunk l.taker.counts l.left;
  asked : l.taker.chooser.asked ≡ record { specs = l.search.specs; selection = l.fn.selection };
  separator : l.taker.chooser.separator ≡ l.separator;
  held : l.taker.held.items ≡ [];
  table : g.L.LookUp.table l.look_up ≡ g.L.LookUp.table l.fn.look_up;
  count : g.L.LookUp.failures l.look_up ≡ g.L.LookUp.failures l.fn.look_up;
}

abbrev pub decreases-loop-taker : goal.decreases-loop-taker
decreases-loop-taker g l = l.left
