use Rattle.std.proofs.Common.{◌≡◌, ◌-◌, length}
use Rattle.pathspec_filter.specs.Places.{chooses}
use Rattle.pathspec_filter.specs.Passes.{IsWithin}
use Rattle.pathspec_filter.proofs.pass.Taker.pass.Given as goal

abbrev pub invariant-loop-record : goal.invariant-loop-record
invariant-loop-record g l = record {
  within : IsWithin (chooses (g.L.LookUp.table l.fn.look_up) l.fn.self.chooser) l.fn.self.chooser.separator l.bytes l.rest l.run (g.W.Write.contents l.fn.writer) (g.W.Write.contents l.writer) l.self.held.items l.fn.self.counts l.self.counts;
  kept : l.self.chooser ≡ l.fn.self.chooser;
  table : g.L.LookUp.table l.look_up ≡ g.L.LookUp.table l.fn.look_up;
  count : g.L.LookUp.failures l.look_up ≡ g.L.LookUp.failures l.fn.look_up;
}

abbrev pub decreases-loop-record : goal.decreases-loop-record
decreases-loop-record g l = length l.rest - l.run
