use Rattle.std.proofs.Common.{length, ap, arith}
use Rattle.pathspec_select.proofs.PackedProofs.{length-unpacked}
use Rattle.pathspec_select.proofs.listing.spans.Spans.len.Goals as goal

pub returns : goal.returns
returns c = let s = c.self.inside in omega (arith, c.len.ensures, s.packed.ok.0, ap length c.self.view_is, length-unpacked s.packed.items s.anchors.items s.others.items)
