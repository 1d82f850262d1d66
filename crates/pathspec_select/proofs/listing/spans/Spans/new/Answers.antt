use Rattle.std.proofs.Common.{rules}
use Rattle.pathspec_select.specs.PackedSpans.{unpacked}
use Rattle.pathspec_select.proofs.listing.spans.Spans.new.Goals as goal

pub returns : goal.returns
unfolding unpacked
returns c = search rules
