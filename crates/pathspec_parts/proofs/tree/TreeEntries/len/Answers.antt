use Rattle.std.proofs.Common.{arith}
use Rattle.pathspec_parts.proofs.NodeProofs.{entries_count}
use Rattle.pathspec_parts.proofs.tree.TreeEntries.len.Goals as goal

pub returns : goal.returns
returns c =
    let s = c.self.inside in
    let count = entries_count s.names.items s.nodes.items s.nested s.longest c.self.invariant c.args.self.now c.self.view_is in
    omega (arith, c.len.ensures, s.nodes.ok.0, count)
