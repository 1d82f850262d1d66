-- What stands behind the first bytes is moved to the front.
use Rattle.std.proofs.Common.{◌≤◌, ◌∙◌, ap, arith, drop, length}
use Rattle.std.proofs.lemmas.List.{length-take-le}
use Rattle.pathspec_filter.proofs.ChunkProofs.{front_dropped}
use Rattle.pathspec_filter.proofs.chunk.Chunk.drop_front.Goals as goal

pub returns : goal.returns
returns c =
    let s = c.self.inside in
    let xs = s.buffer.items in
    let inside : s.filled ≤ length xs = omega (arith, c.self.invariant.0, s.buffer.ok) in
    front_dropped xs c.copy_within.new.self.items s.filled c.args.count (omega (arith, c.requires, ap length c.self.view_is, length-take-le s.filled xs inside)) inside c.copy_within.ensures.items ∙ ap (drop c.args.count) c.self.view_is
