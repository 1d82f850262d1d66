-- What was taken is written, and less is left.
use Rattle.pathspec_parts.proofs.WritingProofs.{appends-more, rest-whole}
use Rattle.pathspec_parts.proofs.writing.write_whole.Goals as goal

pub loop-rest-preserved : goal.loop-rest-preserved
loop-rest-preserved g c = appends-more (g.W.Write.contents c.args.writer.now) (g.W.Write.contents c.loop-rest.writer) (g.W.Write.contents c.write.new.self) c.args.bytes.now c.loop-rest.rest.now _ c.in-Ok.n c.loop-rest.invariant c.in-Ok.ensures.bytes (rest-whole c.in-Ok.n c.loop-rest.rest.now)
