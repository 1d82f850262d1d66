-- What is read stands behind what stood there.
use Rattle.std.proofs.Common.{arith, take}
use Rattle.pathspec_filter.proofs.ChunkProofs.{read_front, read_more}
use Rattle.pathspec_filter.proofs.chunk.read_behind.Goals as goal

pub returns-in-Ok-clause-read : goal.returns-in-Ok-clause-read
returns-in-Ok-clause-read g c = record {
  given = take c.in-Ok.count c.read.new.buf;
  whole = read_more c.args.buffer.now c.read.new.buf _ c.args.filled c.in-Ok.count (omega (arith, c.requires)) c.in-Ok.ensures.bound.0;
  counted = c.in-Ok.ensures.bound.1;
  consumed = c.in-Ok.ensures.bytes.0;
  ended = λ e. c.in-Ok.ensures.bytes.1 e (omega (arith, c.read.auto.buf, c.requires));
}

pub returns-in-Ok-clause-front : goal.returns-in-Ok-clause-front
returns-in-Ok-clause-front g c = read_front c.args.buffer.now c.read.new.buf _ c.args.filled (omega (arith, c.requires))
