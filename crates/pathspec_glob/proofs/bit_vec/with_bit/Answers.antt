use Rattle.pathspec_glob.proofs.BitVecProofs.{put_true, put_false}
use Rattle.pathspec_glob.proofs.bit_vec.with_bit.Goals as goal

pub returns-then-value : goal.returns-then-value
returns-then-value c i h = rw c.if-value.true (put_true c.args.word c.args.place i c.requires h)

pub returns-else-value : goal.returns-else-value
returns-else-value c i h = rw c.if-value.false (put_false c.args.word c.args.place i c.requires h)
