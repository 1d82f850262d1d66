-- Each bit is there where it was set.
use Rattle.pathspec_c.proofs.BitProofs.{bits-say}
use Rattle.pathspec_c.proofs.defaults.bits_of.Goals as goal

pub returns : goal.returns
returns c = rw (c.bit.ensures, c.bit-2.ensures, c.bit-3.ensures, c.bit-4.ensures) (bits-say c.args.literal c.args.ignore_case c.args.glob c.args.noglob)
