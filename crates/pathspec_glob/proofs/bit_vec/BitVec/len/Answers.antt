use Rattle.std.proofs.Common.{sym, ◌∙◌, ap, length}
use Rattle.pathspec_glob.proofs.BitVecProofs.{length-bits_of}
use Rattle.pathspec_glob.proofs.bit_vec.BitVec.len.Goals as goal

pub returns : goal.returns
returns c = sym (length-bits_of c.self.inside.words.items c.self.inside.len) ∙ ap length c.self.view_is
