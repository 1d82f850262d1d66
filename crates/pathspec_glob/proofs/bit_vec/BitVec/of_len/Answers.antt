use Rattle.std.proofs.Common.{◌∙◌, ap}
use Rattle.pathspec_glob.specs.BitVecs.{bits_of}
use Rattle.pathspec_glob.proofs.BitVecProofs.{bits_of-none}
use Rattle.pathspec_glob.proofs.bit_vec.BitVec.of_len.Goals as goal

pub returns-clause-bits : goal.returns-clause-bits
returns-clause-bits c = ap (λ xs. bits_of xs c.args.len) (c.in_ok-vec.ensures.items_if_clones_equal (λ y e. e)) ∙ bits_of-none c.args.len
