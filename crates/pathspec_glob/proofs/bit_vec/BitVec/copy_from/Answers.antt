use Rattle.std.proofs.Common.{◌≡◌, ◌∙◌, sym, ap, length, arith}
use Rattle.pathspec_glob.specs.BitVecs.{bits_of}
use Rattle.pathspec_glob.proofs.BitVecProofs.{length-bits_of}
use Rattle.pathspec_glob.proofs.bit_vec.BitVec.copy_from.Goals as goal

pub copy_from_slice-requires : goal.copy_from_slice-requires
copy_from_slice-requires c =
    let mine : c.self.inside.len ≡ length c.args.self.now = sym (length-bits_of c.self.inside.words.items c.self.inside.len) ∙ ap length c.self.view_is in
    let its : c.other.inside.len ≡ length c.args.other.now = sym (length-bits_of c.other.inside.words.items c.other.inside.len) ∙ ap length c.other.view_is in
    omega (arith, mine, its, c.requires, c.self.invariant, c.other.invariant, c.deref.ensures.len)

pub returns : goal.returns
returns c =
    let mine : c.self.inside.len ≡ length c.args.self.now = sym (length-bits_of c.self.inside.words.items c.self.inside.len) ∙ ap length c.self.view_is in
    let its : c.other.inside.len ≡ length c.args.other.now = sym (length-bits_of c.other.inside.words.items c.other.inside.len) ∙ ap length c.other.view_is in
    let same : c.self.inside.len ≡ c.other.inside.len = mine ∙ sym c.requires ∙ sym its in
    ap (λ ws. bits_of ws c.self.inside.len) (c.copy_from_slice.ensures.items ∙ c.deref.ensures.value) ∙ ap (bits_of c.other.inside.words.items) same ∙ c.other.view_is
