use Rattle.std.proofs.Common.{◌<◌, length, ap, arith, ◌∙◌}
use Rattle.pathspec_glob.specs.BitVecs.{holds}
use Rattle.pathspec_glob.proofs.BitVecProofs.{word-within, place-within, put-word-there, put-word-other}
use Rattle.pathspec_glob.proofs.bit_vec.BitVec.set_word.Goals as goal

pub index_mut-requires : goal.index_mut-requires
index_mut-requires c = omega (arith, word-within c.self.inside.words.items c.self.inside.len c.args.self.now c.args.index c.self.view_is c.requires, c.self.invariant)

pub returns-clause-there : goal.returns-clause-there
returns-clause-there c i low short =
    let words = c.self.inside.words.items in
    let len = c.self.inside.len in
    let at : c.args.index < length words = omega (arith, word-within words len c.args.self.now c.args.index c.self.view_is c.requires, c.self.invariant, c.self.inside.words.ok) in
    put-word-there words len c.args.index i c.args.word at low (place-within words len c.args.self.now _ c.self.view_is short)

pub returns-clause-before : goal.returns-clause-before
returns-clause-before c i before =
    put-word-other c.self.inside.words.items c.self.inside.len c.args.index i c.args.word (λ e. omega (arith, before, e))
    ∙ ap (λ row. holds row i) c.self.view_is

pub returns-clause-behind : goal.returns-clause-behind
returns-clause-behind c i behind =
    put-word-other c.self.inside.words.items c.self.inside.len c.args.index i c.args.word (λ e. omega (arith, behind, e))
    ∙ ap (λ row. holds row i) c.self.view_is
