use Rattle.std.proofs.Common.{◌≡◌, ◌<◌, ◌+◌, ◌*◌, ◌/◌, ◌%◌, sym, ◌∙◌, ap, length, get_or, arith, refl}
use Rattle.std.proofs.lemmas.List.{get_or_read}
use Rattle.pathspec_glob.specs.GlobCells.{has}
use Rattle.pathspec_glob.specs.BitVecs.{holds}
use Rattle.pathspec_glob.proofs.BitVecProofs.{word-within, place-within, bits_of-holds}
use Rattle.pathspec_glob.proofs.bit_vec.BitVec.word.Goals as goal

pub index-requires : goal.index-requires
index-requires c = omega (arith, word-within c.self.inside.words.items c.self.inside.len c.args.self.now c.args.index c.self.view_is c.requires, c.self.invariant)

pub returns : goal.returns
returns c i low short =
    let words = c.self.inside.words.items in
    let index = c.args.index in
    let at : index < length words = omega (arith, word-within words c.self.inside.len c.args.self.now index c.self.view_is c.requires, c.self.invariant, c.self.inside.words.ok) in
    let word : c.index.result.now ≡ get_or words index 0 = get_or_read words index c.index.result.now at c.index.ensures 0 in
    let whole : (index * 64 + i) / 64 ≡ index = omega (arith, low) in
    let part : (index * 64 + i) % 64 ≡ i = omega (arith, low) in
    let within = place-within words c.self.inside.len c.args.self.now (index * 64 + i) c.self.view_is short in
    ap (λ n. has n i) word
    ∙ sym (bits_of-holds words c.self.inside.len (index * 64 + i) within ∙ rw (whole, part) refl)
    ∙ ap (λ row. holds row (index * 64 + i)) c.self.view_is
