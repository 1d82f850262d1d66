use Rattle.std.proofs.Common.{◌≡◌, ◌<◌, ◌*◌, ◌/◌, ◌∙◌, ap, length, get_or, set, arith}
use Rattle.std.proofs.lemmas.List.{get_or_read}
use Rattle.pathspec_glob.proofs.BitVecProofs.{place-within, row-put, bits_of-put}
use Rattle.pathspec_glob.proofs.bit_vec.BitVec.set.Goals.{After-self}
use Rattle.pathspec_glob.proofs.bit_vec.BitVec.set.Goals as goal

-- the place is one of the row's
within : (c : After-self) → c.args.place < c.self.inside.len
within c = place-within c.self.inside.words.items c.self.inside.len c.args.self.now c.args.place c.self.view_is c.requires

pub index-requires : goal.index-requires
index-requires c = omega (arith, within (goal.at.index-requires c).After-self, c.self.invariant)

pub index_mut-requires : goal.index_mut-requires
index_mut-requires c = omega (arith, within (goal.at.index_mut-requires c).After-self, c.self.invariant)

pub returns : goal.returns
returns c =
    let words = c.self.inside.words.items in
    let place = c.args.place in
    let word = c.with_bit-word.result in
    let low = within (goal.at.returns c).After-self in
    let at : place / 64 < length words = omega (arith, low, c.self.invariant, c.self.inside.words.ok) in
    let fits : place < length words * 64 = omega (arith, low, c.self.invariant, c.self.inside.words.ok) in
    let old : c.index.result.now ≡ get_or words (place / 64) 0 = get_or_read words (place / 64) c.index.result.now at c.index.ensures 0 in
    bits_of-put words (set words (place / 64) word) place c.args.value (row-put words place word c.args.value fits (λ i h. rw old at (c.with_bit-word.ensures i h))) c.self.inside.len
    ∙ ap (λ row. set row place c.args.value) c.self.view_is
