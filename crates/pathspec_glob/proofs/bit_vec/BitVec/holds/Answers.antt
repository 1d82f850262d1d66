use Rattle.std.proofs.Common.{◌≡◌, ◌<◌, ◌/◌, ◌%◌, sym, ◌∙◌, ap, length, get_or, arith}
use Rattle.std.proofs.lemmas.List.{get_or_read}
use Rattle.std.proofs.lemmas.Nat.Bits.{shr_and_one}
use Rattle.pathspec_glob.specs.GlobCells.{has}
use Rattle.pathspec_glob.specs.BitVecs.{holds}
use Rattle.pathspec_glob.proofs.BitVecProofs.{place-within, bits_of-holds}
use Rattle.pathspec_glob.proofs.bit_vec.BitVec.holds.Goals.{After-self}
use Rattle.pathspec_glob.proofs.bit_vec.BitVec.holds.Goals as goal

-- the place is one of the row's
within : (c : After-self) → c.args.place < c.self.inside.len
within c = place-within c.self.inside.words.items c.self.inside.len c.args.self.now c.args.place c.self.view_is c.requires

pub index-requires : goal.index-requires
index-requires c = omega (arith, within (goal.at.index-requires c).After-self, c.self.invariant)

pub returns : goal.returns
returns c =
    let words = c.self.inside.words.items in
    let place = c.args.place in
    let low = within (goal.at.returns c).After-self in
    let at : place / 64 < length words = omega (arith, low, c.self.invariant, c.self.inside.words.ok) in
    let word : c.index.result.now ≡ get_or words (place / 64) 0 = get_or_read words (place / 64) c.index.result.now at c.index.ensures 0 in
    rw (shr_and_one c.index.result.now (place % 64)) (ap (λ n. has n (place % 64)) word ∙ sym (bits_of-holds words c.self.inside.len place low) ∙ ap (λ row. holds row place) c.self.view_is)
