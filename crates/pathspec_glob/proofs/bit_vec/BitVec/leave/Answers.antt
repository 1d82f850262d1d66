use Rattle.std.proofs.Common.{◌≡◌, ℕ, ◌+◌, ◌/◌, ◌≤◌, List, ◌++◌, length, take, drop, replicate, ◌∙◌, ap, arith, append-nil}
use Rattle.std.proofs.lemmas.List.{take_all}
use Rattle.std.proofs.Math.ListN.{drop_of_length-le}
use Rattle.pathspec_glob.specs.BitVecs.{bits_of}
use Rattle.pathspec_glob.proofs.BitVecProofs.{length-bits_of, bits_of-left}
use Rattle.pathspec_glob.proofs.bit_vec.BitVec.leave.Goals.{After-self}
use Rattle.pathspec_glob.proofs.bit_vec.BitVec.leave.Goals as goal

-- the places are the row's
within : (c : After-self) → c.args.count ≤ c.self.inside.len
within c = omega (arith, c.requires, ap length c.self.view_is, length-bits_of c.self.inside.words.items c.self.inside.len)

-- a slice of all of a vector is the vector once it has been written
written : (len : ℕ) (new old : List ℕ) → len ≡ length old → length new ≡ length old → take len (new ++ drop (length new) old) ≡ new
written len new old all same = rw (drop_of_length-le old {i = length new} (omega arith), append-nil new) (take_all len new (omega arith))

pub clear-requires : goal.clear-requires
clear-requires c = omega (arith, within (goal.at.clear-requires c).After-self, c.self.invariant, c.deref_mut.ensures.len, c.self.inside.words.ok)

pub returns-clause-left : goal.returns-clause-left
returns-clause-left c =
    let words = c.self.inside.words in
    let cleared : c.clear.new.words ≡ replicate (c.args.count / 64 + 1) 0 ++ drop (c.args.count / 64 + 1) words.items = rw c.deref_mut.ensures.value at c.clear.ensures in
    let len : length c.clear.new.words ≡ length words.items = c.clear.auto.words ∙ ap length c.deref_mut.ensures.value in
    ap (λ xs. take c.args.count (bits_of xs c.self.inside.len)) (written words.len c.clear.new.words words.items words.ok.0 len ∙ cleared)
    ∙ bits_of-left words.items c.self.inside.len c.args.count (within (goal.at.returns-clause-left c).After-self)
